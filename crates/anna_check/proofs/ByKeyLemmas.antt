-- The accepted puts key by key, with one more.
use Rattle.std.specs.Prelude.{◌≡◌, ℕ, ◌-◌, List, [], ◌∷◌, ◌++◌, length, map, slice_set}
use Rattle.std.proofs.Common.{refl, sym, ap, ◌∙◌, inl, inr, arith}
use Rattle.std.proofs.Math.ListN.{get_or-map}
use Rattle.std.proofs.Math.Seq.{map-set_same}
use Rattle.std.proofs.lemmas.Bool.{cases_eq}
use Rattle.std.proofs.lemmas.List.{append-nil, get_or-set_same, get_or-set_other}
use Rattle.composed_value.specs.declared.kind.Kind.{Kind}
use Rattle.composed_value.specs.declared.kind.Kind.TheVariants.{Max}
use Rattle.composed_value.specs.declared.put.Put.{Put}
use Rattle.composed_value.specs.Keyed.{puts_on, kind_at}
use Rattle.composed_value.proofs.KeyedLemmas.{puts_on-append, on_its_key, on_no_other}
use Rattle.placement.specs.Config.{IsOneOf}
use Rattle.anna_check.specs.ByKey.{OfKey, of_key, kinds_of, AreByKey}

-- the puts on a key with one more after them
abbrev pub with_put : OfKey → Put → OfKey
with_put on put = record { kind = on.kind; puts = on.puts ++ put ∷ [] }

-- The kinds are as before.
pub kinds_kept : (by_key : List OfKey) (key : ℕ) (put : Put) → kinds_of (slice_set by_key (key - 1) (with_put (of_key by_key key) put)) ≡ kinds_of by_key
kinds_kept by_key key put = map-set_same (λ (on : OfKey). on.kind) by_key (key - 1) _ (record { kind = Max; puts = [] }) refl

-- The lists are the accepted puts with the one more.
pub put_more : (kinds : List Kind) (accepted : List (ℕ × Put)) (by_key : List OfKey) (key : ℕ) (put : Put) → IsOneOf (length by_key) key → AreByKey kinds accepted by_key → AreByKey kinds (accepted ++ (key, put) ∷ []) (slice_set by_key (key - 1) (with_put (of_key by_key key) put))
put_more kinds accepted by_key key put some before = record {
  kinds_are = kinds_kept by_key key put ∙ before.kinds_are;
  puts_are = λ other within.
      let new = with_put (of_key by_key key) put in
      elim (cases_eq key other) [
        | inl same ↦
            ap (λ k. (of_key (slice_set by_key (key - 1) new) k).puts) (sym same)
            ∙ ap (λ (on : OfKey). on.puts) (get_or-set_same by_key (key - 1) new (record { kind = Max; puts = [] }) (omega (arith, some)))
            ∙ ap (λ k. (of_key by_key k).puts ++ put ∷ []) same
            ∙ ap (λ puts. puts ++ put ∷ []) (before.puts_are other within)
            ∙ sym (puts_on-append other accepted ((key, put) ∷ []) ∙ ap (λ more. puts_on other accepted ++ more) (on_its_key key other put same))
        | inr apart ↦
            ap (λ (on : OfKey). on.puts) (get_or-set_other by_key (key - 1) (other - 1) new (record { kind = Max; puts = [] }) (λ e. apart (omega (arith, e, some, within))))
            ∙ before.puts_are other within
            ∙ sym (puts_on-append other accepted ((key, put) ∷ []) ∙ ap (λ more. puts_on other accepted ++ more) (on_no_other key other put apart) ∙ append-nil (puts_on other accepted))
      ];
}

-- no puts on a key of a kind
abbrev pub no_puts : Kind → OfKey
no_puts kind = record { kind = kind; puts = [] }

-- the kinds of keys without puts
kinds_without : (kinds : List Kind) → kinds_of (map no_puts kinds) ≡ kinds
kinds_without [] = refl
kinds_without (kind ∷ kinds) = ap (λ rest. kind ∷ rest) (kinds_without kinds)

-- Where none is accepted there are none on any key.
pub none_accepted : (kinds : List Kind) → AreByKey kinds [] (map no_puts kinds)
none_accepted kinds = record {
  kinds_are = kinds_without kinds;
  puts_are = λ key within. ap (λ (on : OfKey). on.puts) (get_or-map no_puts kinds (key - 1) Max);
}

-- The kind of a key is that of the puts on it.
pub kind_is : (kinds : List Kind) (accepted : List (ℕ × Put)) (by_key : List OfKey) (key : ℕ) → AreByKey kinds accepted by_key → (of_key by_key key).kind ≡ kind_at kinds key
kind_is kinds accepted by_key key are = sym (get_or-map (λ (on : OfKey). on.kind) by_key (key - 1) (record { kind = Max; puts = [] })) ∙ ap (λ kinds. kind_at kinds key) are.kinds_are
