-- Accepted puts on a key, and a session's next one after them.
use Rattle.std.specs.Prelude.{◌≡◌, ◌≢◌, ℕ, ◌+◌, ◌≤◌, ◌==◌, cond, List, [], ◌∷◌, ◌++◌, length, filter}
use Rattle.std.proofs.Common.{sym, ap, subst, ◌∙◌, inl, inr, append-nil, arith}
use Rattle.std.proofs.lemmas.Bool.{ne_eqb, eq-eqb, cases_eq}
use Rattle.std.proofs.lemmas.List.{length_push}
use Rattle.std.proofs.lemmas.List.Elements.{All-nil, All-push, All-weaker, filter-append}
use Rattle.std.proofs.lemmas.List.Quantifiers.{all_pairs_push}
use Rattle.composed_value.proofs.KeyedLemmas.{puts_on-append, on_its_key, on_no_other}
use Rattle.composed_value.specs.Keyed.{puts_on}
use Rattle.composed_value.specs.PlainValue.{IsPutOf, puts_of_session}
use Rattle.composed_value.specs.Sound.{AreNumbered, AreAccepted}
use Rattle.composed_value.specs.declared.kind.Kind.{Kind}
use Rattle.composed_value.specs.declared.put.Put.{Put}

-- a put comes to those on its key
pub put_here : (its_key key : ℕ) (put : Put) (puts : List (ℕ × Put)) → its_key ≡ key → puts_on key (puts ++ (its_key, put) ∷ []) ≡ puts_on key puts ++ put ∷ []
put_here its_key key put puts same =
    puts_on-append key puts ((its_key, put) ∷ []) ∙ ap (λ more. puts_on key puts ++ more) (on_its_key its_key key put same)

-- and to those on no other
pub put_there : (its_key key : ℕ) (put : Put) (puts : List (ℕ × Put)) → its_key ≢ key → puts_on key (puts ++ (its_key, put) ∷ []) ≡ puts_on key puts
put_there its_key key put puts apart =
    puts_on-append key puts ((its_key, put) ∷ [])
    ∙ ap (λ more. puts_on key puts ++ more) (on_no_other its_key key put apart)
    ∙ append-nil (puts_on key puts)

-- a put comes to those of its session
pub put_of_it : (session : ℕ) (put : Put) (puts : List Put) → session ≡ put.session → puts_of_session session (puts ++ put ∷ []) ≡ puts_of_session session puts ++ put ∷ []
put_of_it session put puts same =
    filter-append (λ p. session == p.session) puts (put ∷ []) ∙ ap (λ t. puts_of_session session puts ++ cond t (put ∷ []) []) (eq-eqb session put.session same)

-- and to those of no other
pub put_of_other : (session : ℕ) (put : Put) (puts : List Put) → session ≢ put.session → puts_of_session session (puts ++ put ∷ []) ≡ puts_of_session session puts
put_of_other session put puts apart =
    filter-append (λ p. session == p.session) puts (put ∷ [])
    ∙ ap (λ t. puts_of_session session puts ++ cond t (put ∷ []) []) (ne_eqb session put.session apart)
    ∙ append-nil (puts_of_session session puts)

-- numbered puts and the next number
numbered_push : (puts : List Put) (put : Put) → AreNumbered puts → put.number ≡ length puts + 1 → AreNumbered (puts ++ put ∷ [])
numbered_push puts put are next = record {
  different = all_pairs_push (λ p other. p.number ≢ other.number) puts put are.different (λ k d within same. let is = are.within k d within in omega (arith, is.1, same, next));
  within =
      let longer = length_push puts put in
      All-push (λ p. (1 ≤ p.number) × (p.number ≤ length (puts ++ put ∷ []))) puts put
      (All-weaker (λ p. (1 ≤ p.number) × (p.number ≤ length puts)) (λ p. (1 ≤ p.number) × (p.number ≤ length (puts ++ put ∷ []))) (λ p is. (is.0, omega (arith, is.1, longer))) puts are.within)
      (omega (arith, next), omega (arith, next, longer));
}

-- accepted puts and the next one of a session
pub accepted_push : (kind : Kind) (puts : List Put) (put : Put) → AreAccepted kind puts → IsPutOf kind put → put.number ≡ length (puts_of_session put.session puts) + 1 → AreAccepted kind (puts ++ put ∷ [])
accepted_push kind puts put are is next = record {
  of_kind = All-push (IsPutOf kind) puts put are.of_kind is;
  numbered = λ session.
      elim (cases_eq session put.session) [
        | inl same ↦ subst AreNumbered (sym (put_of_it session put puts same)) (numbered_push (puts_of_session session puts) put (are.numbered session) (next ∙ ap (λ s. length (puts_of_session s puts) + 1) (sym same)))
        | inr apart ↦ subst AreNumbered (sym (put_of_other session put puts apart)) (are.numbered session)
      ];
}

-- no puts are accepted puts
pub none_accepted : (kind : Kind) → AreAccepted kind []
none_accepted kind = record {
  of_kind = All-nil (IsPutOf kind);
  numbered = λ session. record { different = λ i j d before within same. omega (arith, within); within = λ k d within. absurd (omega (arith, within)) };
}
