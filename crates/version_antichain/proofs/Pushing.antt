-- A member that is added after an antichain leaves an antichain where it is neither below nor above one of the others.
use Rattle.std.specs.Prelude.{◌≡◌, Bool, true, false, ◌||◌, IsTrue, List, [], ◌∷◌, ◌++◌, slice_index_or, Result, IfOk, OnErr, All}
use Rattle.std.specs.List.{list_any}
use Rattle.std.proofs.Common.{refl, sym, ap, subst, ◌∙◌}
use Rattle.std.proofs.lemmas.Bool.{false≢true, or_parts, or_from}
use Rattle.std.proofs.lemmas.List.Elements.{All-nil, All-cons, All-append}
use Rattle.std.proofs.lemmas.List.Folds.{list_any-append, list_any_none}
use Rattle.std.proofs.lemmas.Result.{on_err_weaker}
use Rattle.std.specs.declared.cmp.Ordering.{Ordering}
use Rattle.std.specs.FinMap.{is_sorted}
use Rattle.lattice_laws.specs.Entries.{plain_entries, IsPushed}
use Rattle.lattice_laws.proofs.EntriesLemmas.{All-last, pushed_narrower, left_by_push}
use Rattle.lattice_laws.proofs.ListLemmas.{All-front, none_passes}
use Rattle.lattice_laws.specs.Sets.{keys_of, IsSet}
use Rattle.lattice_laws.proofs.SetsLemmas.{pushed_to_set, set_after_push}
use Rattle.version_antichain.specs.Antichain.{IsStrictOrder, IsAntichain}
use Rattle.version_antichain.proofs.Overtaken.{keys, list_any-keys, same_keys}

module _ {X : Type 0} (below : X → X → Bool) where
  -- the members of a list are below none of a list
  abbrev NoneBelow : List X → Type 0
  NoneBelow xs = All (λ y. list_any (below y) xs ≡ false) xs

  -- a member is below none of a list with one more where it is below none of the list and not below that one
  below_none_more : (y : X) (xs : List X) (x : X) → list_any (below y) xs ≡ false → below y x ≡ false → list_any (below y) (xs ++ x ∷ []) ≡ false
  below_none_more y xs x none apart = list_any-append (below y) xs (x ∷ []) ∙ or_from (list_any (below y) xs) (below y x || false) none (or_from (below y x) false apart refl)

  -- and the other way round
  below_none_parts : (y : X) (xs : List X) (x : X) → list_any (below y) (xs ++ x ∷ []) ≡ false → (list_any (below y) xs ≡ false) × (below y x ≡ false)
  below_none_parts y xs x none =
      let parts = or_parts (list_any (below y) xs) (below y x || false) (sym (list_any-append (below y) xs (x ∷ [])) ∙ none) in
      (parts.0, (or_parts (below y x) false parts.1).0)

  -- none is below another with one more that is neither below nor above one of them
  none_below-pushed : IsStrictOrder below → (xs : List X) (x : X) → list_any (λ other. below x other || below other x) xs ≡ false → NoneBelow xs → NoneBelow (xs ++ x ∷ [])
  none_below-pushed order xs x apart none =
      let good : X → Type 0 = λ y. list_any (below y) (xs ++ x ∷ []) ≡ false in
      let each = none_passes (λ other. below x other || below other x) xs apart in
      All-append good xs (x ∷ [])
      (λ k d lt. below_none_more (slice_index_or xs k d) xs x (none k d lt) (or_parts (below x (slice_index_or xs k d)) (below (slice_index_or xs k d) x) (each k d lt)).1)
      (All-cons good x [] (below_none_more x xs x (list_any_none (below x) xs (λ k d lt. (or_parts (below x (slice_index_or xs k d)) (below (slice_index_or xs k d) x) (each k d lt)).0)) (order.not_itself x)) (All-nil good))

  -- so one that is below or above one of the others cannot be added
  apart_from_none_below : (xs : List X) (x : X) → NoneBelow (xs ++ x ∷ []) → list_any (λ other. below x other || below other x) xs ≡ false
  apart_from_none_below xs x none =
      let good : X → Type 0 = λ y. list_any (below y) (xs ++ x ∷ []) ≡ false in
      let below_x = none_passes (below x) xs (below_none_parts x xs x (All-last good xs x none)).0 in
      list_any_none (λ other. below x other || below other x) xs (λ k d lt.
      or_from (below x (slice_index_or xs k d)) (below (slice_index_or xs k d) x) (below_x k d lt) (below_none_parts (slice_index_or xs k d) xs x (All-front good xs (x ∷ []) none k d lt)).1)

-- entries as a map to one point
abbrev points : {K M : Type 0} → List (K × M) → List (K × Unit {0})
points entries = plain_entries (λ _. tt) entries

-- which has their keys
keys_of-points : {K M : Type 0} (entries : List (K × M)) → keys_of (points entries) ≡ keys entries
keys_of-points [] = refl
keys_of-points (entry ∷ entries) = ap (λ rest. entry.0 ∷ rest) (keys_of-points entries)

module _ {K M E : Type 0} (cmp : K → K → Ordering) (is_member : K → Type 0) (below : K → K → Bool) (result : Result Bool E) (old new : List (K × M)) (key : K) where
  -- A key that was added after entries where it comes after theirs was added where that makes an antichain.
  pub pushed_to_antichain : (seen : List K) → keys old ≡ seen → IfOk result (IsPushed (λ entries. IsTrue (is_sorted cmp entries)) (points old) (key, tt) (points new)) → IfOk result (IsPushed (IsAntichain cmp is_member below) seen key (keys new))
  pushed_to_antichain seen seen_is pushed =
      let is_set = IsSet cmp is_member in
      pushed_narrower is_set (IsAntichain cmp is_member below) (λ members is. is.is_set) result seen key (keys new)
      (subst (λ members. IfOk result (IsPushed is_set members key (keys new))) (keys_of-points old ∙ seen_is)
      (subst (λ members. IfOk result (IsPushed is_set (keys_of (points old)) key members)) (keys_of-points new)
      (pushed_to_set cmp is_member result _ key _ pushed)))

  -- and an antichain is left, where the key is neither below nor above one of the others
  pub antichain_after_push : IsStrictOrder below → (slice : List (K × M)) → slice ≡ old → list_any (λ other. below key other.0 || below other.0 key) slice ≡ false → IfOk result (IsPushed (λ entries. IsTrue (is_sorted cmp entries)) (points old) (key, tt) (points new)) → OnErr result (points new ≡ points old) → IsTrue (is_sorted cmp (points new)) → is_member key → IsAntichain cmp is_member below (keys old) → IsAntichain cmp is_member below (keys new)
  antichain_after_push order slice slice_is apart pushed err rises fits is =
      let is_set = IsSet cmp is_member in
      let apart_keys : list_any (λ other. below key other || below other key) (keys old) ≡ false =
      list_any-keys (λ other. below key other || below other key) old ∙ ap (list_any (λ other. below key other.0 || below other.0 key)) (sym slice_is) ∙ apart
      in
      record {
        is_set = subst is_set (keys_of-points new) (set_after_push cmp is_member result _ key _ pushed err rises fits (subst is_set (sym (keys_of-points old)) is.is_set));
        none_below = left_by_push (IsAntichain cmp is_member below) (NoneBelow below) result (keys old) key (keys new) (pushed_to_antichain (keys old) refl pushed) (on_err_weaker result (same_keys new old) err) (none_below-pushed below order (keys old) key apart_keys is.none_below) is.none_below;
      }

-- A key that is below or above one of the others makes no antichain with them.
pub no_antichain : {K M : Type 0} (cmp : K → K → Ordering) (is_member : K → Type 0) (below : K → K → Bool) (slice old : List (K × M)) (seen : List K) (key : K) → slice ≡ old → keys old ≡ seen → list_any (λ other. below key other.0 || below other.0 key) slice ≡ true → IsAntichain cmp is_member below (seen ++ key ∷ []) → ⊥
no_antichain cmp is_member below slice old seen key slice_is seen_is some is =
    false≢true (sym (apart_from_none_below below seen key is.none_below)
    ∙ ap (list_any (λ other. below key other || below other key)) (sym seen_is)
    ∙ list_any-keys (λ other. below key other || below other key) old
    ∙ ap (list_any (λ other. below key other.0 || below other.0 key)) (sym slice_is)
    ∙ some)
