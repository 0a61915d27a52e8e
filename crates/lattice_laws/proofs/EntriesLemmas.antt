-- What a call leaves that adds an entry after the others.
use Rattle.std.specs.Prelude.{◌≡◌, Bool, true, false, IsTrue, List, [], ◌∷◌, ◌++◌, Result, Ok, Err, IfOk, OnErr, All}
use Rattle.std.proofs.Common.{refl, sym, ap, subst, ◌∙◌}
use Rattle.std.proofs.lemmas.List.Elements.{All-nil, All-cons, All-head, All-tail, All-append}
use Rattle.std.specs.declared.cmp.Ordering.{Ordering}
use Rattle.std.specs.Cmp.{IsTotalOrder}
use Rattle.std.specs.FinMap.{IsAntisymmetric, is_sorted}
use Rattle.lattice_laws.specs.Entries.{AddsNothing, plain_entries, IsEntry, IsMap, IsPushed, joined_maps}
use Rattle.lattice_laws.specs.EntriesLaws.{map_laws}
use Rattle.lattice_laws.specs.Lattice.{LatticeLaws}

-- entries whose values are seen as they are
pub plain_itself : {K P : Type 0} (entries : List (K × P)) → plain_entries (λ value. value) entries ≡ entries
plain_itself [] = refl
plain_itself (entry ∷ entries) = ap (λ rest. entry ∷ rest) (plain_itself entries)

-- what holds of each of a list with one more item after it holds of that item
pub All-last : {X : Type 0} (P : X → Type 0) (xs : List X) (x : X) → All P (xs ++ x ∷ []) → P x
All-last P [] x all = All-head P x [] all
All-last P (y ∷ xs) x all = All-last P xs x (All-tail P y (xs ++ x ∷ []) all)

-- A call that added an item, or could not for one form of lists, did so for a narrower form.
pub pushed_narrower : {E X : Type 0} (Wide Narrow : List X → Type 0) → ((xs : List X) → Narrow xs → Wide xs) → (result : Result Bool E) (old : List X) (item : X) (new : List X) → IfOk result (IsPushed Wide old item new) → IfOk result (IsPushed Narrow old item new)
pushed_narrower Wide Narrow widened (Ok true) old item new pushed = pushed
pushed_narrower Wide Narrow widened (Ok false) old item new (same, refused) = (same, λ form. refused (widened _ form))
pushed_narrower Wide Narrow widened (Err error) old item new pushed = tt

-- what a call leaves that adds an item after a list, or cannot, or finds no memory
pub left_by_push : {E X : Type 0} (HasForm Q : List X → Type 0) (result : Result Bool E) (old : List X) (item : X) (new : List X) → IfOk result (IsPushed HasForm old item new) → OnErr result (new ≡ old) → Q (old ++ item ∷ []) → Q old → Q new
left_by_push HasForm Q (Ok true) old item new ok err q_more q_old = subst Q (sym ok) q_more
left_by_push HasForm Q (Ok false) old item new ok err q_more q_old = subst Q (sym ok.0) q_old
left_by_push HasForm Q (Err error) old item new ok err q_more q_old = subst Q (sym err) q_old

module _ {K P : Type 0} (cmp : K → K → Ordering) (is_key : K → Type 0) (is_value : P → Type 0) where
  -- what a call leaves of a map that adds an entry where its key comes after the others
  pub map_after_push : {E : Type 0} (result : Result Bool E) (old : List (K × P)) (entry : K × P) (new : List (K × P)) → IfOk result (IsPushed (λ entries. IsTrue (is_sorted cmp entries)) old entry new) → OnErr result (new ≡ old) → IsTrue (is_sorted cmp new) → IsEntry is_key is_value entry → IsMap cmp is_key is_value old → IsMap cmp is_key is_value new
  map_after_push result old entry new pushed err rises is_entry is =
      let good : K × P → Type 0 = IsEntry is_key is_value in
      record {
        ascending = rises;
        are_entries = left_by_push (λ entries. IsTrue (is_sorted cmp entries)) (All good) result old entry new pushed err (All-append good old (entry ∷ []) is.are_entries (All-cons good entry [] is_entry (All-nil good))) is.are_entries;
      }

module _ {K L P : Type 0} {cmp : K → K → Ordering} {is_value : P → Type 0} {fits : P → P → Type 0} {joined : P → P → P} (total : IsTotalOrder cmp) (exact : IsAntisymmetric cmp) (is_key : K → Type 0) (laws : LatticeLaws is_value fits joined) (all_fit : (a b : P) → fits a b) (plain : L → P) where
  -- a map that holds all that another does is the join of both
  pub join_of_covered : (mine theirs shown others : List (K × L)) → shown ≡ mine → others ≡ theirs → IsTrue (is_sorted cmp (plain_entries plain mine)) → IsTrue (is_sorted cmp (plain_entries plain theirs))
      → All (IsEntry is_key is_value) (plain_entries plain shown) → All (IsEntry is_key is_value) (plain_entries plain others)
      → AddsNothing cmp joined (plain_entries plain others) (plain_entries plain shown) → plain_entries plain mine ≡ joined_maps cmp joined (plain_entries plain mine) (plain_entries plain theirs)
  join_of_covered mine theirs shown others is also rises rises_too are are_too covers =
      let are_entries : List (K × L) → Type 0 = λ entries. All (IsEntry is_key is_value) (plain_entries plain entries) in
      let nothing : AddsNothing cmp joined (plain_entries plain theirs) (plain_entries plain mine) = subst (λ entries. AddsNothing cmp joined (plain_entries plain theirs) (plain_entries plain entries)) is (subst (λ entries. AddsNothing cmp joined (plain_entries plain entries) (plain_entries plain shown)) also covers) in
      let is_map : IsMap cmp is_key is_value (plain_entries plain mine) = record { ascending = rises; are_entries = subst are_entries is are } in
      let is_map_too : IsMap cmp is_key is_value (plain_entries plain theirs) = record { ascending = rises_too; are_entries = subst are_entries also are_too } in
      sym nothing ∙ (map_laws total exact is_key laws all_fit).commutative (plain_entries plain theirs) (plain_entries plain mine) is_map_too is_map tt
