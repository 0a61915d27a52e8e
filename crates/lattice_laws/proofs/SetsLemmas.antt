-- The map of a set, and what a call leaves that adds a member after the others.
use Rattle.std.specs.Prelude.{◌≡◌, ◌↔◌, ℕ, Bool, true, false, IsTrue, is_some, List, [], ◌∷◌, ◌++◌, map, slice_get, Option, Some, None, Result, Ok, Err, IfOk, OnErr, ⊤}
use Rattle.std.specs.Option.{option_map}
use Rattle.std.proofs.Common.{refl, sym, ap, subst, ◌∙◌}
use Rattle.std.proofs.lemmas.Option.{slice_get-map}
use Rattle.std.specs.declared.cmp.Ordering.{Ordering}
use Rattle.std.specs.FinMap.{is_sorted}
use Rattle.lattice_laws.specs.Entries.{plain_entries, IsMap, IsPushed, joined_maps}
use Rattle.lattice_laws.proofs.EntriesLemmas.{map_after_push}
use Rattle.lattice_laws.specs.Sets.{as_map, keys_of, IsSet, united}
use Rattle.lattice_laws.specs.SetsLaws.{as_map-keys_of, keys_of-as_map, united_map, set_is_map, map_is_set}

-- a map is that of the set which is seen of it
pub map_of_view : {K : Type 0} (entries : List (K × Unit {0})) (members : List K) → keys_of entries ≡ members → entries ≡ as_map members
map_of_view entries members seen = sym (as_map-keys_of entries) ∙ ap as_map seen

-- the member at a place is the key there
pub member_at : {K M : Type 0} (entries : List (K × M)) (i : ℕ) (entry : K × M) → slice_get entries i ≡ Some entry → slice_get (keys_of (plain_entries (λ _. tt) entries)) i ≡ Some entry.0
member_at {K} {M} entries i entry here =
    let point : K × M → K × Unit {0} = λ e. (e.0, tt) in
    let key : K × Unit {0} → K = λ e. e.0 in
    slice_get-map key (map point entries) i ∙ ap (option_map key) (slice_get-map point entries i ∙ ap (option_map point) here)

-- the map of a set with one more member after the others
as_map-pushed : {K : Type 0} (members : List K) (member : K) → as_map (members ++ member ∷ []) ≡ as_map members ++ (member, tt) ∷ []
as_map-pushed [] member = refl
as_map-pushed (first ∷ members) member = ap (λ rest. (first, tt) ∷ rest) (as_map-pushed members member)

-- and the set of a map with one more entry
keys_of-pushed : {K : Type 0} (entries : List (K × Unit {0})) (entry : K × Unit {0}) → keys_of (entries ++ entry ∷ []) ≡ keys_of entries ++ entry.0 ∷ []
keys_of-pushed [] entry = refl
keys_of-pushed (first ∷ entries) entry = ap (λ rest. first.0 ∷ rest) (keys_of-pushed entries entry)

-- what is there is there as a point too
pub is_some-option_map : {A B : Type 0} (f : A → B) (value : Option A) → is_some (option_map f value) ≡ is_some value
is_some-option_map f None = refl
is_some-option_map f (Some value) = refl

module _ {K : Type 0} (cmp : K → K → Ordering) where
  -- the join of two maps is the map of the union of the sets which are seen of them
  pub joined_views : (m n : List (K × Unit {0})) (a b : List K) → keys_of m ≡ a → keys_of n ≡ b → joined_maps cmp (λ _ _. tt) m n ≡ as_map (united cmp a b)
  joined_views m n a b seen_m seen_n =
      ap (λ x. joined_maps cmp (λ _ _. tt) x n) (map_of_view m a seen_m)
      ∙ ap (joined_maps cmp (λ _ _. tt) (as_map a)) (map_of_view n b seen_n)
      ∙ sym (united_map cmp a b)

  -- the one map joined into the other changes it just where the sets do
  pub united_is_second : (m n : List (K × Unit {0})) (a b : List K) → keys_of m ≡ a → keys_of n ≡ b → (joined_maps cmp (λ _ _. tt) m n ≡ n) ↔ (united cmp a b ≡ b)
  united_is_second m n a b seen_m seen_n =
      let joined = joined_views m n a b seen_m seen_n in (
        (λ h. sym (keys_of-as_map (united cmp a b)) ∙ ap keys_of (sym joined ∙ h) ∙ seen_n),
        (λ h. joined ∙ ap as_map h ∙ sym (map_of_view n b seen_n)),
      )

  module _ (is_member : K → Type 0) where
    -- A key that was added after a map where it comes after the others was added to its set where that makes a set.
    pub pushed_to_set : {E : Type 0} (result : Result Bool E) (old : List (K × Unit {0})) (member : K) (new : List (K × Unit {0})) → IfOk result (IsPushed (λ entries. IsTrue (is_sorted cmp entries)) old (member, tt) new) → IfOk result (IsPushed (IsSet cmp is_member) (keys_of old) member (keys_of new))
    pushed_to_set (Ok true) old member new pushed = ap keys_of pushed ∙ keys_of-pushed old (member, tt)
    pushed_to_set (Ok false) old member new (same, refused) = (
      ap keys_of same,
      λ is. refused (ap (is_sorted cmp) (ap (λ entries. entries ++ (member, tt) ∷ []) (sym (as_map-keys_of old)) ∙ sym (as_map-pushed (keys_of old) member)) ∙ is.ascending),
    )
    pushed_to_set (Err error) old member new pushed = tt

    -- what a call leaves of a set that adds a key to its map where it comes after the others
    pub set_after_push : {E : Type 0} (result : Result Bool E) (old : List (K × Unit {0})) (member : K) (new : List (K × Unit {0})) → IfOk result (IsPushed (λ entries. IsTrue (is_sorted cmp entries)) old (member, tt) new) → OnErr result (new ≡ old) → IsTrue (is_sorted cmp new) → is_member member → IsSet cmp is_member (keys_of old) → IsSet cmp is_member (keys_of new)
    set_after_push result old member new pushed err rises fits is =
        map_is_set cmp is_member new (map_after_push cmp is_member (λ (_ : Unit {0}). ⊤) result old (member, tt) new pushed err rises (fits, tt)
        (subst (IsMap cmp is_member (λ (_ : Unit {0}). ⊤)) (as_map-keys_of old) (set_is_map cmp is_member (keys_of old) is)))
