-- The union of sets keeps the laws, since a set is a map to the one-point lattice.
use Rattle.std.specs.Prelude.{◌≡◌, ◌&&◌, ◌||◌, Bool, true, false, cond, ◌⊎◌, IsTrue, is_some, List, [], ◌∷◌, Option, Some, None, ⊤}
use Rattle.std.specs.List.{filter, list_any}
use Rattle.std.proofs.Common.{refl, sym, ap, subst, ◌∙◌, inl, inr}
use mathlib.Core.Bool.{false≢true}
use Rattle.std.proofs.lemmas.Bool.{and_parts, or_cases, or_left, or_right}
use Rattle.std.proofs.lemmas.Cmp.{tied_itself}
use Rattle.std.proofs.lemmas.List.Elements.{All-filter, All-map, All-weaker}
use Rattle.std.specs.Cmp.{IsTotalOrder, Equal-is, both_ways}
use Rattle.std.specs.Ordering.{is_eq, eq_by_cmp}
use Rattle.std.specs.declared.cmp.Ordering.{Ordering}
use Rattle.std.specs.FinMap.{find, is_sorted, IsAntisymmetric}
use Rattle.std.specs.FinMap.Entries.{is_sorted-where_key, find-where_key}
use Rattle.lattice_laws.specs.Ascending.{pass_from_true, true_from_pass}
use Rattle.lattice_laws.specs.Lattice.{LatticeLaws, Associative}
use Rattle.lattice_laws.specs.Maybe.{joined_by}
use Rattle.lattice_laws.specs.Entries.{IsEntry, IsMap, joined_maps}
use Rattle.lattice_laws.specs.EntriesLaws.{map_laws, map_associative, find-joined_maps, same_from_keys}
use Rattle.lattice_laws.specs.MemberLaws.{point_laws, point_associative}
use Rattle.lattice_laws.specs.Sets.{as_map, keys_of, IsSet, has, united}

-- a map to one point is told by its keys
pub as_map-keys_of : {K : Type 0} (entries : List (K × Unit {0})) → as_map (keys_of entries) ≡ entries
as_map-keys_of [] = refl
as_map-keys_of (entry ∷ entries) = ap (λ rest. entry ∷ rest) (as_map-keys_of entries)

-- a set is told by its map
pub keys_of-as_map : {K : Type 0} (members : List K) → keys_of (as_map members) ≡ members
keys_of-as_map [] = refl
keys_of-as_map (member ∷ members) = ap (λ rest. member ∷ rest) (keys_of-as_map members)

-- a merge of two cells has something where one of them has
some_of_both : (a b : Option (Unit {0})) → is_some (joined_by (λ _ _. tt) a b) ≡ (is_some a || is_some b)
some_of_both None b = refl
some_of_both (Some a) None = refl
some_of_both (Some a) (Some b) = refl

-- two points that are both there or both not there are one
same_point : (a b : Option (Unit {0})) → is_some a ≡ is_some b → a ≡ b
same_point None None e = refl
same_point None (Some b) e = absurd (false≢true e)
same_point (Some a) None e = absurd (false≢true (sym e))
same_point (Some a) (Some b) e = refl

module _ {K : Type 0} (cmp : K → K → Ordering) where
  -- the join of the maps of two sets is the map of their union
  pub united_map : (a b : List K) → as_map (united cmp a b) ≡ joined_maps cmp (λ _ _. tt) (as_map a) (as_map b)
  united_map a b = as_map-keys_of (joined_maps cmp (λ _ _. tt) (as_map a) (as_map b))

  module _ (is_member : K → Type 0) where
    -- a set is a map
    pub set_is_map : (members : List K) → IsSet cmp is_member members → IsMap cmp is_member (λ (_ : Unit {0}). ⊤) (as_map members)
    set_is_map members is = record {
      ascending = is.ascending;
      are_entries = All-map (IsEntry is_member (λ (_ : Unit {0}). ⊤)) (λ member. (member, tt)) members (All-weaker is_member (λ member. is_member member × ⊤) (λ member h. (h, tt)) members is.are_members);
    }

    -- and the keys of a map are a set
    pub map_is_set : (entries : List (K × Unit {0})) → IsMap cmp is_member (λ (_ : Unit {0}). ⊤) entries → IsSet cmp is_member (keys_of entries)
    map_is_set entries is = record {
      ascending = subst (λ es. IsTrue (is_sorted cmp es)) (sym (as_map-keys_of entries)) is.ascending;
      are_members = All-map is_member (λ entry. entry.0) entries (All-weaker (IsEntry is_member (λ (_ : Unit {0}). ⊤)) (λ entry. is_member entry.0) (λ entry h. h.0) entries is.are_entries);
    }

module _ {K : Type 0} {cmp : K → K → Ordering} (total : IsTotalOrder cmp) (exact : IsAntisymmetric cmp) (is_member : K → Type 0) where
  -- the laws of maps to one point
  points_laws : LatticeLaws (IsMap cmp is_member (λ (_ : Unit {0}). ⊤)) (λ _ _. ⊤) (joined_maps cmp (λ _ _. tt))
  points_laws = map_laws total exact is_member point_laws (λ _ _. tt)

  -- the union of two sets is a set
  pub united_is_set : (a b : List K) → IsSet cmp is_member a → IsSet cmp is_member b → IsSet cmp is_member (united cmp a b)
  united_is_set a b is_a is_b = map_is_set cmp is_member _ (points_laws.closed (as_map a) (as_map b) (set_is_map cmp is_member a is_a) (set_is_map cmp is_member b is_b) tt).0

  pub set_laws : LatticeLaws (IsSet cmp is_member) (λ _ _. ⊤) (united cmp)
  set_laws = record {
    fits_itself = λ a va. tt;
    fits_back = λ a b va vb h. tt;
    fits_on = λ a b c va vb vc h i. tt;
    closed = λ a b va vb h. (united_is_set a b va vb, tt, tt);
    commutative = λ a b va vb h. ap keys_of (points_laws.commutative (as_map a) (as_map b) (set_is_map cmp is_member a va) (set_is_map cmp is_member b vb) tt);
    idempotent = λ a va. ap keys_of (points_laws.idempotent (as_map a) (set_is_map cmp is_member a va)) ∙ keys_of-as_map a;
  }

  pub set_associative : Associative (IsSet cmp is_member) (λ _ _. ⊤) (united cmp)
  set_associative a b c va vb vc h i =
      let as_maps : (members : List K) → IsSet cmp is_member members → IsMap cmp is_member (λ (_ : Unit {0}). ⊤) (as_map members) = set_is_map cmp is_member in
      ap (λ entries. keys_of (joined_maps cmp (λ _ _. tt) entries (as_map c))) (united_map cmp a b)
      ∙ ap keys_of (map_associative total exact is_member point_laws (λ _ _. tt) point_associative (as_map a) (as_map b) (as_map c) (as_maps a va) (as_maps b vb) (as_maps c vc) tt tt)
      ∙ ap (λ entries. keys_of (joined_maps cmp (λ _ _. tt) (as_map a) entries)) (sym (united_map cmp b c))

  -- a member is in the union where it is in one of the sets
  pub has-united : (a b : List K) (q : K) → IsSet cmp is_member a → IsSet cmp is_member b → has cmp q (united cmp a b) ≡ (has cmp q a || has cmp q b)
  has-united a b q is_a is_b =
      ap (λ entries. is_some (find cmp q entries)) (united_map cmp a b)
      ∙ ap is_some (find-joined_maps (λ _ _. tt) total q (as_map a) (as_map b) is_b.ascending)
      ∙ some_of_both (find cmp q (as_map a)) (find cmp q (as_map b))

  -- sets with the same members are equal
  pub same_sets : (a b : List K) → IsSet cmp is_member a → IsSet cmp is_member b → ((q : K) → has cmp q a ≡ has cmp q b) → a ≡ b
  same_sets a b is_a is_b agree =
      sym (keys_of-as_map a)
      ∙ ap keys_of (same_from_keys total exact is_member point_laws (λ _ _. tt) (as_map a) (as_map b) (set_is_map cmp is_member a is_a) (set_is_map cmp is_member b is_b) (λ q. same_point _ _ (agree q)))
      ∙ keys_of-as_map b

-- ---- the members that pass a test

-- where a value is kept if a test passes, it is there if it was and the test passes
is_some-cond : (passes : Bool) (value : Option (Unit {0})) → is_some (cond passes value None) ≡ (passes && is_some value)
is_some-cond true value = refl
is_some-cond false value = refl

-- the map of the members that pass has the entries whose keys pass
as_map-filter : {K : Type 0} (test : K → Bool) (members : List K) → as_map (filter test members) ≡ filter (λ entry. test entry.0) (as_map members)
as_map-filter test [] = refl
as_map-filter test (member ∷ members) =
    elim (test member) as (λ b. as_map (cond b (member ∷ filter test members) (filter test members)) ≡ cond b ((member, tt) ∷ filter (λ entry. test entry.0) (as_map members)) (filter (λ entry. test entry.0) (as_map members))) [
      | true ↦ ap (λ rest. (member, tt) ∷ rest) (as_map-filter test members)
      | false ↦ as_map-filter test members
    ]

module _ {K : Type 0} (cmp : K → K → Ordering) where
  -- the members of a set that pass a test are a set
  pub filter_is_set : (is_member : K → Type 0) (test : K → Bool) (members : List K) → IsSet cmp is_member members → IsSet cmp is_member (filter test members)
  filter_is_set is_member test members is =
      let rises = is_sorted-where_key cmp test (as_map members) (pass_from_true _ is.ascending) in
      record {
        ascending = ap (is_sorted cmp) (as_map-filter test members) ∙ true_from_pass _ rises;
        are_members = All-filter test is_member members is.are_members;
      }

module _ {K : Type 0} {cmp : K → K → Ordering} (exact : IsAntisymmetric cmp) where
  -- a member is kept where it passes the test
  pub has-filter : (q : K) (test : K → Bool) (members : List K) → has cmp q (filter test members) ≡ (test q && has cmp q members)
  has-filter q test members =
      ap (λ entries. is_some (find cmp q entries)) (as_map-filter test members)
      ∙ ap is_some (find-where_key cmp test q (λ x ties. ap test (sym (exact q x ties))) (as_map members))
      ∙ is_some-cond (test q) (find cmp q (as_map members))

  -- what was kept was there
  pub has_before_filter : (test : K → Bool) (members : List K) (q : K) → has cmp q (filter test members) ≡ true → has cmp q members ≡ true
  has_before_filter test members q there = (and_parts (test q) (has cmp q members) (sym (has-filter q test members) ∙ there)).1

-- what a test implies does not narrow it
and_absorbs : (p m : Bool) → (p ≡ true → m ≡ true) → (x y : Bool) → (p && ((m && x) || y)) ≡ (p && (x || y))
and_absorbs true m implied x y = ap (λ b. (b && x) || y) (implied refl)
and_absorbs false m implied x y = refl

module _ {K : Type 0} {cmp : K → K → Ordering} (total : IsTotalOrder cmp) (exact : IsAntisymmetric cmp) (is_member : K → Type 0) where
  -- of two sets those pass that pass where a first test, which the other implies, was put to the one before
  pub filter_after : (test first : K → Bool) → ((q : K) → test q ≡ true → first q ≡ true) → (s c : List K) → IsSet cmp is_member s → IsSet cmp is_member c → filter test (united cmp (filter first s) c) ≡ filter test (united cmp s c)
  filter_after test first implied s c is_s is_c =
      let is_first = filter_is_set cmp is_member first s is_s in
      let is_fc = united_is_set total exact is_member (filter first s) c is_first is_c in
      let is_sc = united_is_set total exact is_member s c is_s is_c in
      same_sets total exact is_member _ _ (filter_is_set cmp is_member test (united cmp (filter first s) c) is_fc) (filter_is_set cmp is_member test (united cmp s c) is_sc) (λ q.
      has-filter exact q test (united cmp (filter first s) c)
      ∙ ap (λ b. test q && b) (has-united total exact is_member (filter first s) c q is_first is_c)
      ∙ ap (λ b. test q && (b || has cmp q c)) (has-filter exact q first s)
      ∙ and_absorbs (test q) (first q) (implied q) (has cmp q s) (has cmp q c)
      ∙ ap (λ b. test q && b) (sym (has-united total exact is_member s c q is_s is_c))
      ∙ sym (has-filter exact q test (united cmp s c)))

-- ---- one member, and some member that passes a test

module _ {K : Type 0} (cmp : K → K → Ordering) where
  -- the first of a list and the others are its members
  pub has-cons : (q member : K) (members : List K) → has cmp q (member ∷ members) ≡ (eq_by_cmp cmp q member || has cmp q members)
  has-cons q member members =
      elim (eq_by_cmp cmp q member) as (λ b. is_some (cond b (Some tt) (find cmp q (as_map members))) ≡ (b || has cmp q members)) [ true ↦ refl | false ↦ refl ]

  -- one that is there is the first or among the others
  pub has_cases : (q member : K) (members : List K) → has cmp q (member ∷ members) ≡ true → (eq_by_cmp cmp q member ≡ true) ⊎ (has cmp q members ≡ true)
  has_cases q member members there = or_cases (eq_by_cmp cmp q member) (has cmp q members) (sym (has-cons q member members) ∙ there)

  -- one that ties with the first is there
  pub has_first : (q member : K) (members : List K) → eq_by_cmp cmp q member ≡ true → has cmp q (member ∷ members) ≡ true
  has_first q member members ties = has-cons q member members ∙ or_left (eq_by_cmp cmp q member) (has cmp q members) ties

  -- and so is one among the others
  pub has_later : (q member : K) (members : List K) → has cmp q members ≡ true → has cmp q (member ∷ members) ≡ true
  has_later q member members there = has-cons q member members ∙ or_right (eq_by_cmp cmp q member) (has cmp q members) there

module _ {K : Type 0} {cmp : K → K → Ordering} (exact : IsAntisymmetric cmp) where
  -- some member passes a test where one that is there does
  pub list_any-from_has : (test : K → Bool) (members : List K) (q : K) → has cmp q members ≡ true → test q ≡ true → list_any test members ≡ true
  list_any-from_has test [] q there passes = there
  list_any-from_has test (member ∷ members) q there passes =
      elim (has_cases cmp q member members there) [
        | inl ties ↦ or_left (test member) (list_any test members) (ap test (sym (exact q member ((Equal-is (cmp q member)).0 ties))) ∙ passes)
        | inr later ↦ or_right (test member) (list_any test members) (list_any-from_has test members q later passes)
      ]

module _ {K : Type 0} {cmp : K → K → Ordering} (total : IsTotalOrder cmp) where
  -- and one that is there does where some member passes it
  pub has-from_list_any : (test : K → Bool) (members : List K) → list_any test members ≡ true → (q : K) × (has cmp q members ≡ true) × (test q ≡ true)
  has-from_list_any test [] some = absurd (false≢true some)
  has-from_list_any test (member ∷ members) some =
      elim (or_cases (test member) (list_any test members) some) [
        | inl passes ↦ (member, has_first cmp member member members (ap is_eq (tied_itself total member)), passes)
        | inr later ↦
            let found = has-from_list_any test members later in
            (found.0, has_later cmp found.0 member members found.1, found.2)
      ]

module _ {K : Type 0} {cmp : K → K → Ordering} (total : IsTotalOrder cmp) (exact : IsAntisymmetric cmp) where
  -- what some member of a list passes, some member of any list with its members passes
  pub list_any_within : (test : K → Bool) (a b : List K) → ((q : K) → has cmp q a ≡ true → has cmp q b ≡ true) → list_any test a ≡ true → list_any test b ≡ true
  list_any_within test a b within some =
      let found = has-from_list_any total test a some in
      list_any-from_has exact test b found.0 (within found.0 found.1) found.2

  module _ (is_member : K → Type 0) where
    -- some member of one of two sets passes where some member of their union does
    list_any_apart : (test : K → Bool) (a b : List K) → IsSet cmp is_member a → IsSet cmp is_member b → list_any test (united cmp a b) ≡ true → (list_any test a || list_any test b) ≡ true
    list_any_apart test a b is_a is_b some =
        let found = has-from_list_any total test (united cmp a b) some in
        elim (or_cases (has cmp found.0 a) (has cmp found.0 b) (sym (has-united total exact is_member a b found.0 is_a is_b) ∙ found.1)) [
          | inl there ↦ or_left (list_any test a) (list_any test b) (list_any-from_has exact test a found.0 there found.2)
          | inr there ↦ or_right (list_any test a) (list_any test b) (list_any-from_has exact test b found.0 there found.2)
        ]

    -- and the other way round
    list_any_together : (test : K → Bool) (a b : List K) → IsSet cmp is_member a → IsSet cmp is_member b → (list_any test a || list_any test b) ≡ true → list_any test (united cmp a b) ≡ true
    list_any_together test a b is_a is_b some =
        elim (or_cases (list_any test a) (list_any test b) some) [
          | inl some_a ↦ list_any_within test a (united cmp a b) (λ q there. has-united total exact is_member a b q is_a is_b ∙ or_left (has cmp q a) (has cmp q b) there) some_a
          | inr some_b ↦ list_any_within test b (united cmp a b) (λ q there. has-united total exact is_member a b q is_a is_b ∙ or_right (has cmp q a) (has cmp q b) there) some_b
        ]

    -- so a test that some member of a union passes is one that some member of one of the sets passes
    pub list_any-united : (test : K → Bool) (a b : List K) → IsSet cmp is_member a → IsSet cmp is_member b → list_any test (united cmp a b) ≡ (list_any test a || list_any test b)
    list_any-united test a b is_a is_b = both_ways _ _ (list_any_apart test a b is_a is_b) (list_any_together test a b is_a is_b)
