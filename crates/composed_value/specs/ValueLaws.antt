-- Values of one kind are a lattice, as those of each kind are.
use Rattle.std.specs.Prelude.{◌≡◌, ◌<◌, ◌^◌, max, ⊤}
use Rattle.std.proofs.Common.{refl, sym, ap, ◌∙◌}
use Rattle.std.specs.Option.{unwrap_or}
use Rattle.std.specs.Ordering.{ord_max}
use Rattle.lattice_laws.specs.Lattice.{LatticeLaws, Associative}
use Rattle.lattice_laws.specs.Maybe as maybes
use Rattle.lattice_laws.specs.MaybeLaws.{maybe_laws, maybe_associative}
use Rattle.lattice_laws.specs.Through.{laws_through, associative_through}
use Rattle.lattice_laws.specs.GreatestLaws.{max_laws, max_associative}
use Rattle.lattice_laws.specs.EntriesLaws.{map_laws, map_associative}
use Rattle.lattice_laws.specs.declared.maybe.Maybe.{Maybe}
use Rattle.lattice_laws.specs.declared.maybe.Maybe.TheVariants.{Bottom, Is}
use Rattle.basic_lattices.specs.FlagLaws.{or_laws, or_associative}
use Rattle.basic_lattices.specs.Stamped.{stamp_cmp, IsStamped}
use Rattle.basic_lattices.specs.StampedLaws.{stamp_laws, stamp_associative}
use Rattle.basic_lattices.specs.TextSetLaws.{set_laws, set_associative}
use Rattle.basic_lattices.specs.Word.{IsWord}
use Rattle.lattice_laws.specs.SpellingLaws.{spelled_total, spelled_exact}
use Rattle.version_antichain.specs.VersionsLaws.{versions_laws, versions_associative}
use Rattle.dot_lattices.specs.DotSetLaws.{dot_set_laws, dot_set_associative}
use Rattle.dot_lattices.specs.DotSumsLaws.{sums_laws, sums_associative}
use Rattle.composed_value.specs.Kind.{kind_of_value}
use Rattle.composed_value.specs.Value.{IsBottomOr, joined_found, IsFields, joined_fields, IsValue, joined_values}
use Rattle.composed_value.specs.declared.value.Value.{Value}
use Rattle.composed_value.specs.declared.value.Value.TheVariants.{Max, Or, Set, Map, Last, Versions, Counter, OrSet}

-- the values are of one kind, by cases
abbrev pub SameKind : Value → Value → Type 0
SameKind (Max a) (Max b) = ⊤
SameKind (Or a) (Or b) = ⊤
SameKind (Set a) (Set b) = ⊤
SameKind (Map a) (Map b) = ⊤
SameKind (Last a) (Last b) = ⊤
SameKind (Versions a) (Versions b) = ⊤
SameKind (Counter a) (Counter b) = ⊤
SameKind (OrSet a) (OrSet b) = ⊤
SameKind _ _ = ⊥

pub same_kind : (a b : Value) → kind_of_value a ≡ kind_of_value b → SameKind a b
same_kind (Max a) (Max b) h = tt
same_kind (Or a) (Or b) h = tt
same_kind (Set a) (Set b) h = tt
same_kind (Map a) (Map b) h = tt
same_kind (Last a) (Last b) h = tt
same_kind (Versions a) (Versions b) h = tt
same_kind (Counter a) (Counter b) h = tt
same_kind (OrSet a) (OrSet b) h = tt
same_kind _ _ h = absurd (cc)

-- what may be nothing yet, as an option
pub plain_of_joined : {P : Type 0} (joined : P → P → P) (a b : Maybe P) → maybes.plain_of (λ x. x) (joined_found joined a b) ≡ maybes.joined_by joined (maybes.plain_of (λ x. x) a) (maybes.plain_of (λ x. x) b)
plain_of_joined joined Bottom b = refl
plain_of_joined joined (Is a) Bottom = refl
plain_of_joined joined (Is a) (Is b) = refl

-- which tells it
pub plain_of_injective : {P : Type 0} (a b : Maybe P) → maybes.plain_of (λ x. x) a ≡ maybes.plain_of (λ x. x) b → a ≡ b
plain_of_injective Bottom Bottom e = refl
plain_of_injective Bottom (Is b) e = absurd (cc)
plain_of_injective (Is a) Bottom e = absurd (cc)
plain_of_injective (Is a) (Is b) e = ap (λ found. Is (unwrap_or found a)) e

found_is_value : {P : Type 0} (is_value : P → Type 0) (a : Maybe P) → IsBottomOr is_value a → maybes.IsValue is_value (maybes.plain_of (λ x. x) a)
found_is_value is_value Bottom v = tt
found_is_value is_value (Is a) v = v

value_is_found : {P : Type 0} (is_value : P → Type 0) (a : Maybe P) → maybes.IsValue is_value (maybes.plain_of (λ x. x) a) → IsBottomOr is_value a
value_is_found is_value Bottom v = tt
value_is_found is_value (Is a) v = v

module _ {P : Type 0} {is_value : P → Type 0} {fits : P → P → Type 0} {joined : P → P → P} (laws : LatticeLaws is_value fits joined) (all_fit : (a b : P) → fits a b) where
  seen_laws : LatticeLaws (λ (a : Maybe P). maybes.IsValue is_value (maybes.plain_of (λ x. x) a)) (λ a b. ⊤) (joined_found joined)
  seen_laws = laws_through (maybes.plain_of (λ x. x)) plain_of_injective (maybes.joined_by joined) (joined_found joined) (plain_of_joined joined) (maybe_laws laws all_fit)

  -- what may be nothing yet keeps the laws
  found_laws : LatticeLaws (IsBottomOr is_value) (λ _ _. ⊤) (joined_found joined)
  found_laws = record {
    fits_itself = λ a va. tt;
    fits_back = λ a b va vb h. tt;
    fits_on = λ a b c va vb vc h i. tt;
    closed = λ a b va vb h. (value_is_found is_value (joined_found joined a b) (seen_laws.closed a b (found_is_value is_value a va) (found_is_value is_value b vb) tt).0, tt, tt);
    commutative = λ a b va vb h. seen_laws.commutative a b (found_is_value is_value a va) (found_is_value is_value b vb) tt;
    idempotent = λ a va. seen_laws.idempotent a (found_is_value is_value a va);
  }

  found_associative : Associative is_value fits joined → Associative (IsBottomOr is_value) (λ _ _. ⊤) (joined_found joined)
  found_associative associative a b c va vb vc h i =
      associative_through (maybes.plain_of (λ x. x)) plain_of_injective (maybes.joined_by joined) (joined_found joined) (plain_of_joined joined) (maybe_associative joined associative all_fit) a b c (found_is_value is_value a va) (found_is_value is_value b vb) (found_is_value is_value c vc) tt tt

greatest_laws : LatticeLaws (IsBottomOr (λ number. number < 2 ^ 64)) (λ _ _. ⊤) (joined_found max)
greatest_laws = found_laws (max_laws (λ number. number < 2 ^ 64)) (λ _ _. tt)

pub fields_laws : LatticeLaws IsFields (λ _ _. ⊤) joined_fields
fields_laws = map_laws spelled_total spelled_exact IsWord (max_laws (λ number. number < 2 ^ 64)) (λ _ _. tt)

last_laws : LatticeLaws (IsBottomOr IsStamped) (λ _ _. ⊤) (joined_found (ord_max stamp_cmp))
last_laws = found_laws stamp_laws (λ _ _. tt)

-- the join of two values of one kind is one of it
value_closed : (a b : Value) → SameKind a b → IsValue a → IsValue b → IsValue (joined_values a b) × (kind_of_value (joined_values a b) ≡ kind_of_value a)
value_closed (Max a) (Max b) h va vb = ((greatest_laws.closed a b va vb tt).0, refl)
value_closed (Or a) (Or b) h va vb = (tt, refl)
value_closed (Set a) (Set b) h va vb = ((set_laws.closed a b va vb tt).0, refl)
value_closed (Map a) (Map b) h va vb = ((fields_laws.closed a b va vb tt).0, refl)
value_closed (Last a) (Last b) h va vb = ((last_laws.closed a b va vb tt).0, refl)
value_closed (Versions a) (Versions b) h va vb = ((versions_laws.closed a b va vb tt).0, refl)
value_closed (Counter a) (Counter b) h va vb = ((sums_laws.closed a b va vb tt).0, refl)
value_closed (OrSet a) (OrSet b) h va vb = ((dot_set_laws.closed a b va vb tt).0, refl)
value_closed _ _ h va vb = absurd h

value_commutes : (a b : Value) → SameKind a b → IsValue a → IsValue b → joined_values a b ≡ joined_values b a
value_commutes (Max a) (Max b) h va vb = ap Max (greatest_laws.commutative a b va vb tt)
value_commutes (Or a) (Or b) h va vb = ap Or (or_laws.commutative a b tt tt tt)
value_commutes (Set a) (Set b) h va vb = ap Set (set_laws.commutative a b va vb tt)
value_commutes (Map a) (Map b) h va vb = ap Map (fields_laws.commutative a b va vb tt)
value_commutes (Last a) (Last b) h va vb = ap Last (last_laws.commutative a b va vb tt)
value_commutes (Versions a) (Versions b) h va vb = ap Versions (versions_laws.commutative a b va vb tt)
value_commutes (Counter a) (Counter b) h va vb = ap Counter (sums_laws.commutative a b va vb tt)
value_commutes (OrSet a) (OrSet b) h va vb = ap OrSet (dot_set_laws.commutative a b va vb tt)
value_commutes _ _ h va vb = absurd h

value_itself : (a : Value) → IsValue a → joined_values a a ≡ a
value_itself (Max a) va = ap Max (greatest_laws.idempotent a va)
value_itself (Or a) va = ap Or (or_laws.idempotent a tt)
value_itself (Set a) va = ap Set (set_laws.idempotent a va)
value_itself (Map a) va = ap Map (fields_laws.idempotent a va)
value_itself (Last a) va = ap Last (last_laws.idempotent a va)
value_itself (Versions a) va = ap Versions (versions_laws.idempotent a va)
value_itself (Counter a) va = ap Counter (sums_laws.idempotent a va)
value_itself (OrSet a) va = ap OrSet (dot_set_laws.idempotent a va)

value_regrouped : (a b c : Value) → SameKind a b → SameKind b c → IsValue a → IsValue b → IsValue c → joined_values (joined_values a b) c ≡ joined_values a (joined_values b c)
value_regrouped (Max a) (Max b) (Max c) h i va vb vc = ap Max (found_associative (max_laws (λ number. number < 2 ^ 64)) (λ _ _. tt) (max_associative (λ number. number < 2 ^ 64)) a b c va vb vc tt tt)
value_regrouped (Max a) (Max b) _ h i va vb vc = absurd i
value_regrouped (Or a) (Or b) (Or c) h i va vb vc = ap Or (or_associative a b c tt tt tt tt tt)
value_regrouped (Or a) (Or b) _ h i va vb vc = absurd i
value_regrouped (Set a) (Set b) (Set c) h i va vb vc = ap Set (set_associative a b c va vb vc tt tt)
value_regrouped (Set a) (Set b) _ h i va vb vc = absurd i
value_regrouped (Map a) (Map b) (Map c) h i va vb vc = ap Map (map_associative spelled_total spelled_exact IsWord (max_laws (λ number. number < 2 ^ 64)) (λ _ _. tt) (max_associative (λ number. number < 2 ^ 64)) a b c va vb vc tt tt)
value_regrouped (Map a) (Map b) _ h i va vb vc = absurd i
value_regrouped (Last a) (Last b) (Last c) h i va vb vc = ap Last (found_associative stamp_laws (λ _ _. tt) stamp_associative a b c va vb vc tt tt)
value_regrouped (Last a) (Last b) _ h i va vb vc = absurd i
value_regrouped (Versions a) (Versions b) (Versions c) h i va vb vc = ap Versions (versions_associative a b c va vb vc tt tt)
value_regrouped (Versions a) (Versions b) _ h i va vb vc = absurd i
value_regrouped (Counter a) (Counter b) (Counter c) h i va vb vc = ap Counter (sums_associative a b c va vb vc tt tt)
value_regrouped (Counter a) (Counter b) _ h i va vb vc = absurd i
value_regrouped (OrSet a) (OrSet b) (OrSet c) h i va vb vc = ap OrSet (dot_set_associative a b c va vb vc tt tt)
value_regrouped (OrSet a) (OrSet b) _ h i va vb vc = absurd i
value_regrouped _ _ _ h i va vb vc = absurd h

-- values of one kind keep the laws
pub value_laws : LatticeLaws IsValue (λ a b. kind_of_value a ≡ kind_of_value b) joined_values
value_laws = record {
  fits_itself = λ a va. refl;
  fits_back = λ a b va vb h. sym h;
  fits_on = λ a b c va vb vc h i. h ∙ i;
  closed = λ a b va vb h.
      let both = value_closed a b (same_kind a b h) va vb in
      (both.0, sym both.1, sym (both.1 ∙ h));
  commutative = λ a b va vb h. value_commutes a b (same_kind a b h) va vb;
  idempotent = value_itself;
}

pub value_associative : Associative IsValue (λ a b. kind_of_value a ≡ kind_of_value b) joined_values
value_associative a b c va vb vc h i = value_regrouped a b c (same_kind a b h) (same_kind b c i) va vb vc
