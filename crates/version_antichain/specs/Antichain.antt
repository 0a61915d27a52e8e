-- Antichains: sets of which no member is below another, in any strict partial order.
use Rattle.std.specs.Prelude.{◌≡◌, Bool, true, false, not, List, All}
use Rattle.std.specs.List.{list_any, filter}
use Rattle.std.specs.declared.cmp.Ordering.{Ordering}
use Rattle.lattice_laws.specs.Sets.{IsSet, united}

-- a strict partial order
pub record IsStrictOrder {E : Type 0} (below : E → E → Bool) : Type 0 where
  pub not_itself : (a : E) → below a a ≡ false
  pub through : (a b c : E) → below a b ≡ true → below b c ≡ true → below a c ≡ true

-- the members that are below no other
abbrev pub maximal : {E : Type 0} → (E → E → Bool) → List E → List E
maximal below members = filter (λ x. not (list_any (below x) members)) members

-- The maximal members of the maximal members of one set and of another set are those of both sets.
abbrev pub MaximalOfMaximal : {E : Type 0} → (E → E → Ordering) → (E → Type 0) → (E → E → Bool) → Type 0
MaximalOfMaximal {E} cmp is_member below =
    (a b : List E) → IsSet cmp is_member a → IsSet cmp is_member b → maximal below (united cmp (maximal below a) b) ≡ maximal below (united cmp a b)

-- a set of which no member is below another
pub record IsAntichain {E : Type 0} (cmp : E → E → Ordering) (is_member : E → Type 0) (below : E → E → Bool) (members : List E) : Type 0 where
  pub is_set : IsSet cmp is_member members
  pub none_below : All (λ x. list_any (below x) members ≡ false) members

-- the join of two antichains: the maximal members of their union
abbrev pub joined_antichains : {E : Type 0} → (E → E → Ordering) → (E → E → Bool) → List E → List E → List E
joined_antichains cmp below a b = maximal below (united cmp a b)
