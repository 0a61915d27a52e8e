-- The laws of a lattice with a bottom added.
use Rattle.std.specs.Prelude.{◌≡◌, Option, Some, None, ⊤, refl}
use Rattle.std.proofs.Common.{ap}
use Rattle.lattice_laws.specs.Lattice.{LatticeLaws, Associative}
use Rattle.lattice_laws.specs.Maybe.{IsValue, joined_by}

closed_by : {P : Type 0} {is_value : P → Type 0} {fits : P → P → Type 0} {joined : P → P → P} → LatticeLaws is_value fits joined → ((a b : P) → fits a b) → (a b : Option P) → IsValue is_value a → IsValue is_value b → IsValue is_value (joined_by joined a b)
closed_by laws all_fit None b va vb = vb
closed_by laws all_fit (Some a) None va vb = va
closed_by laws all_fit (Some a) (Some b) va vb = (laws.closed a b va vb (all_fit a b)).0

commutes_by : {P : Type 0} {is_value : P → Type 0} {fits : P → P → Type 0} {joined : P → P → P} → LatticeLaws is_value fits joined → ((a b : P) → fits a b) → (a b : Option P) → IsValue is_value a → IsValue is_value b → joined_by joined a b ≡ joined_by joined b a
commutes_by laws all_fit None None va vb = refl
commutes_by laws all_fit None (Some b) va vb = refl
commutes_by laws all_fit (Some a) None va vb = refl
commutes_by laws all_fit (Some a) (Some b) va vb = ap Some (laws.commutative a b va vb (all_fit a b))

idempotent_by : {P : Type 0} {is_value : P → Type 0} {fits : P → P → Type 0} {joined : P → P → P} → LatticeLaws is_value fits joined → (a : Option P) → IsValue is_value a → joined_by joined a a ≡ a
idempotent_by laws None va = refl
idempotent_by laws (Some a) va = ap Some (laws.idempotent a va)

-- adding a bottom to a lattice whose values all merge keeps the laws
pub maybe_laws : {P : Type 0} {is_value : P → Type 0} {fits : P → P → Type 0} {joined : P → P → P} → LatticeLaws is_value fits joined → ((a b : P) → fits a b) → LatticeLaws (IsValue is_value) (λ _ _. ⊤) (joined_by joined)
maybe_laws laws all_fit = record {
  fits_itself = λ a va. tt;
  fits_back = λ a b va vb h. tt;
  fits_on = λ a b c va vb vc h i. tt;
  closed = λ a b va vb h. (closed_by laws all_fit a b va vb, tt, tt);
  commutative = λ a b va vb h. commutes_by laws all_fit a b va vb;
  idempotent = λ a va. idempotent_by laws a va;
}

-- and how merges are grouped stays free
pub maybe_associative : {P : Type 0} {is_value : P → Type 0} {fits : P → P → Type 0} (joined : P → P → P) → Associative is_value fits joined → ((a b : P) → fits a b) → Associative (IsValue is_value) (λ _ _. ⊤) (joined_by joined)
maybe_associative joined associative all_fit None b c va vb vc h i = refl
maybe_associative joined associative all_fit (Some a) None c va vb vc h i = refl
maybe_associative joined associative all_fit (Some a) (Some b) None va vb vc h i = refl
maybe_associative joined associative all_fit (Some a) (Some b) (Some c) va vb vc h i = ap Some (associative a b c va vb vc (all_fit a b) (all_fit b c))
