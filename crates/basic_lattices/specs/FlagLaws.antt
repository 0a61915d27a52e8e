-- The laws of "or".
use Rattle.std.specs.Prelude.{◌≡◌, Bool, true, false, ◌||◌, ⊤, refl}
use Rattle.lattice_laws.specs.Lattice.{LatticeLaws, Associative}

or_commutes : (a b : Bool) → (a || b) ≡ (b || a)
or_commutes true true = refl
or_commutes true false = refl
or_commutes false true = refl
or_commutes false false = refl

or_itself : (a : Bool) → (a || a) ≡ a
or_itself true = refl
or_itself false = refl

or_regrouped : (a b c : Bool) → ((a || b) || c) ≡ (a || (b || c))
or_regrouped true b c = refl
or_regrouped false b c = refl

pub or_laws : LatticeLaws (λ _. ⊤) (λ _ _. ⊤) ◌||◌
or_laws = record {
  fits_itself = λ a va. tt;
  fits_back = λ a b va vb h. tt;
  fits_on = λ a b c va vb vc h i. tt;
  closed = λ a b va vb h. (tt, tt, tt);
  commutative = λ a b va vb h. or_commutes a b;
  idempotent = λ a va. or_itself a;
}

pub or_associative : Associative (λ _. ⊤) (λ _ _. ⊤) ◌||◌
or_associative a b c va vb vc h i = or_regrouped a b c
