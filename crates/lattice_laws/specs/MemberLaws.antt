-- The laws of the lattice with one point.
use Rattle.std.specs.Prelude.{⊤, refl}
use Rattle.lattice_laws.specs.Lattice.{LatticeLaws, Associative}

pub point_laws : LatticeLaws {P = Unit {0}} (λ _. ⊤) (λ _ _. ⊤) (λ _ _. tt)
point_laws = record {
  fits_itself = λ a va. tt;
  fits_back = λ a b va vb h. tt;
  fits_on = λ a b c va vb vc h i. tt;
  closed = λ a b va vb h. (tt, tt, tt);
  commutative = λ a b va vb h. refl;
  idempotent = λ a va. refl;
}

pub point_associative : Associative {P = Unit {0}} (λ _. ⊤) (λ _ _. ⊤) (λ _ _. tt)
point_associative a b c va vb vc h i = refl
