-- The laws of the greater of two numbers, whichever numbers are values.
use Rattle.std.specs.Prelude.{◌≡◌, ℕ, ◌<◌, ◌≤◌, ◌⊎◌, max, ⊤}
use Rattle.std.proofs.Common.{sym, subst, inl, inr, arith}
use Rattle.std.proofs.lemmas.Bool.{cases_lt}
use Rattle.lattice_laws.specs.Lattice.{LatticeLaws, Associative}

-- the greater of two is one of them
kept_as : (is_value : ℕ → Type 0) (a b : ℕ) → (a < b) ⊎ (b ≤ a) → is_value a → is_value b → is_value (max a b)
kept_as is_value a b (inl below) va vb = let greater : max a b ≡ b = omega arith in subst is_value (sym greater) vb
kept_as is_value a b (inr not_below) va vb = let greater : max a b ≡ a = omega arith in subst is_value (sym greater) va

pub max_laws : (is_value : ℕ → Type 0) → LatticeLaws is_value (λ _ _. ⊤) max
max_laws is_value = record {
  fits_itself = λ a va. tt;
  fits_back = λ a b va vb h. tt;
  fits_on = λ a b c va vb vc h i. tt;
  closed = λ a b va vb h. (kept_as is_value a b (cases_lt a b) va vb, tt, tt);
  commutative = λ a b va vb h. omega arith;
  idempotent = λ a va. omega arith;
}

-- how the greatest of three is found does not matter
pub max_associative : (is_value : ℕ → Type 0) → Associative is_value (λ _ _. ⊤) max
max_associative is_value a b c va vb vc h i = omega arith
