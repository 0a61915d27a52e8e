-- Amounts are a lattice, as each of the two numbers is.
use Rattle.std.specs.Prelude.{◌≡◌, ⊤}
use Rattle.std.proofs.Common.{arith}
use Rattle.lattice_laws.specs.Lattice.{LatticeLaws, Associative}
use Rattle.dot_lattices.specs.Amounts.{AreAmounts, joined_amounts}
use Rattle.dot_lattices.specs.declared.amounts.Amounts.{Amounts}

-- two are one where both numbers are
same : (a b : Amounts) → a.added ≡ b.added → a.taken ≡ b.taken → a ≡ b
same a b added taken = λ i. record { added = added i; taken = taken i }

pub amounts_laws : LatticeLaws AreAmounts (λ _ _. ⊤) joined_amounts
amounts_laws = record {
  fits_itself = λ a va. tt;
  fits_back = λ a b va vb h. tt;
  fits_on = λ a b c va vb vc h i. tt;
  closed = λ a b va vb h. (record { added_fits = omega (arith, va, vb); taken_fits = omega (arith, va, vb) }, tt, tt);
  commutative = λ a b va vb h. same (joined_amounts a b) (joined_amounts b a) (omega arith) (omega arith);
  idempotent = λ a va. same (joined_amounts a a) a (omega arith) (omega arith);
}

pub amounts_associative : Associative AreAmounts (λ _ _. ⊤) joined_amounts
amounts_associative a b c va vb vc h i = same (joined_amounts (joined_amounts a b) c) (joined_amounts a (joined_amounts b c)) (omega arith) (omega arith)
