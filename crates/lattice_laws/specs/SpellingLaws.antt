-- The order of spelled bytes is total, and only equal bytes tie.
use Rattle.std.specs.Prelude.{◌≡◌, ℕ, List}
use Rattle.std.specs.Cmp.{IsTotalOrder, IsPartialOrder, IsEquivalence, IsPartialEquivalence, partial_equiv_from_equiv}
use Rattle.std.specs.Cmp.Lexicographic.{nat_list_cmp_total, nat_list_eq_equiv, texts_po}
use Rattle.std.specs.FinMap.{nat_cmp-IsAntisymmetric, slice_cmp-IsAntisymmetric}
use Rattle.std.specs.declared.cmp.Ordering.TheVariants.{Equal}
use Rattle.lattice_laws.specs.Spelling.{spelled_eq, spelled_cmp, spelled_partial_cmp}

pub spelled_equivalence : IsEquivalence spelled_eq
spelled_equivalence = nat_list_eq_equiv

pub spelled_partial_equivalence : IsPartialEquivalence spelled_eq
spelled_partial_equivalence = partial_equiv_from_equiv spelled_equivalence

pub spelled_partial_order : IsPartialOrder spelled_eq spelled_partial_cmp
spelled_partial_order = texts_po

pub spelled_total : IsTotalOrder spelled_cmp
spelled_total = nat_list_cmp_total

-- bytes that tie are one
pub spelled_exact : (a b : List ℕ) → spelled_cmp a b ≡ Equal → a ≡ b
spelled_exact = slice_cmp-IsAntisymmetric nat_cmp-IsAntisymmetric
