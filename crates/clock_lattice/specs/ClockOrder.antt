-- The order in which clocks are listed: by their entries, as lists of (session, count). It says nothing of causality.
use Rattle.std.specs.Prelude.{◌≡◌, ℕ, Bool, List, Option, Some, refl}
use Rattle.std.specs.Ordering.{ordering_then, nat_cmp, eq_by_cmp}
use Rattle.std.specs.Cmp.{IsTotalOrder, IsPartialOrder, IsEquivalence, IsPartialEquivalence, partial_equiv_from_equiv, eq_by_cmp_equiv, partial_order_from_total, nat_cmp_total}
use Rattle.std.specs.Cmp.Lexicographic.{slice_cmp}
use Rattle.std.proofs.lemmas.Cmp.{on_total, then_total, lists_total}
use Rattle.std.specs.FinMap.{nat_cmp-IsAntisymmetric, slice_cmp-IsAntisymmetric}
use Rattle.std.specs.declared.cmp.Ordering.{Ordering}
use Rattle.std.specs.declared.cmp.Ordering.TheVariants.{Equal}
use Rattle.lattice_laws.specs.Ties.{both_tie}

-- by session, then by count
abbrev pub entry_cmp : ℕ × ℕ → ℕ × ℕ → Ordering
entry_cmp a b = ordering_then (nat_cmp a.0 b.0) (nat_cmp a.1 b.1)

abbrev pub clock_cmp : List (ℕ × ℕ) → List (ℕ × ℕ) → Ordering
clock_cmp a b = slice_cmp entry_cmp a b

abbrev pub clock_eq : List (ℕ × ℕ) → List (ℕ × ℕ) → Bool
clock_eq a b = eq_by_cmp clock_cmp a b

abbrev pub clock_partial_cmp : List (ℕ × ℕ) → List (ℕ × ℕ) → Option Ordering
clock_partial_cmp a b = Some (clock_cmp a b)

pub clock_total : IsTotalOrder clock_cmp
clock_total = lists_total (then_total (on_total (λ e. e.0) nat_cmp_total) (on_total (λ e. e.1) nat_cmp_total))

pub clock_equivalence : IsEquivalence clock_eq
clock_equivalence = eq_by_cmp_equiv clock_total

pub clock_partial_equivalence : IsPartialEquivalence clock_eq
clock_partial_equivalence = partial_equiv_from_equiv clock_equivalence

pub clock_partial_order : IsPartialOrder clock_eq clock_partial_cmp
clock_partial_order = partial_order_from_total clock_total

pub clock_ties : (a b : List (ℕ × ℕ)) → clock_eq a b ≡ eq_by_cmp clock_cmp a b
clock_ties a b = refl

-- entries that tie are one
entry_exact : (a b : ℕ × ℕ) → entry_cmp a b ≡ Equal → a ≡ b
entry_exact a b e =
    let ties = both_tie (nat_cmp a.0 b.0) (nat_cmp a.1 b.1) e in
    let session = nat_cmp-IsAntisymmetric a.0 b.0 ties.0 in
    let count = nat_cmp-IsAntisymmetric a.1 b.1 ties.1 in
    λ i. (session i, count i)

-- clocks that tie are one
pub clock_exact : (a b : List (ℕ × ℕ)) → clock_cmp a b ≡ Equal → a ≡ b
clock_exact = slice_cmp-IsAntisymmetric entry_exact
