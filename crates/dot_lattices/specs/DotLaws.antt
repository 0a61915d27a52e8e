-- The order of dots is total, and only equal dots tie.
use Rattle.std.specs.Prelude.{◌≡◌}
use Rattle.std.specs.Cmp.{IsTotalOrder, nat_cmp_total}
use Rattle.std.proofs.lemmas.Cmp.{on_total, then_total}
use Rattle.std.specs.Ordering.{nat_cmp}
use Rattle.std.specs.FinMap.{nat_cmp-IsAntisymmetric}
use Rattle.std.specs.declared.cmp.Ordering.TheVariants.{Equal}
use Rattle.lattice_laws.specs.Ties.{both_tie}
use Rattle.dot_lattices.specs.Dot.{dot_cmp}
use Rattle.dot_lattices.specs.declared.dot.Dot.{Dot}

pub dot_total : IsTotalOrder dot_cmp
dot_total = then_total (on_total (λ d. d.session) nat_cmp_total) (on_total (λ d. d.number) nat_cmp_total)

pub dot_exact : (a b : Dot) → dot_cmp a b ≡ Equal → a ≡ b
dot_exact a b e =
    let ties = both_tie (nat_cmp a.session b.session) _ e in
    let session = nat_cmp-IsAntisymmetric a.session b.session ties.0 in
    let number = nat_cmp-IsAntisymmetric a.number b.number ties.1 in
    λ i. record { session = session i; number = number i }
