-- Counters are a lattice, told by what stands at each dot.
use Rattle.std.specs.Prelude.{⊤}
use Rattle.lattice_laws.specs.Lattice.{LatticeLaws, Associative}
use Rattle.lattice_laws.specs.EntriesLaws.{map_laws, map_associative}
use Rattle.dot_lattices.specs.AmountsLaws.{amounts_laws, amounts_associative}
use Rattle.dot_lattices.specs.Dot.{IsDot}
use Rattle.dot_lattices.specs.DotLaws.{dot_total, dot_exact}
use Rattle.dot_lattices.specs.DotSums.{IsDotSums, joined_sums}

pub sums_laws : LatticeLaws IsDotSums (λ _ _. ⊤) joined_sums
sums_laws = map_laws dot_total dot_exact IsDot amounts_laws (λ _ _. tt)

pub sums_associative : Associative IsDotSums (λ _ _. ⊤) joined_sums
sums_associative = map_associative dot_total dot_exact IsDot amounts_laws (λ _ _. tt) amounts_associative
