use Rattle.clock_lattice.proofs.NeedsLemmas.{clock-joined, clocks_from_covers, covers_from_clocks}
use Rattle.clock_lattice.proofs.CoverageLemmas.{needs_coverage}
use Rattle.clock_lattice.proofs.coverage.needs_cover.Goals as goal

pub returns-clause-join : goal.returns-clause-join
returns-clause-join c = clock-joined

pub returns-clause-each : goal.returns-clause-each
returns-clause-each c = λ a b is. (clocks_from_covers a b, covers_from_clocks a b is)

pub returns-clause-laws : goal.returns-clause-laws
returns-clause-laws c = needs_coverage
