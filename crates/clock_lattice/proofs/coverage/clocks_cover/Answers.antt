use Rattle.clock_lattice.specs.ClockLaws.{count-joined, counts_from_covers}
use Rattle.clock_lattice.proofs.ClockLemmas.{covers_from_counts}
use Rattle.clock_lattice.proofs.CoverageLemmas.{clock_coverage}
use Rattle.clock_lattice.proofs.coverage.clocks_cover.Goals as goal

pub returns-clause-join : goal.returns-clause-join
returns-clause-join c = count-joined

pub returns-clause-each : goal.returns-clause-each
returns-clause-each c = λ a b is. (counts_from_covers a b, covers_from_counts a b is)

pub returns-clause-laws : goal.returns-clause-laws
returns-clause-laws c = clock_coverage
