use Rattle.lattice_laws.specs.Entries.{plain_entries}
use Rattle.clock_lattice.specs.Clock.{IsClock, joined_clocks, covers}
use Rattle.clock_lattice.proofs.CoverageLemmas.{clock_coverage}
use Rattle.clock_lattice.proofs.Clocks.{covers_slices}
use Rattle.clock_lattice.proofs.clock.Clock.covers.Goals as goal

pub returns : goal.returns
returns c = covers_slices (plain_entries (λ n. n)) IsClock joined_clocks covers clock_coverage _ c.as_slice-2.result.now c.as_slice.result.now _ _ _ _ c.as_slice-2.ensures c.as_slice.ensures c.self.view_is c.other.view_is c.at_most_entries.ensures c.self.invariant c.other.invariant
