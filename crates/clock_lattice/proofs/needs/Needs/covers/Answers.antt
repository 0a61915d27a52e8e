use Rattle.lattice_laws.specs.Entries.{plain_entries}
use Rattle.clock_lattice.specs.Needs.{IsNeeds, joined_needs, covers_needs}
use Rattle.clock_lattice.proofs.CoverageLemmas.{needs_coverage}
use Rattle.clock_lattice.proofs.Clocks.{covers_slices}
use Rattle.clock_lattice.proofs.needs.Needs.covers.Goals as goal

pub returns : goal.returns
returns c = covers_slices (plain_entries (λ clock. clock)) IsNeeds joined_needs covers_needs needs_coverage _ c.as_slice-2.result.now c.as_slice.result.now _ _ _ _ c.as_slice-2.ensures c.as_slice.ensures c.self.view_is c.other.view_is c.at_most_entries.ensures c.self.invariant c.other.invariant
