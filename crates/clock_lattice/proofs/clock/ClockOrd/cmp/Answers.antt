use Rattle.clock_lattice.proofs.Clocks.{compared_slices}
use Rattle.clock_lattice.proofs.clock.ClockOrd.cmp.Goals as goal

pub returns : goal.returns
returns c = compared_slices c.cmp.result c.as_slice.result.now c.as_slice-2.result.now _ _ _ _ c.as_slice.ensures c.as_slice-2.ensures c.self.view_is c.other.view_is c.cmp.ensures
