use Rattle.std.proofs.Common.{subst, sym}
use Rattle.clock_lattice.specs.Needs.{IsSomeClock}
use Rattle.clock_lattice.specs.NeedsLaws.{some_clock_laws}
use Rattle.clock_lattice.proofs.some_clock.SomeClockLattice.merged.Goals as goal

pub invariant_of-result : goal.invariant_of-result
invariant_of-result c = subst IsSomeClock (sym c.in_ok-joined.ensures) (some_clock_laws.closed _ _ c.self.invariant c.other.invariant tt).0
