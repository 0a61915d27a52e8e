use Rattle.std.proofs.Common.{subst, sym}
use Rattle.clock_lattice.specs.Clock.{IsClock}
use Rattle.clock_lattice.specs.ClockLaws.{clock_laws}
use Rattle.clock_lattice.proofs.clock.Clock.joined.Goals as goal

pub invariant_of-result : goal.invariant_of-result
invariant_of-result c = subst IsClock (sym c.in_ok-join_shared.ensures.joined) (clock_laws.closed _ _ c.self.invariant c.other.invariant tt).0
