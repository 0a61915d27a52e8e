use Rattle.clock_lattice.specs.Needs.{IsSomeClock}
use Rattle.clock_lattice.specs.NeedsLaws.{some_clock_laws}
use Rattle.clock_lattice.proofs.Clocks.{either_way}
use Rattle.clock_lattice.proofs.some_clock.SomeClockLattice.join.Goals as goal

pub invariant_of-self : goal.invariant_of-self
invariant_of-self c =
    either_way IsSomeClock c.join.result c.join.new.self _ _ c.join.ensures.ok c.join.ensures.err
    (some_clock_laws.closed _ _ c.self.invariant c.other.invariant tt).0 c.self.invariant
