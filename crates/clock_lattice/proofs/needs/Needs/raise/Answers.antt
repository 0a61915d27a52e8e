use Rattle.clock_lattice.specs.Needs.{IsNeeds}
use Rattle.clock_lattice.proofs.Clocks.{either_way, raised_is_needs}
use Rattle.clock_lattice.proofs.needs.Needs.raise.Goals as goal

pub invariant_of-self : goal.invariant_of-self
invariant_of-self c =
    either_way IsNeeds c.raise_shared.result _ _ _ c.raise_shared.ensures.ok c.raise_shared.ensures.err
    (raised_is_needs c.args.key c.of-raised.result _ c.ranges.key.fits c.of-raised.ensures.some c.self.invariant)
    c.self.invariant
