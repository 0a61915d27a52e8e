use Rattle.std.proofs.Common.{arith}
use Rattle.clock_lattice.specs.Clock.{IsClock}
use Rattle.clock_lattice.proofs.Clocks.{either_way, raised_is_clock}
use Rattle.clock_lattice.proofs.clock.Clock.raise.Goals as goal

pub invariant_of-self : goal.invariant_of-self
invariant_of-self c =
    either_way IsClock c.raise_shared.result _ _ _ c.raise_shared.ensures.ok c.raise_shared.ensures.err
    (raised_is_clock c.args.session c.of.result _ c.ranges.session.fits (omega (arith, c.of.ensures, c.ranges.n.fits)) (omega (arith, c.of.ensures, c.if-n-eq0.false)) c.self.invariant)
    c.self.invariant
