use Rattle.std.specs.Ordering.{nat_cmp}
use Rattle.std.proofs.Common.{◌<◌, ◌^◌, arith}
use Rattle.lattice_laws.proofs.EntriesLemmas.{map_after_push}
use Rattle.clock_lattice.specs.Clock.{IsCount}
use Rattle.clock_lattice.proofs.clock.Clock.push.Goals as goal

pub invariant_of-self : goal.invariant_of-self
invariant_of-self c =
    map_after_push nat_cmp (λ session. session < 2 ^ 16) IsCount c.push_shared.result _ (c.args.session, c.of.result) _
    c.push_shared.ensures.pushed c.push_shared.ensures.err c.push_shared.ensures.ascending
    (c.ranges.session.fits, (omega (arith, c.of.ensures), omega (arith, c.of.ensures, c.ranges.n.fits))) c.self.invariant
