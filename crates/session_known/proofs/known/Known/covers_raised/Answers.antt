use Rattle.std.proofs.Common.{◌&&◌, leb, sym, ap, subst, ◌∙◌}
use Rattle.clock_lattice.specs.Clock.{covers}
use Rattle.clock_lattice.specs.Needs.{IsNeeds, clock_at}
use Rattle.clock_lattice.proofs.NeedsLemmas.{clock_at_is_clock}
use Rattle.session_known.proofs.CoversLemmas.{covers_raised_both}
use Rattle.session_known.proofs.known.Known.covers_raised.Goals as goal

pub returns : goal.returns
returns c =
    let knows = c.args.self.now.knows in
    let is_known = clock_at_is_clock c.args.key knows.clocks (subst IsNeeds c.needs.ensures c.attest-2.ensures) in
    ap (λ t. t && leb c.args.count c.count.result) c.covers_known.ensures
    ∙ ap (λ n. covers c.args.clock.now (clock_at c.args.key knows.clocks) && leb c.args.count n) c.count.ensures
    ∙ sym (covers_raised_both c.args.clock.now (clock_at c.args.key knows.clocks) c.args.session c.args.count c.ranges.session.fits c.ranges.count.fits c.attest.ensures is_known)
