use Rattle.std.proofs.Common.{ap}
use Rattle.std.proofs.lemmas.Result.{IfOk-at_ok}
use Rattle.party_ends.proofs.FreshLemmas.{if_made, lanes_are_fresh_weak}
use Rattle.party_ends.proofs.rings.RingPostMakesGossipBatch.make_weak.Goals as goal

pub returns-clause-fresh : goal.returns-clause-fresh
returns-clause-fresh c =
    let rings = c.rings.ensures in
    if_made _ _ c.rings.result rings.about (λ ends made about.
    lanes_are_fresh_weak _ _ _ _ _ _ c.args.senders ends.0.items ends.1
    (IfOk-at_ok _ made rings.numbers) (IfOk-at_ok _ made rings.sent) (IfOk-at_ok _ made rings.pairs) (IfOk-at_ok _ made rings.received)
    (λ sender within. ap (λ known. known.standing) (about sender within.0 within.1)))
