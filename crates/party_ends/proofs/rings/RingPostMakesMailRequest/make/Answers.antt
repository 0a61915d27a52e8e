use Rattle.std.proofs.Common.{ap}
use Rattle.std.proofs.lemmas.Result.{IfOk-at_ok}
use Rattle.party_ends.proofs.FreshLemmas.{if_made, lanes_are_fresh}
use Rattle.party_ends.proofs.rings.RingPostMakesMailRequest.make.Goals as goal

pub returns : goal.returns
returns c =
    let rings = c.rings.ensures in
    if_made _ _ c.rings.result rings.about (λ ends made about.
    lanes_are_fresh _ _ _ _ _ _ c.args.senders ends.0.items ends.1
    (IfOk-at_ok _ made rings.numbers) (IfOk-at_ok _ made rings.sent) (IfOk-at_ok _ made rings.pairs) (IfOk-at_ok _ made rings.received)
    (λ sender within. ap (λ known. known.standing) (about sender within.0 within.1)))
