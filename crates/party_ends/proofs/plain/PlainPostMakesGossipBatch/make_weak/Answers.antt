use Rattle.std.proofs.Common.{◌∙◌, ap, sym}
use Rattle.std.proofs.lemmas.Result.{IfOk-at_ok}
use Rattle.party_ends.proofs.FreshLemmas.{if_made, lanes_are_fresh_weak}
use Rattle.party_ends.proofs.plain.PlainPostMakesGossipBatch.make_weak.Goals as goal

pub returns-clause-fresh : goal.returns-clause-fresh
returns-clause-fresh c =
    let plain = c.plain.ensures in
    if_made _ _ c.plain.result plain.about (λ ends made about.
    lanes_are_fresh_weak _ _ _ _ _ _ c.args.senders ends.0.items ends.1
    (IfOk-at_ok _ made plain.numbers) (IfOk-at_ok _ made plain.sent) (IfOk-at_ok _ made plain.given ∙ sym (IfOk-at_ok _ made plain.delivered)) (IfOk-at_ok _ made plain.received)
    (λ sender within. ap (λ known. known.standing) (about sender)))
