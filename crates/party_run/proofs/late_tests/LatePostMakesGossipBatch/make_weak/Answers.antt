use Rattle.std.proofs.Common.{◌∙◌, ap, sym}
use Rattle.party_ends.proofs.FreshLemmas.{over_lanes_is_fresh}
use Rattle.party_run.proofs.late_tests.LatePostMakesGossipBatch.make_weak.Goals as goal

pub returns-clause-fresh : goal.returns-clause-fresh
returns-clause-fresh c =
    let rings = c.in_ok-txs.ensures in
    let late = c.in_ok-late.ensures in
    over_lanes_is_fresh _ _ _ _ (λ its. its) _ _ c.args.senders _ _ rings.numbers rings.sent (rings.pairs ∙ sym late.key) late.got
    (λ sender within. ap (λ known. (known sender).standing) late.about ∙ ap (λ known. known.standing) (rings.about sender within.0 within.1))
