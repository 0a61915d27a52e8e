use Rattle.std.proofs.Common.{◌∙◌, ap, map}
use Rattle.std.proofs.lemmas.Result.{IfOk-at_ok}
use Rattle.party_ends.proofs.FreshLemmas.{if_made}
use Rattle.party_run.proofs.NumberedLemmas.{still_numbered}
use Rattle.party_run.proofs.waiting.serve_waiting.Goals as goal

pub finish_run-requires-clause-running : goal.finish_run-requires-clause-running
finish_run-requires-clause-running g c = c.in_ok-run_epochs.ensures.steps.goes_on.running c.args.script.now c.in_ok-parties.ensures.running

pub returns-clause-made_with : goal.returns-clause-made_with
returns-clause-made_with g c = if_made _ _ c.drain.result c.drain.ensures.goes_on (λ drained is goes_on.
    let keys = ap (λ workers. map (λ worker. g.P.GosRx.GossipRx.key worker.ends.gossip_in) workers.items) c.in_ok-workers.ensures.workers in
    still_numbered g.P.ReqRx.Rx.received g.P.GosRx.GossipRx.key g.P.GosRx.GossipRx.got g.P.RepRx.Rx.received c.args.script.now drained.report
    c.in_ok-parties.parties.workers.items c.in_ok-workers.workers.items drained.workers.items drained.replies.items
    (keys ∙ c.in_ok-run_epochs.ensures.steps.goes_on.gossip_keys)
    c.in_ok-workers.ensures.run.as_many (IfOk-at_ok _ is c.drain.ensures.drained) goes_on g.P.GosRx.GossipRx.made_with (g.P.MakesGossip.numbers c.args.post.now)
    c.in_ok-parties.ensures.made_with)
