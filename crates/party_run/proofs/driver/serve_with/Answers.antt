use Rattle.std.proofs.Common.{◌∙◌, ap, inr, map, subst, sym}
use Rattle.std.proofs.lemmas.Result.{IfOk-at_ok}
use Rattle.drain_ledger.specs.Handed.{AreFrontsOfSent}
use Rattle.party_turns.specs.Ends.{Ends, mail_of}
use Rattle.parties.specs.Session.{proxy_of}
use Rattle.parties.specs.Polling.{left_by}
use Rattle.party_ends.proofs.FreshLemmas.{if_made}
use Rattle.party_run.proofs.NumberedLemmas.{still_numbered}
use Rattle.party_run.proofs.RoundLemmas.{none_await}
use Rattle.party_run.proofs.ToldLemmas.{all_fronts}
use Rattle.party_run.proofs.driver.serve_with.Given.{Over}
use Rattle.party_run.proofs.driver.serve_with.Goals as goal

module _ (g : Over) where
  -- what the ends tell
  abbrev mail : Ends g.row.P-ReqTx.Denot g.row.P-RepTx.Denot g.row.P-GosTx.Denot g.row.P-ReqRx.Denot g.row.P-GosRx.Denot g.row.P-RepRx.Denot
      g.row.P-ReqTx-Key.Denot g.row.P-RepTx-Key.Denot g.row.P-GosTx-Key.Denot g.row.P-ReqRx-Key.Denot g.row.P-GosRx-Key.Denot g.row.P-RepRx-Key.Denot
  mail = mail_of g.P.ReqTx.Tx g.P.RepTx.Tx g.P.GosTx.Tx g.P.ReqRx.Rx g.P.GosRx.GossipRx g.P.RepRx.Rx

pub run_rounds-requires-clause-running : goal.run_rounds-requires-clause-running
run_rounds-requires-clause-running g c κs within = (c.args.script.now, c.in_ok-parties.ensures.running)

pub run_rounds-requires-clause-await_theirs : goal.run_rounds-requires-clause-await_theirs
run_rounds-requires-clause-await_theirs g c κs within = none_await (mail g) (map proxy_of c.in_ok-parties.parties.sessions.items) c.in_ok-parties.ensures.none_waits

pub finish_run-requires-clause-running : goal.finish_run-requires-clause-running
finish_run-requires-clause-running g c = c.in_ok-run_rounds.ensures.steps.goes_on.running c.args.script.now c.in_ok-parties.ensures.running

-- where sessions took of each worker's replies a front of what it sent them, a sender whose messages were all handed out finds a place
pub drain-requires-clause-room : goal.drain-requires-clause-room
drain-requires-clause-room g c by_measure =
    let proxies = map proxy_of c.run_rounds.new.parties.sessions.items in
    let fronts = all_fronts (mail g) c.run_rounds.new.parties.workers.items proxies c.in_ok-run_rounds.ensures.told in
    inr (
      c.requires.room,
      subst (AreFrontsOfSent g.P.RepTx.Tx.sent g.P.RepRx.Rx.received c.in_ok-workers.workers.items) (sym c.in_ok-workers.ensures.left)
          (subst (λ workers. AreFrontsOfSent g.P.RepTx.Tx.sent g.P.RepRx.Rx.received workers.items (map left_by proxies)) (sym c.in_ok-workers.ensures.workers) fronts),
    )

pub returns-clause-made_with : goal.returns-clause-made_with
returns-clause-made_with g c = if_made _ _ c.drain.result c.drain.ensures.goes_on (λ drained is goes_on.
    let keys = ap (λ workers. map (λ worker. g.P.GosRx.GossipRx.key worker.ends.gossip_in) workers.items) c.in_ok-workers.ensures.workers in
    still_numbered g.P.ReqRx.Rx.received g.P.GosRx.GossipRx.key g.P.GosRx.GossipRx.got g.P.RepRx.Rx.received c.args.script.now drained.report
    c.in_ok-parties.parties.workers.items c.in_ok-workers.workers.items drained.workers.items drained.replies.items
    (keys ∙ c.in_ok-run_rounds.ensures.steps.goes_on.gossip_keys)
    c.in_ok-workers.ensures.run.as_many (IfOk-at_ok _ is c.drain.ensures.drained) goes_on g.P.GosRx.GossipRx.made_with (g.P.MakesGossip.numbers c.args.post.now)
    c.in_ok-parties.ensures.made_with)
