use Rattle.std.proofs.Common.{◌≡◌, ◌∙◌, ◌+◌, All, List, ap, arith, map, slice_get, subst, sym}
use Rattle.std.proofs.lemmas.Option.{get_or_from_slice_get, slice_get_within}
use Rattle.session_proxy.specs.State as sessions
use Rattle.worker_core.specs.Share.{Share}
use Rattle.worker_core.specs.State as workers
use Rattle.run_waiting.specs.Waiting.{AreSigned}
use Rattle.party_turns.proofs.ItemsLemmas.{at_its_place, mapped, of_mapped, there_too}
use Rattle.party_turns.specs.Ends.{Ends, mail_of, session_lists, worker_lists}
use Rattle.parties.specs.Session.{proxy_of}
use Rattle.parties.specs.Sweeping.{HasServedAll}
use Rattle.parties.proofs.PlacedLemmas.{are_of_workers, may_be_polled}
use Rattle.parties.proofs.SameToldLemmas.{same_told}
use Rattle.parties.proofs.ServedLemmas.{known_beside, met_beside, served_all}
use Rattle.parties.proofs.StayStepsLemmas.{stay_steps}
use Rattle.party_turns.proofs.StepsLemmas.{steps_through}
use Rattle.parties.proofs.parties.PartiesRun.turn_worker.Given.{Over}
use Rattle.parties.proofs.parties.PartiesRun.turn_worker.Goals as goal

module _ (g : Over) where
  -- what the ends tell
  abbrev mail : Ends g.row.P-ReqTx.Denot g.row.P-RepTx.Denot g.row.P-GosTx.Denot g.row.P-ReqRx.Denot g.row.P-GosRx.Denot g.row.P-RepRx.Denot
      g.row.P-ReqTx-Key.Denot g.row.P-RepTx-Key.Denot g.row.P-GosTx-Key.Denot g.row.P-ReqRx-Key.Denot g.row.P-GosRx-Key.Denot g.row.P-RepRx-Key.Denot
  mail = mail_of g.P.ReqTx.Tx g.P.RepTx.Tx g.P.GosTx.Tx g.P.ReqRx.Rx g.P.GosRx.GossipRx g.P.RepRx.Rx

pub turn_worker-requires-clause-known : goal.turn_worker-requires-clause-known
turn_worker-requires-clause-known g c worker there =
    let ends = c.show_worker.ensures.stay.goes_on.ends c.requires.running.1.ends in
    known_beside c.requires.free c.args.place (map proxy_of c.show_worker.new.parties.sessions.items) worker
    (λ at proxy here. c.show_worker.ensures.beside at worker proxy there here) (g.P.ReqRx.Rx.senders (g.P.ReqRx.Rx.key worker.ends.requests)) (ends.request_boxes c.args.place worker there)

pub turn_worker-requires-clause-met : goal.turn_worker-requires-clause-met
turn_worker-requires-clause-met g c worker there =
    let ends = c.show_worker.ensures.stay.goes_on.ends c.requires.running.1.ends in
    let long = c.show_worker.ensures.stay.goes_on.workers_long in
    met_beside c.args.place _ _ _ (g.P.GosRx.GossipRx.about worker.ends.gossip_in) (ends.gossip_boxes c.args.place worker there)
    (λ other differs low. c.show_worker.ensures.met other differs (omega (arith, low, long)) worker there)

pub returns-in_err-turn_worker-clause-others : goal.returns-in_err-turn_worker-clause-others
returns-in_err-turn_worker-clause-others g c other differs =
    same_told (worker_lists (mail g)) c.show_worker.new.parties.workers.items c.turn_worker.new.parties.workers.items other (c.turn_worker.ensures.others other differs)
    ∙ ap (λ all. slice_get all other) c.show_worker.ensures.stay.workers_told

pub returns-clause-others : goal.returns-clause-others
returns-clause-others g c other differs =
    same_told (worker_lists (mail g)) c.show_worker.new.parties.workers.items c.turn_worker.new.parties.workers.items other (c.turn_worker.ensures.others other differs)
    ∙ ap (λ all. slice_get all other) c.show_worker.ensures.stay.workers_told

pub returns-clause-steps : goal.returns-clause-steps
returns-clause-steps g c = steps_through _ _ _ _ _ _ (stay_steps _ _ _ _ c.show_worker.ensures.stay) c.in_ok-turn_worker.ensures.steps

pub returns-clause-served : goal.returns-clause-served
returns-clause-served g c at worker its worker_is its_is =
    let script = c.requires.running.0 in
    let shown = c.show_worker.new.parties.workers.items in
    let turned = c.turn_worker.new.parties.workers.items in
    let those : List (sessions.PlainProxy g.row.P-ReqTx.Denot g.row.P-RepRx.Denot) = map proxy_of c.show_worker.new.parties.sessions.items in
    let running = c.show_worker.ensures.stay.goes_on.running script c.requires.running.1 in
    let running_now = c.turn_worker.ensures.goes_on.running script running in
    let is = of_mapped (worker_lists (mail g)) turned c.args.place worker worker_is in
    let was = there_too shown turned c.args.place is.0 c.turn_worker.ensures.goes_on.workers_long is.1 in
    let long = (running.workers_are c.args.place was.0 was.1).sessions ∙ sym running.as_many_sessions in
    let same_sessions : map proxy_of c.turn_worker.new.parties.sessions.items ≡ those = ap (λ all. map proxy_of all.items) c.turn_worker.ensures.sessions in
    let long_now = (running_now.workers_are c.args.place is.0 is.1).sessions ∙ sym running.as_many_sessions in
    let proxy = of_mapped (session_lists (mail g)) those at its (ap (λ all. slice_get (map (session_lists (mail g)) all) at) (sym same_sessions) ∙ its_is) in
    let share = subst (λ worker. Share (worker_lists (mail g) worker)) (c.index.ensures ∙ get_or_from_slice_get turned c.args.place is.0 c.index.result.now is.1) c.attest.ensures.share in
    let low = slice_get_within shown c.args.place was.0 was.1 in
    let signed = subst (All AreSigned) (sym c.show_worker.ensures.stay.sessions_told) c.requires.signed in
    subst (λ (both : workers.Lists × sessions.Lists). HasServedAll (at + 1) both.1 (c.args.place + 1) both.0) (λ j. (is.2 j, proxy.2 j))
    (served_all c.requires.free c.args.place those was.0 (λ at proxy here. c.show_worker.ensures.beside at was.0 proxy was.1 here) is.0
    (c.in_ok-turn_worker.ensures.rested was.0 is.0 was.1 is.1) share long long_now
    (λ at proxy here. (
      (may_be_polled script shown those running at proxy here).1,
      at_its_place AreSigned (map (session_lists (mail g)) those) at (session_lists (mail g) proxy) signed (mapped (session_lists (mail g)) those at proxy here),
      (let senders = (are_of_workers script shown those running at (session_lists (mail g) proxy) (mapped (session_lists (mail g)) those at proxy here)).senders in (omega arith, omega (arith, senders, low))),
    )) at proxy.0 proxy.1)
