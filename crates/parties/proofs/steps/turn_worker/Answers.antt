use Rattle.std.proofs.Common.{◌≡◌, ◌∙◌, map, None, refl, slice_set, subst, sym}
use Rattle.std.proofs.lemmas.List.{length-set}
use Rattle.std.proofs.lemmas.Option.{same_Some}
use Rattle.mail_contract.proofs.PostsLemmas.{stays_elsewhere}
use Rattle.party_turns.proofs.PlacesLemmas.{at_place}
use Rattle.party_turns.specs.Running.{GoesOn}
use Rattle.parties.specs.Session.{proxy_of}
use Rattle.run_measure.proofs.DoneLemmas.{goes_still}
use Rattle.run_measure.proofs.ServedLemmas.{served_still}
use Rattle.run_measure.specs.Steps.{HasDone, HasServed}
use Rattle.parties.proofs.ChangedLemmas.{done_to_one}
use Rattle.party_turns.proofs.TogetherLemmas.{all_stepped}
use Rattle.parties.specs.Turning.{HasRested, HasTurned}
use Rattle.parties.proofs.TurnedLemmas.{turned_still}
use Rattle.parties.proofs.TurnedRunLemmas.{turned_goes_on}
use Rattle.parties.proofs.steps.turn_worker.Given.{Over}
use Rattle.parties.proofs.steps.turn_worker.Goals as goal
use Rattle.parties.proofs.steps.turn_worker.Goals.{After-turn_out}
use Rattle.party_turns.specs.Ends.{Ends, mail_of, session_lists, worker_lists}

module _ (g : Over) where
  -- what the ends tell
  abbrev mail : Ends g.row.P-ReqTx.Denot g.row.P-RepTx.Denot g.row.P-GosTx.Denot g.row.P-ReqRx.Denot g.row.P-GosRx.Denot g.row.P-RepRx.Denot
      g.row.P-ReqTx-Key.Denot g.row.P-RepTx-Key.Denot g.row.P-GosTx-Key.Denot g.row.P-ReqRx-Key.Denot g.row.P-GosRx-Key.Denot g.row.P-RepRx-Key.Denot
  mail = mail_of g.P.ReqTx.Tx g.P.RepTx.Tx g.P.GosTx.Tx g.P.ReqRx.Rx g.P.GosRx.GossipRx g.P.RepRx.Rx

-- the run goes on
module _ (g : Over) (c : After-turn_out g) where
  goes_on : GoesOn (mail g)
      c.args.parties.now.workers.items (slice_set c.args.parties.now.workers.items c.args.place c.turn_out.new.worker)
      (map proxy_of c.args.parties.now.sessions.items) (map proxy_of c.args.parties.now.sessions.items)
  goes_on =
      let workers = c.args.parties.now.workers.items in
      turned_goes_on workers (slice_set workers c.args.place c.turn_out.new.worker) (map proxy_of c.args.parties.now.sessions.items)
      (length-set workers c.args.place c.turn_out.new.worker)
      (done_to_one
      (λ at. HasTurned g.P.ReqRx.Rx g.P.RepTx.Tx g.P.GosTx.Tx g.P.GosRx.GossipRx) (λ at. turned_still) workers c.args.place c.index_mut.result.now c.turn_out.new.worker
      c.requires.within c.index_mut.ensures.value
      (record { gone_on = c.turn_out.ensures.gone_on; gossip_stands = c.turn_out.ensures.gossip_stand }))

pub returns-in_err-turn_out-clause-goes_on : goal.returns-in_err-turn_out-clause-goes_on
returns-in_err-turn_out-clause-goes_on g c = goes_on g (goal.at.returns-in_err-turn_out-clause-goes_on g c).After-turn_out

pub returns-clause-others : goal.returns-clause-others
returns-clause-others g c other apart = stays_elsewhere c.args.parties.now.workers.items c.args.place other c.turn_out.new.worker apart

pub returns-clause-goes_on : goal.returns-clause-goes_on
returns-clause-goes_on g c = goes_on g (goal.at.returns-clause-goes_on g c).After-turn_out

pub returns-clause-steps : goal.returns-clause-steps
returns-clause-steps g c =
    let workers = c.args.parties.now.workers.items in
    let proxies = map proxy_of c.args.parties.now.sessions.items in
    let lists = worker_lists (mail g) in
    let its = session_lists (mail g) in
    record {
      goes_on = goes_on g (goal.at.returns-clause-steps g c).After-turn_out;
      gone_on = λ script running.
          all_stepped (mail g)
          workers (slice_set workers c.args.place c.turn_out.new.worker) proxies proxies (length-set workers c.args.place c.turn_out.new.worker) refl
          (λ place was there. (running.workers_are place was there).sessions ∙ sym running.as_many_sessions)
          (done_to_one (λ at was is. was.state.kept ≡ None → HasServed (lists was) (lists is)) (λ at worker. served_still (lists worker))
          workers c.args.place c.index_mut.result.now c.turn_out.new.worker c.requires.within c.index_mut.ensures.value c.in_ok-turn_out.ensures.served)
          (λ at was is there also. subst (λ is. HasDone (its was) (its is)) (same_Some was is (sym there ∙ also)) (goes_still (its was)));
    }

pub returns-clause-rested : goal.returns-clause-rested
returns-clause-rested g c =
    at_place (HasRested (mail g)) c.args.parties.now.workers.items c.args.place
    c.index_mut.result.now c.turn_out.new.worker c.requires.within c.index_mut.ensures.value (record {
      none_kept = c.in_ok-turn_out.ensures.none_kept;
      replied_more = c.turn_out.ensures.gone_on.replied_more;
      stands = c.turn_out.ensures.gone_on.stand;
      fronts = c.turn_out.ensures.gone_on.fronts;
      no_request = c.in_ok-turn_out.ensures.no_request;
      wants_place = c.in_ok-turn_out.ensures.wants_place;
    })
