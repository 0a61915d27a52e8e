use Rattle.std.proofs.Common.{◌≡◌, ◌∙◌, ◌≤◌, ℕ, ap, false, IfOk, List, map, refl, slice_get, slice_set, Some, subst, sym}
use Rattle.std.proofs.lemmas.List.{length-map, length-set, map-set}
use Rattle.std.proofs.lemmas.Option.{same_Some, slice_get-get_or}
use Rattle.mail_contract.proofs.PostsLemmas.{stays_elsewhere}
use Rattle.run_measure.proofs.DoneLemmas.{goes_still}
use Rattle.run_measure.specs.Laws.{IsPlaced}
use Rattle.run_measure.specs.Steps.{HasDone, HasServed}
use Rattle.session_proxy.specs.Share.{Share}
use Rattle.session_proxy.specs.State.{Lists, PlainProxy}
use Rattle.party_turns.proofs.ItemsLemmas.{mapped}
use Rattle.party_turns.specs.Running.{GoesOn}
use Rattle.parties.specs.Session.{proxy_of}
use Rattle.parties.specs.Polling.{HasPolled, HasWaited, IsAllAnswered}
use Rattle.parties.specs.Progress.{HasMovedOn}
use Rattle.parties.proofs.ChangedLemmas.{read_there}
use Rattle.parties.proofs.OneChangedLemmas.{made_at_place, made_goes_on, now_made, on_ok, where_value}
use Rattle.parties.proofs.PlacedLemmas.{may_be_polled}
use Rattle.parties.proofs.PolledLemmas.{polled_still}
use Rattle.parties.proofs.PolledRunLemmas.{polled_goes_on}
use Rattle.run_measure.proofs.ServedLemmas.{served_still}
use Rattle.party_turns.proofs.TogetherLemmas.{all_stepped}
use Rattle.parties.proofs.steps.poll_session.Given.{Over}
use Rattle.parties.proofs.steps.poll_session.Goals as goal
use Rattle.parties.proofs.steps.poll_session.Goals.{After-poll_often}
use Rattle.party_turns.specs.Ends.{Ends, mail_of, session_lists, worker_lists}

module _ (g : Over) where
  -- what the ends tell
  abbrev mail : Ends g.row.P-ReqTx.Denot g.row.P-RepTx.Denot g.row.P-GosTx.Denot g.row.P-ReqRx.Denot g.row.P-GosRx.Denot g.row.P-RepRx.Denot
      g.row.P-ReqTx-Key.Denot g.row.P-RepTx-Key.Denot g.row.P-GosTx-Key.Denot g.row.P-ReqRx-Key.Denot g.row.P-GosRx-Key.Denot g.row.P-RepRx-Key.Denot
  mail = mail_of g.P.ReqTx.Tx g.P.RepTx.Tx g.P.GosTx.Tx g.P.ReqRx.Rx g.P.GosRx.GossipRx g.P.RepRx.Rx

pub poll_often-requires : goal.poll_often-requires
poll_often-requires g c =
    c.requires.begun (proxy_of c.index_mut.result.now) (mapped proxy_of c.args.parties.now.sessions.items c.args.place c.index_mut.result.now
    (read_there c.args.parties.now.sessions.items c.args.place c.index_mut.result.now c.requires.within c.index_mut.ensures.value))

pub returns-clause-others : goal.returns-clause-others
returns-clause-others g c other apart =
    let sessions = c.args.parties.now.sessions.items in
    ap (λ proxies. slice_get proxies other) (map-set proxy_of sessions c.args.place c.poll_often.new.session)
    ∙ stays_elsewhere (map proxy_of sessions) c.args.place other (proxy_of c.poll_often.new.session) apart

pub returns-clause-ended : goal.returns-clause-ended
returns-clause-ended g c =
    on_ok c.poll_often.result (λ polled answered is proxy there.
    subst IsAllAnswered (now_made proxy_of c.args.parties.now.sessions.items c.args.place c.poll_often.new.session c.requires.within proxy there) (answered is)) c.poll_often.ensures.ended

pub returns-clause-moved : goal.returns-clause-moved
returns-clause-moved g c =
    let lists = session_lists (mail g) in
    made_at_place (λ was now. IsPlaced (lists was) → Share (lists was) → IfOk c.poll_often.result (λ polled. HasMovedOn polled (lists was) (lists now))) proxy_of
    c.args.parties.now.sessions.items c.args.place c.index_mut.result.now c.poll_often.new.session c.requires.within c.index_mut.ensures.value c.poll_often.ensures.moved

module _ (g : Over) (c : After-poll_often g) where
  abbrev its : PlainProxy g.row.P-ReqTx.Denot g.row.P-RepRx.Denot → Lists
  its = session_lists (mail g)

  abbrev proxies : List (PlainProxy g.row.P-ReqTx.Denot g.row.P-RepRx.Denot)
  proxies = map proxy_of c.args.parties.now.sessions.items

  abbrev proxies_now : List (PlainProxy g.row.P-ReqTx.Denot g.row.P-RepRx.Denot)
  proxies_now = map proxy_of (slice_set c.args.parties.now.sessions.items c.args.place c.poll_often.new.session)

  -- the session that was polled
  there : slice_get c.args.parties.now.sessions.items c.args.place ≡ Some c.index_mut.result.now
  there = slice_get-get_or c.args.parties.now.sessions.items c.args.place c.index_mut.result.now c.requires.within ∙ ap Some (sym c.index_mut.ensures.value)

  -- each session has gone on, if the one that was polled did
  each : ((at : ℕ) (proxy : PlainProxy g.row.P-ReqTx.Denot g.row.P-RepRx.Denot) → slice_get proxies at ≡ Some proxy → IsPlaced (its proxy) × Share (its proxy))
      → (IsPlaced (its (proxy_of c.index_mut.result.now)) → Share (its (proxy_of c.index_mut.result.now))
      → HasDone (its (proxy_of c.index_mut.result.now)) (its (proxy_of c.poll_often.new.session)))
      → (at : ℕ) (was is : PlainProxy g.row.P-ReqTx.Denot g.row.P-RepRx.Denot) → slice_get proxies at ≡ Some was → slice_get proxies_now at ≡ Some is → HasDone (its was) (its is)
  each may goes at was is there also =
      made_goes_on (λ was now. IsPlaced (its was) → Share (its was) → HasDone (its was) (its now)) (λ proxy placed share. goes_still (its proxy)) proxy_of
      c.args.parties.now.sessions.items c.args.place c.index_mut.result.now c.poll_often.new.session c.requires.within c.index_mut.ensures.value goes at was is there also
      (may at was there).0 (may at was there).1

  goes_on : GoesOn (mail g)
      c.args.parties.now.workers.items c.args.parties.now.workers.items proxies proxies_now
  goes_on =
      let sessions = c.args.parties.now.sessions.items in
      let sessions_now = slice_set sessions c.args.place c.poll_often.new.session in
      polled_goes_on c.args.parties.now.workers.items proxies proxies_now
      (length-map sessions_now proxy_of ∙ length-set sessions c.args.place c.poll_often.new.session ∙ sym (length-map sessions proxy_of))
      (made_goes_on (HasPolled g.P.ReqTx.Tx g.P.RepRx.Rx) polled_still proxy_of sessions
      c.args.place c.index_mut.result.now c.poll_often.new.session c.requires.within c.index_mut.ensures.value c.poll_often.ensures.polled)

pub returns-clause-waited : goal.returns-clause-waited
returns-clause-waited g c was before =
    let polled = there g (goal.at.returns-clause-waited g c).After-poll_often in
    subst (λ was. IfOk c.poll_often.result (λ polled. polled.moved ≡ false → polled.ended ≡ false → 1 ≤ c.args.most
    → HasWaited g.P.ReqTx.Tx g.P.RepRx.Rx was))
    (same_Some (proxy_of c.index_mut.result.now) was (sym (mapped proxy_of c.args.parties.now.sessions.items c.args.place c.index_mut.result.now polled) ∙ before))
    c.poll_often.ensures.waited

pub returns-clause-steps : goal.returns-clause-steps
returns-clause-steps g c =
    let after = (goal.at.returns-clause-steps g c).After-poll_often in
    let sessions = c.args.parties.now.sessions.items in
    let lists = worker_lists (mail g) in
    where_value c.poll_often.result c.poll_often.ensures.moved (λ polled on. record {
      goes_on = goes_on g after;
      gone_on = λ script running.
          let may = may_be_polled script c.args.parties.now.workers.items (map proxy_of sessions) running in
          all_stepped (mail g)
          c.args.parties.now.workers.items c.args.parties.now.workers.items (proxies g after) (proxies_now g after) refl (goes_on g after).sessions_long
          (λ place was there. (running.workers_are place was there).sessions ∙ sym running.as_many_sessions)
          (λ place was is there also kept. subst (λ is. HasServed (lists was) (lists is)) (same_Some was is (sym there ∙ also)) (served_still (lists was) kept))
          (each g after may (λ placed share. (on placed share).goes_on));
    })
