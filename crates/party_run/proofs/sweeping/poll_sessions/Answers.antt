use Rattle.std.proofs.Common.{◌∙◌, ◌+◌, arith, false, subst, sym}
use Rattle.std.proofs.lemmas.Bool.{and_cases, and_parts}
use Rattle.std.proofs.lemmas.Option.{slice_get_within}
use Rattle.party_turns.proofs.TogetherLemmas.{done_no_less}
use Rattle.party_run.proofs.SweptLemmas.{PolledTo, all_polled, none_polled, one_more, one_passed, one_polled, passed_still, served_still}
use Rattle.party_run.proofs.sweeping.poll_sessions.Goals as goal
use Rattle.party_run.proofs.sweeping.poll_sessions.Goals.{else-is_polled, then-is_polled+in_ok-its}

pub loop-place-init : goal.loop-place-init
loop-place-init g c = none_polled g.R.Run c.args.came.now c.args.run.now (g.met.R.Run.no_steps c.args.run.now)

pub returns-clause-ended : goal.returns-clause-ended
returns-clause-ended g c all at its there =
    let so_far = c.loop-place.invariant in
    let low = slice_get_within (g.R.Run.session_lists c.loop-place.run) at its there in
    let long = (g.met.R.Run.as_many _ _ so_far.steps).1 in
    so_far.ended all at (omega (arith, low, long, c.loop-place-test.false, c.sessions-place-end.ensures)) its there

pub returns-clause-swept : goal.returns-clause-swept
returns-clause-swept g c served =
    let so_far = c.loop-place.invariant in
    let long = (g.met.R.Run.as_many _ _ so_far.steps).1 in
    all_polled c.args.came.now c.loop-place.place c.loop-place.all_ended (g.R.Run.session_lists c.args.run.now) (g.R.Run.session_lists c.loop-place.run)
    (omega (arith, long, c.loop-place-test.false, c.sessions-place-end.ensures)) (so_far.swept served)

pub poll_session-requires-clause-begun : goal.poll_session-requires-clause-begun
poll_session-requires-clause-begun g c = (c.is_polled.ensures.polled c.if-is_polled.true).1

-- One more is passed over, or polled.
pub loop-place-preserved : goal.loop-place-preserved
loop-place-preserved g c =
    let run = g.R.Run in
    let came = c.args.came.now in
    let place = c.loop-place.place in
    let before = c.args.run.now in
    let mid = c.loop-place.run in
    let now = c.if-is_polled.run in
    let so_far = c.loop-place.invariant in
    let within = (g.met.R.Run.as_many _ _ so_far.steps).1 in
    elim c.if-is_polled.branch [
      | else-is_polled w ↦
          subst (λ all. PolledTo run came (place + 1) all before now) (sym w.all_ended-is)
          (subst (PolledTo run came (place + 1) false before) (sym w.run-is)
          (one_passed run came place c.loop-place.all_ended before mid
          (passed_still came (run.session_lists before) (run.session_lists mid) place (so_far.later place (omega arith)) (c.is_polled.ensures.passed w.if-is_polled.false)) so_far))
      | then-is_polled+in_ok-its w ↦
          let its = w.in_ok-its.its in
          subst (PolledTo run came (place + 1) c.if-is_polled.all_ended before) (sym w.run-is)
          (one_more run came place c.loop-place.all_ended c.if-is_polled.all_ended before mid w.poll_session.new.self its
          (c.is_polled.ensures.polled w.if-is_polled.true).0 w.poll_session.ensures.workers w.poll_session.ensures.others w.poll_session.ensures.beside
          (g.met.R.Run.more_steps _ _ _ so_far.steps w.in_ok-its.ensures.steps) w.in_ok-its.ensures.ended
          (λ all. and_parts _ _ (sym w.all_ended-is ∙ all))
          (λ so_far served.
          let ready = served.ready in
          let on = g.met.R.Run.goes_on _ _ so_far.steps ready.running ready.none_kept in
          let next = g.met.R.Run.goes_on _ _ w.in_ok-its.ensures.steps on.0 on.1 in
          one_polled came place c.loop-place.all_ended c.if-is_polled.all_ended (run.session_lists before) (run.session_lists mid) (run.session_lists w.poll_session.new.self) its
          ready.await_theirs served.to_asks (so_far.later place (omega arith)) (omega (arith, within, c.loop-place-test.true, c.sessions-place-end.ensures)) next.2.sessions_long
          w.poll_session.ensures.others (done_no_less _ _ on.2.sessions_long on.2.done_more) next.2.done_more (w.in_ok-its.ensures.moved on.0) w.in_ok-its.ensures.ended
          (w.in_ok-its.ensures.served on.0 on.1 (omega arith) ready.free (λ worker. so_far.beside worker place (omega arith) (served.beside worker place))
          (served_still (run.worker_lists before) (run.worker_lists mid) (run.session_lists before) (run.session_lists mid) place so_far.workers (so_far.later place (omega arith))
          ready.await_theirs served.served))
          (λ not_all. and_cases _ _ (sym w.all_ended-is ∙ not_all)) (so_far.swept served)) so_far)
    ]
