use Rattle.std.proofs.Common.{◌∙◌, ◌-◌, ap, arith, inl, inr, refl, slice_get, sym}
use Rattle.std.proofs.lemmas.Bool.{cases_eq}
use Rattle.std.proofs.lemmas.Option.{slice_get_within}
use Rattle.party_run.proofs.sweeping.begin_sessions.Goals as goal

pub loop-place-init : goal.loop-place-init
loop-place-init g c = record {
  workers = refl;
  steps = g.met.R.Run.no_steps c.args.run.now;
  begun = λ at begun. refl;
  later = λ at past. refl;
  await_theirs = λ await. await;
  waits = λ running none at below. absurd (omega (arith, below));
}

pub begin_session-requires : goal.begin_session-requires
begin_session-requires g c =
    let long = (g.met.R.Run.as_many _ _ c.loop-place.invariant.steps).1 in
    omega (arith, long, c.loop-place-test.true, c.sessions-place-end.ensures)

-- One more begins, if it may: those before it wait for earlier ones, which stay as they are.
pub loop-place-preserved : goal.loop-place-preserved
loop-place-preserved g c =
    let so_far = c.loop-place.invariant in
    let place = c.loop-place.place in
    let last = c.in_ok-begin_session.ensures in
    let mid = g.R.Run.session_lists c.loop-place.run in
    record {
      workers = c.begin_session.ensures.workers ∙ so_far.workers;
      steps = g.met.R.Run.more_steps _ _ _ so_far.steps last.steps;
      begun = λ at begun. elim (cases_eq at place) [
        | inl here ↦
            let same = so_far.later at (omega (arith, here)) in
            ap (λ those. slice_get those at) (last.begun (λ its there. begun its (sym same ∙ ap (slice_get mid) here ∙ there))) ∙ so_far.begun at begun
        | inr apart ↦ last.others at apart ∙ so_far.begun at begun
      ];
      later = λ at past. last.others at (λ same. omega (arith, same, past)) ∙ so_far.later at (omega (arith, past));
      await_theirs = λ await. last.await_theirs (so_far.await_theirs await);
      waits = λ running none at below. elim (cases_eq at place) [
        | inl here ↦ λ its session there. last.waits its session (ap (slice_get (g.R.Run.session_lists c.begin_session.new.self)) (sym here) ∙ there)
        | inr apart ↦ λ its session there is other other_there.
            let was_running = (g.met.R.Run.goes_on _ _ so_far.steps running none).0 in
            let was_there = sym (last.others at apart) ∙ there in
            let earlier = g.met.R.Run.in_order c.loop-place.run was_running at its session was_there is in
            so_far.waits running none at (omega (arith, below, apart)) its session was_there is other
            (sym (last.others (session - 1) (λ same. omega (arith, same, below, apart, earlier.0, earlier.1))) ∙ other_there)
      ];
    }

pub returns-clause-waits : goal.returns-clause-waits
returns-clause-waits g c running none at its session there =
    let so_far = c.loop-place.invariant in
    let low = slice_get_within (g.R.Run.session_lists c.loop-place.run) at its there in
    let long = (g.met.R.Run.as_many _ _ so_far.steps).1 in
    so_far.waits running none at (omega (arith, low, long, c.loop-place-test.false, c.sessions-place-end.ensures)) its session there
