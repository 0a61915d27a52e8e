use Rattle.std.proofs.Common.{◌≡◌, ◌∙◌, All, ap, slice_get, subst, sym}
use Rattle.std.proofs.lemmas.List.Elements.{All-weaker}
use Rattle.parties.specs.Waiting.{AreSigned, AreToAsks}
use Rattle.parties.specs.Sweeping.{AllAwait, AllServed, HasBegun}
use Rattle.party_turns.proofs.ItemsLemmas.{there_too}
use Rattle.run_measure.proofs.DoneLemmas.{begun_still}
use Rattle.party_run.proofs.BegunLemmas.{all_swept}
use Rattle.party_run.specs.Ready.{HasPolledAll, HasSwept, IsReady}
use Rattle.party_run.proofs.sweeping.sweep.Given.{Over}
use Rattle.party_run.proofs.sweeping.sweep.Goals as goal
use Rattle.party_run.proofs.sweeping.sweep.Goals.{After-show_all-2, In_ok-begin_sessions, In_ok-turn_workers, In_ok-turn_workers-2}

module _ (g : Over) where
  -- all workers have taken turns once,
  turned : (c : In_ok-turn_workers g) → g.R.Run.step_on c.args.run.now c.turn_workers.new.run
  turned c = g.met.R.Run.more_steps _ _ _ c.show_all.ensures.steps c.in_ok-turn_workers.ensures.steps

  -- and twice,
  twice : (c : In_ok-turn_workers-2 g) → g.R.Run.step_on c.args.run.now c.turn_workers-2.new.run
  twice c = g.met.R.Run.more_steps _ _ _ (g.met.R.Run.more_steps _ _ _ c.show_all.ensures.steps c.in_ok-turn_workers.ensures.steps) c.in_ok-turn_workers-2.ensures.steps

  module _ (c : After-show_all-2 g) where
    -- and all parties are held beside each other again: the sessions are as they were,
    stay : g.R.Run.session_lists c.show_all-2.new.self ≡ g.R.Run.session_lists c.args.run.now
    stay = c.show_all-2.ensures.sessions ∙ c.turn_workers-2.ensures.sessions ∙ c.turn_workers.ensures.sessions ∙ c.show_all.ensures.sessions

    shown : g.R.Run.step_on c.args.run.now c.show_all-2.new.self
    shown =
        g.met.R.Run.more_steps _ _ _
        (g.met.R.Run.more_steps _ _ _ (g.met.R.Run.more_steps _ _ _ c.show_all.ensures.steps c.in_ok-turn_workers.ensures.steps) c.in_ok-turn_workers-2.ensures.steps)
        c.show_all-2.ensures.steps

    -- and the run is one whose sessions are to be polled
    ready : IsReady g.R.Run c.show_all-2.new.self
    ready =
        let on = g.met.R.Run.goes_on _ _ shown c.requires.ready.running c.requires.ready.none_kept in
        record {
          free = c.requires.ready.free;
          finite = c.requires.ready.finite;
          running = on.0;
          none_kept = on.1;
          await_theirs = subst AllAwait (sym stay) c.requires.ready.await_theirs;
        }

    served : AllServed (g.R.Run.worker_lists c.show_all-2.new.self) (g.R.Run.session_lists c.show_all-2.new.self)
    served place at worker its there here =
        c.in_ok-turn_workers-2.ensures.served place at worker its (ap (λ all. slice_get all place) (sym c.show_all-2.ensures.workers) ∙ there)
        (ap (λ all. slice_get all at) (sym c.show_all-2.ensures.sessions) ∙ here)

  -- so has each session that could begin,
  begun : (c : In_ok-begin_sessions g) → g.R.Run.step_on c.args.run.now c.begin_sessions.new.run
  begun c =
      g.met.R.Run.more_steps _ _ _
      (g.met.R.Run.more_steps _ _ _
      (g.met.R.Run.more_steps _ _ _
      (g.met.R.Run.more_steps _ _ _ (g.met.R.Run.more_steps _ _ _ c.show_all.ensures.steps c.in_ok-turn_workers.ensures.steps) c.in_ok-turn_workers-2.ensures.steps)
      c.show_all-2.ensures.steps) c.in_ok-ended.ensures.steps) c.in_ok-begin_sessions.ensures.steps

  -- and those that had begun before the polls are in the parties that they were polled in
  polled_before : (c : In_ok-begin_sessions g) → g.R.Run.step_on c.args.run.now c.poll_sessions.new.run
  polled_before c =
      g.met.R.Run.more_steps _ _ _
      (g.met.R.Run.more_steps _ _ _
      (g.met.R.Run.more_steps _ _ _ (g.met.R.Run.more_steps _ _ _ c.show_all.ensures.steps c.in_ok-turn_workers.ensures.steps) c.in_ok-turn_workers-2.ensures.steps)
      c.show_all-2.ensures.steps) c.in_ok-ended.ensures.steps

pub turn_workers-requires-clause-running : goal.turn_workers-requires-clause-running
turn_workers-requires-clause-running g c = (g.met.R.Run.goes_on _ _ c.show_all.ensures.steps c.requires.ready.running c.requires.ready.none_kept).0

pub turn_workers-requires-clause-none_kept : goal.turn_workers-requires-clause-none_kept
turn_workers-requires-clause-none_kept g c = (g.met.R.Run.goes_on _ _ c.show_all.ensures.steps c.requires.ready.running c.requires.ready.none_kept).1

pub turn_workers-requires-clause-signed : goal.turn_workers-requires-clause-signed
turn_workers-requires-clause-signed g c = All-weaker (λ its. AreToAsks its × AreSigned its) AreSigned (λ its both. both.1) _ c.show_all.ensures.to_asks

pub turn_workers-requires-2-clause-running : goal.turn_workers-requires-2-clause-running
turn_workers-requires-2-clause-running g c =
    (g.met.R.Run.goes_on _ _ (turned g (goal.at.turn_workers-requires-2-clause-running g c).In_ok-turn_workers) c.requires.ready.running c.requires.ready.none_kept).0

pub turn_workers-requires-2-clause-none_kept : goal.turn_workers-requires-2-clause-none_kept
turn_workers-requires-2-clause-none_kept g c =
    (g.met.R.Run.goes_on _ _ (turned g (goal.at.turn_workers-requires-2-clause-none_kept g c).In_ok-turn_workers) c.requires.ready.running c.requires.ready.none_kept).1

pub turn_workers-requires-2-clause-signed : goal.turn_workers-requires-2-clause-signed
turn_workers-requires-2-clause-signed g c =
    subst (All AreSigned) (sym c.turn_workers.ensures.sessions) (All-weaker (λ its. AreToAsks its × AreSigned its) AreSigned (λ its both. both.1) _ c.show_all.ensures.to_asks)

pub show_all-requires-2-clause-running : goal.show_all-requires-2-clause-running
show_all-requires-2-clause-running g c =
    (g.met.R.Run.goes_on _ _ (twice g (goal.at.show_all-requires-2-clause-running g c).In_ok-turn_workers-2) c.requires.ready.running c.requires.ready.none_kept).0

pub show_all-requires-2-clause-none_kept : goal.show_all-requires-2-clause-none_kept
show_all-requires-2-clause-none_kept g c =
    (g.met.R.Run.goes_on _ _ (twice g (goal.at.show_all-requires-2-clause-none_kept g c).In_ok-turn_workers-2) c.requires.ready.running c.requires.ready.none_kept).1

pub show_all-requires-3-clause-running : goal.show_all-requires-3-clause-running
show_all-requires-3-clause-running g c =
    (g.met.R.Run.goes_on _ _ (begun g (goal.at.show_all-requires-3-clause-running g c).In_ok-begin_sessions) c.requires.ready.running c.requires.ready.none_kept).0

pub show_all-requires-3-clause-none_kept : goal.show_all-requires-3-clause-none_kept
show_all-requires-3-clause-none_kept g c =
    (g.met.R.Run.goes_on _ _ (begun g (goal.at.show_all-requires-3-clause-none_kept g c).In_ok-begin_sessions) c.requires.ready.running c.requires.ready.none_kept).1

pub returns-clause-steps : goal.returns-clause-steps
returns-clause-steps g c = g.met.R.Run.more_steps _ _ _ (begun g (goal.at.returns-clause-steps g c).In_ok-begin_sessions) c.show_all-3.ensures.steps

-- Where every session has ended each had begun, so none begins after it.
pub returns-clause-ended : goal.returns-clause-ended
returns-clause-ended g c ended at its there =
    let all = c.in_ok-ended.ensures.ended ended in
    let is = c.show_all-3.ensures.sessions in
    let stays = c.in_ok-begin_sessions.ensures.begun at (λ its there. (all at its there).0) in
    all at its (sym stays ∙ ap (λ those. slice_get those at) (sym is) ∙ there)

pub returns-clause-rested : goal.returns-clause-rested
returns-clause-rested g c at rests =
    let here = goal.at.returns-clause-rested g c in
    let same = stay g here.After-show_all-2 in
    let on = (g.met.R.Run.goes_on _ _ (polled_before g here.In_ok-begin_sessions) c.requires.ready.running c.requires.ready.none_kept).2 in
    let begun_then : HasBegun (g.R.Run.session_lists c.poll_sessions.new.run) at = λ its there.
    let was = there_too (g.R.Run.session_lists c.args.run.now) (g.R.Run.session_lists c.poll_sessions.new.run) at its on.sessions_long there in
    begun_still was.0 its (on.done_more at was.0 its was.1 there) (rests.1 was.0 was.1) in
    ap (λ those. slice_get those at) c.show_all-3.ensures.sessions ∙ c.in_ok-begin_sessions.ensures.begun at begun_then
    ∙ c.in_ok-ended.ensures.rested at (rests.0, subst (λ those. HasBegun those at) (sym same) rests.1) ∙ ap (λ those. slice_get those at) same

pub returns-clause-swept : goal.returns-clause-swept
returns-clause-swept g c =
    let here = goal.at.returns-clause-swept g c in
    let came = c.args.came.now in
    let polled = c.in_ok-ended.ensures.swept (record {
      ready = ready g here.After-show_all-2;
      beside = c.show_all-2.ensures.beside;
      served = served g here.After-show_all-2;
      to_asks = c.show_all-2.ensures.to_asks;
    }) in
    let before = g.R.Run.session_lists c.args.run.now in
    let mid = g.R.Run.session_lists c.poll_sessions.new.run in
    let now = g.R.Run.session_lists c.begin_sessions.new.run in
    let then_on = g.met.R.Run.goes_on _ _ (polled_before g here.In_ok-begin_sessions) c.requires.ready.running c.requires.ready.none_kept in
    let last_on = g.met.R.Run.goes_on _ _ (begun g here.In_ok-begin_sessions) c.requires.ready.running c.requires.ready.none_kept in
    let from_then = g.met.R.Run.goes_on _ _ c.in_ok-begin_sessions.ensures.steps then_on.0 then_on.1 in
    let polled_all = subst (λ those. HasPolledAll came c.in_ok-ended.ended those mid) (stay g here.After-show_all-2) polled in
    subst (HasSwept came c.in_ok-ended.ended before) (sym c.show_all-3.ensures.sessions)
    (all_swept came c.in_ok-ended.ended before mid now polled_all last_on.2.sessions_long then_on.2.sessions_long last_on.2.done_more from_then.2.done_more
    (c.in_ok-begin_sessions.ensures.await_theirs polled.await_theirs) (c.in_ok-begin_sessions.ensures.waits then_on.0 then_on.1)
    (g.met.R.Run.in_order c.begin_sessions.new.run last_on.0) c.in_ok-begin_sessions.ensures.begun)
