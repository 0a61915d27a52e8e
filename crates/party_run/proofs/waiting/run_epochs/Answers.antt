use Rattle.party_turns.proofs.StepsLemmas.{steps_still, steps_through}
use Rattle.party_run.proofs.waiting.run_epochs.Goals as goal

pub loop-init : goal.loop-init
loop-init g c = record { steps = steps_still _ _; epochs = (tt, tt) }

pub loop-preserved : goal.loop-preserved
loop-preserved g c = record {
  steps =
      steps_through _ _ _ _ _ _ (steps_through _ _ _ _ _ _ (steps_through _ _ _ _ _ _ c.loop.invariant.steps c.in_ok-run_epoch.ensures.steps) c.in_ok-poll_sessions.ensures.steps)
      c.in_ok-begin_sessions.ensures.steps;
  epochs = (tt, tt);
}

pub returns-then-branch-clause-ended : goal.returns-then-branch-clause-ended
returns-then-branch-clause-ended g c = c.in_ok-poll_sessions.ensures.ended c.if-branch.true

pub returns-then-branch-clause-steps : goal.returns-then-branch-clause-steps
returns-then-branch-clause-steps g c =
    steps_through _ _ _ _ _ _ (steps_through _ _ _ _ _ _ c.loop.invariant.steps c.in_ok-run_epoch.ensures.steps) c.in_ok-poll_sessions.ensures.steps
