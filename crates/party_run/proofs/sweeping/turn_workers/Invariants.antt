-- The run took steps, its sessions stay as they were, and the workers up to a place have served them.
use Rattle.std.proofs.Common.{◌≡◌, ◌<◌, ℕ}
use Rattle.parties.specs.Sweeping.{HasServedEach}
use Rattle.party_run.proofs.sweeping.turn_workers.Given as goal

abbrev pub invariant-loop-place : goal.invariant-loop-place
invariant-loop-place g l = record {
  same : g.R.Run.session_lists l.run ≡ g.R.Run.session_lists l.fn.run;
  steps : g.R.Run.step_on l.fn.run l.run;
  served : (place : ℕ) → place < l.place → HasServedEach place (g.R.Run.worker_lists l.run) (g.R.Run.session_lists l.run);
}
