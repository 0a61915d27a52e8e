-- The run took steps, and each session up to a place has begun, or waits for one that has not ended; those that had begun, and those from the place on, stay
-- as they were.
use Rattle.std.proofs.Common.{◌≡◌, ◌<◌, ◌≤◌, ℕ, slice_get}
use Rattle.parties.specs.Sweeping.{AllAwait, EachStays, HasBegun, WaitsForOther}
use Rattle.party_run.proofs.sweeping.begin_sessions.Given as goal

abbrev pub invariant-loop-place : goal.invariant-loop-place
invariant-loop-place g l = record {
  workers : g.R.Run.worker_lists l.run ≡ g.R.Run.worker_lists l.fn.run;
  steps : g.R.Run.step_on l.fn.run l.run;
  begun : EachStays (HasBegun (g.R.Run.session_lists l.fn.run)) (g.R.Run.session_lists l.fn.run) (g.R.Run.session_lists l.run);
  later : (at : ℕ) → l.place ≤ at → slice_get (g.R.Run.session_lists l.run) at ≡ slice_get (g.R.Run.session_lists l.fn.run) at;
  await_theirs : AllAwait (g.R.Run.session_lists l.fn.run) → AllAwait (g.R.Run.session_lists l.run);
  waits : g.R.Run.is_running l.fn.run → g.R.Run.none_kept l.fn.run → (at : ℕ) → at < l.place → WaitsForOther (g.R.Run.session_lists l.run) at;
}
