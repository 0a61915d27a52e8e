use Rattle.party_run.proofs.SweptLemmas.{PolledTo}
use Rattle.party_run.proofs.sweeping.poll_sessions.Given as goal

abbrev pub invariant-loop-place : goal.invariant-loop-place
invariant-loop-place g l = PolledTo g.R.Run l.fn.came l.place l.all_ended l.fn.run l.run
