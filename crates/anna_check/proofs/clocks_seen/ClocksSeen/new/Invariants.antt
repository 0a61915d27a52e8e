use Rattle.std.proofs.Common.{◌≡◌, [], replicate}
use Rattle.anna_check.proofs.clocks_seen.ClocksSeen.new.Given as goal

abbrev pub invariant-loop-worker : goal.invariant-loop-worker
invariant-loop-worker l = l.by_worker.items ≡ replicate l._worker []
