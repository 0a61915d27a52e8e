use Rattle.std.proofs.Common.{◌+◌, ◌≤◌, length}
use Rattle.tests_worker.proofs.world_tests.a_message_tells_of_one_to_sixteen_ascending_keys.Given as goal

-- there are few messages
abbrev pub invariant-loop-worker : goal.invariant-loop-worker
invariant-loop-worker g l = length l.world.pool ≤ l.worker-index + 1
