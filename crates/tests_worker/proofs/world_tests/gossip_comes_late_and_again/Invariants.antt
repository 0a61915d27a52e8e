use Rattle.std.proofs.Common.{◌≤◌, length}
use Rattle.tests_worker.proofs.world_tests.gossip_comes_late_and_again.Given as goal

-- there are few messages
abbrev pub invariant-loop-what : goal.invariant-loop-what
invariant-loop-what g l = length l.world.pool ≤ l.what-index
