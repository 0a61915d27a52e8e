use Rattle.std.proofs.Common.{◌+◌, ◌<◌, ℕ}
use Rattle.merge_world.specs.Heard.{IsWorkerHeard}
use Rattle.merge_world.proofs.world.World.settled.Given as goal

abbrev pub invariant-loop-worker : goal.invariant-loop-worker
invariant-loop-worker l = (place : ℕ) → place < l.worker → IsWorkerHeard l.self (place + 1)
