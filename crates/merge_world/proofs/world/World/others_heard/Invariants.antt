use Rattle.std.proofs.Common.{◌≢◌, ◌+◌, ◌<◌, ℕ}
use Rattle.merge_world.specs.Heard.{IsHeardBy}
use Rattle.merge_world.proofs.world.World.others_heard.Given as goal

abbrev pub invariant-loop-other : goal.invariant-loop-other
invariant-loop-other l = (place : ℕ) → place < l.other → place + 1 ≢ l.worker → IsHeardBy l.self l.key l.own (place + 1)
