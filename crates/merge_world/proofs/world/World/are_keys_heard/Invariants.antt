use Rattle.std.proofs.Common.{◌+◌, ◌<◌, ℕ}
use Rattle.merge_world.specs.Heard.{IsKeyHeard}
use Rattle.merge_world.proofs.world.World.are_keys_heard.Given as goal

abbrev pub invariant-loop-key : goal.invariant-loop-key
invariant-loop-key l = (place : ℕ) → place < l.key → IsKeyHeard l.self l.worker (place + 1)
