use Rattle.std.specs.List.{AllWithin}
use Rattle.merge_world.specs.World.{IsHeard}
use Rattle.merge_world.proofs.world.was_heard.Given as goal

abbrev pub invariant-loop-message : goal.invariant-loop-message
invariant-loop-message l = AllWithin (λ message. IsHeard l.worker l.key l.own message → ⊥) l.pool 0 l.message-index
