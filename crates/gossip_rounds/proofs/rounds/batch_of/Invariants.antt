use Rattle.std.proofs.Common.{◌≡◌, take}
use Rattle.merge_world.specs.Effects.{tells}
use Rattle.gossip_rounds.proofs.rounds.batch_of.Given as goal

abbrev pub invariant-loop-key : goal.invariant-loop-key
invariant-loop-key l = l.batch ≡ tells (take l.key-index l.keys) l.map
