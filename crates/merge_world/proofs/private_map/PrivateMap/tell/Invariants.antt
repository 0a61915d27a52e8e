use Rattle.std.proofs.Common.{◌≡◌, take}
use Rattle.merge_world.specs.Effects.{tells}
use Rattle.merge_world.proofs.private_map.PrivateMap.tell.Given as goal

abbrev pub invariant-loop-key : goal.invariant-loop-key
invariant-loop-key l = l.entries.items ≡ tells (take l.key-index l.keys) l.self
