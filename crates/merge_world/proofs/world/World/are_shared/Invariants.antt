use Rattle.std.proofs.Common.{◌≡◌, true, take}
use Rattle.std.specs.List.{list_all}
use Rattle.merge_world.specs.World.{is_shared}
use Rattle.merge_world.proofs.world.World.are_shared.Given as goal

abbrev pub invariant-loop-key : goal.invariant-loop-key
invariant-loop-key l = list_all (is_shared l.self l.worker l.mate) (take l.key-index l.keys) ≡ true
