use Rattle.std.proofs.Common.{◌≡◌, map}
use Rattle.std.specs.List.{range_with_len}
use Rattle.merge_world.specs.Effects.{opening_map}
use Rattle.merge_world.proofs.world.World.new.Given as goal

abbrev pub invariant-loop-worker : goal.invariant-loop-worker
invariant-loop-worker l = l.maps.items ≡ map (opening_map l.fn.placement l.fn.kinds) (range_with_len 1 l.worker)
