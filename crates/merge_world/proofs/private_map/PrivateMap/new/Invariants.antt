use Rattle.std.proofs.Common.{◌≡◌, take}
use Rattle.merge_world.specs.Effects.{opening_map}
use Rattle.merge_world.proofs.private_map.PrivateMap.new.Given as goal

abbrev pub invariant-loop-i : goal.invariant-loop-i
invariant-loop-i l = l.cells.items ≡ take l.i (opening_map l.placement l.kinds l.worker)
