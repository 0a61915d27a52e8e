use Rattle.std.proofs.Common.{◌≡◌, ◌++◌, map}
use Rattle.std.specs.List.{range_with_len}
use Rattle.placement.specs.Ring.{point_of}
use Rattle.placement.proofs.ring.push_points.Given as goal

-- the worker's points so far stand at the end
abbrev pub invariant-loop-index : goal.invariant-loop-index
invariant-loop-index l = l.points.items ≡ l.initial.points.items ++ map (point_of l.worker) (range_with_len 0 l.index)
