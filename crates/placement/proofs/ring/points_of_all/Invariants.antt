use Rattle.std.proofs.Common.{◌≡◌}
use Rattle.placement.specs.Ring.{points_of}
use Rattle.placement.proofs.ring.points_of_all.Given as goal

-- the points of the workers so far
abbrev pub invariant-loop-worker : goal.invariant-loop-worker
invariant-loop-worker l = l.points.items ≡ points_of l.worker
