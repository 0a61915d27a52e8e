use Rattle.std.proofs.Common.{◌≡◌, ◌++◌, List, take}
use Rattle.placement.specs.Ring.{workers_met}
use Rattle.placement.specs.declared.ring.Point.{Point}
use Rattle.placement.proofs.ring.meet.Given as goal

-- the workers of the points so far, after any points before
abbrev pub invariant-loop-point : goal.invariant-loop-point
invariant-loop-point l = (before : List Point) → l.initial.workers.items ≡ take l.factor (workers_met before) → l.workers.items ≡ take l.factor (workers_met (before ++ take l.point-index l.points))
