use Rattle.std.proofs.Common.{◌++◌, ◌+◌, map, sym, ap, ◌∙◌, List}
use Rattle.std.specs.List.{range_with_len}
use Rattle.placement.specs.Ring.{point_of}
use Rattle.placement.specs.declared.ring.Point.{Point}
use Rattle.placement.proofs.RingPoints.{points_of_more}
use Rattle.placement.proofs.ring.points_of_all.Goals as goal

pub loop-worker-preserved : goal.loop-worker-preserved
loop-worker-preserved c =
    let worker = c.loop-worker.worker in
    c.in_ok-push_points.ensures ∙ ap (λ (points : List Point). points ++ map (point_of (worker + 1)) (range_with_len 0 16)) c.loop-worker.invariant ∙ sym (points_of_more worker)
