use Rattle.std.proofs.Common.{◌∙◌}
use Rattle.placement.proofs.RingPoints.{point_pushed}
use Rattle.placement.proofs.ring.push_points.Goals as goal

pub loop-index-preserved : goal.loop-index-preserved
loop-index-preserved c = c.in_ok-push.ensures.items ∙ point_pushed c.args.worker c.loop-index.index c.args.points.now.items c.loop-index.points.items c.in_ok-hashed_point.field-0 c.loop-index.invariant c.in_ok-hashed_point.ensures
