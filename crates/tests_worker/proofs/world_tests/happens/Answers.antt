use Rattle.std.proofs.Common.{◌≤◌, ◌+◌, length, subst, sym}
use Rattle.merge_world.specs.World.{PlainWorld}
use Rattle.merge_world.proofs.StepsLemmas.{stepped_few}
use Rattle.tests_worker.proofs.world_tests.happens.Goals as goal

pub returns : goal.returns
returns c = subst (λ (w : PlainWorld). length w.pool ≤ length c.args.world.now.pool + 1) (sym c.in_ok-step.ensures.world) (stepped_few c.args.world.now c.args.event)
