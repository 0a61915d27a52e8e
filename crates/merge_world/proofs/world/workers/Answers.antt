use Rattle.std.proofs.Common.{rules, ◌≡◌, ◌+◌, ◌∙◌, ap, max, refl, arith}
use Rattle.merge_world.proofs.WorkersLemmas.{workers_more}
use Rattle.merge_world.proofs.world.workers.Goals as goal

pub loop-key-preserved : goal.loop-key-preserved
loop-key-preserved c =
    let is_max : c.max-most.result ≡ max c.loop-key.most c.greatest.result = search rules in
    is_max ∙ ap (max c.loop-key.most) c.greatest.ensures
    ∙ workers_more c.args.placement.now c.loop-key.key (c.loop-key.key + 1) c.loop-key.most c.replicas.result.now (omega (arith, c.loop-key-test.true, c.keys-key-end.ensures.keys)) refl c.replicas.ensures.replicas c.loop-key.invariant
