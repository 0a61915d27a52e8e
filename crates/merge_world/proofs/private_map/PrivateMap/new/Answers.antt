use Rattle.std.proofs.Common.{◌+◌, ◌∙◌, ◌++◌, ◌∷◌, [], refl, sym, arith}
use Rattle.composed_value.specs.declared.kind.Kind.TheVariants.{Max}
use Rattle.merge_world.proofs.AtLemmas.{opening_all, opening_more}
use Rattle.merge_world.proofs.private_map.PrivateMap.new.Goals as goal

pub loop-i-init : goal.loop-i-init
loop-i-init c = c.new-cells.ensures.items

pub loop-i-preserved : goal.loop-i-preserved
loop-i-preserved c =
    c.in_ok-push.ensures.items ∙ (λ j. c.loop-i.invariant j ++ c.opened.ensures j ∷ [])
    ∙ sym (opening_more c.args.placement.now c.args.kinds.now c.args.worker c.loop-i.i (c.loop-i.i + 1) c.replicas.result.now c.kind_of_place-kind.result Max c.requires (omega (arith, c.loop-i-test.true, c.keys-i-end.ensures.keys)) refl c.replicas.ensures.replicas c.kind_of_place-kind.ensures)

pub returns : goal.returns
returns c = c.loop-i.invariant ∙ opening_all c.args.placement.now c.args.kinds.now c.args.worker c.loop-i.i c.requires (omega (arith, c.loop-i-test.false, c.keys-i-end.ensures.keys))
