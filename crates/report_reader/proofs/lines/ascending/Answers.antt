use Rattle.std.proofs.Common.{◌++◌, ◌∷◌, [], ◌+◌, sym, ap, ◌∙◌}
use Rattle.report_reader.proofs.ReadPartLemmas.{replicas_skip, replicas_take}
use Rattle.report_reader.proofs.lines.ascending.Goals as goal

pub loop-i-preserved-then-not-contains : goal.loop-i-preserved-then-not-contains
loop-i-preserved-then-not-contains c =
    c.loop-i.invariant ∙ sym (replicas_skip c.args.replicas.now c.loop-i.i (sym c.contains.ensures.value ∙ c.if-not-contains.true))

pub loop-i-preserved : goal.loop-i-preserved
loop-i-preserved c =
    c.in_ok-push.ensures.items ∙ ap (λ workers. workers ++ (c.loop-i.i + 1) ∷ []) c.loop-i.invariant ∙ sym (replicas_take c.args.replicas.now c.loop-i.i (sym c.contains.ensures.value ∙ c.if-not-contains.false))
