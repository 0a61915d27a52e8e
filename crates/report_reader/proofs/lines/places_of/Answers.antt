use Rattle.std.proofs.Common.{◌+◌, ◌++◌, ap, ◌∙◌}
use Rattle.report_reader.specs.ReadLines.{places_at}
use Rattle.report_reader.proofs.ReadPartLemmas.{places_next}
use Rattle.report_reader.proofs.lines.places_of.Goals as goal

pub loop-i-preserved : goal.loop-i-preserved
loop-i-preserved c =
    places_next c.args.script.now c.args.placement.now c.loop-i.i c.loop-i.places.items c.push_places.new.places.items c.replicas.result.now c.loop-i.invariant c.replicas.ensures.replicas
    (c.in_ok-push_places.ensures ∙ ap (λ workers. c.loop-i.places.items ++ places_at (c.loop-i.i + 1) workers) (c.deref.ensures.value ∙ c.in_ok-workers.ensures))
