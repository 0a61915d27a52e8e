use Rattle.std.proofs.Common.{ap, ◌∙◌, ◌++◌, get_or}
use Rattle.std.proofs.lemmas.List.{take_all, get_or_default}
use Rattle.report_reader.specs.ReadLines.{places_at}
use Rattle.report_reader.proofs.ReadPartLemmas.{mapped_more}
use Rattle.report_reader.proofs.lines.push_places.Goals as goal

pub loop-worker-preserved : goal.loop-worker-preserved
loop-worker-preserved c =
    mapped_more (λ worker. (c.args.key, worker)) c.args.places.now.items c.loop-worker.places.items c.push.new.self.items c.args.workers.now c.loop-worker.worker-index (get_or c.args.workers.now c.loop-worker.worker-index 0) c.loop-worker-test.true (get_or_default c.args.workers.now c.loop-worker.worker-index 0 _ c.loop-worker-test.true) c.loop-worker.invariant c.in_ok-push.ensures.items

pub returns : goal.returns
returns c = c.loop-worker.invariant ∙ ap (λ workers. c.args.places.now.items ++ places_at c.args.key workers) (take_all c.loop-worker.worker-index c.args.workers.now c.loop-worker-test.false)
