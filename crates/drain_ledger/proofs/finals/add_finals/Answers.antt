use Rattle.std.proofs.Common.{◌∙◌, map}
use Rattle.drain_ledger.proofs.FinalsLemmas.{finals_more}
use Rattle.drain_ledger.proofs.finals.add_finals.Goals as goal

pub loop-place-preserved : goal.loop-place-preserved
loop-place-preserved g c =
    c.in_ok-add_final.ensures
    ∙ finals_more c.args.finals.now.items c.loop-place.finals.items c.args.key (map (λ worker. worker.cells) c.args.workers.now) c.loop-place.place c.loop-place.invariant
