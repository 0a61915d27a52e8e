use Rattle.std.proofs.Common.{◌∙◌, ◌+◌, ◌++◌, map, sym}
use Rattle.drain_ledger.specs.Finals.{finals_of_key}
use Rattle.drain_ledger.proofs.FinalsLemmas.{pieces_more}
use Rattle.drain_ledger.proofs.finals.final_cells.Goals as goal

pub loop-i-preserved : goal.loop-i-preserved
loop-i-preserved g c =
    let maps = map (λ worker. worker.cells) c.args.workers.now in
    c.in_ok-add_finals.ensures
    ∙ (λ j. c.loop-i.invariant j ++ finals_of_key (c.loop-i.i + 1) maps)
    ∙ sym (pieces_more (λ key. finals_of_key key maps) c.loop-i.i)
