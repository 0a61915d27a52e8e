use Rattle.std.proofs.Common.{length, refl, arith}
use Rattle.std.proofs.lemmas.Option.{slice_get_read}
use Rattle.outside.proofs.GatheringLemmas.{Adds-as, Adds-none}
use Rattle.report_lines.proofs.RenderingLemmas.{spaced-nil}
use Rattle.report_text.proofs.WritesLemmas.{Adds-words}
use Rattle.report_text.proofs.KeysLemmas.{workers_more}
use Rattle.report_text.proofs.keys.write_workers.Goals as goal

pub loop-cell-init : goal.loop-cell-init
loop-cell-init g c = Adds-as spaced-nil Adds-none

pub loop-cell-preserved : goal.loop-cell-preserved
loop-cell-preserved g c =
    let got = slice_get_read c.args.cells.now (length c.args.cells.now) c.loop-cell.cell-index c.cell-item.result refl (omega arith) c.cell-item.is in
    Adds-as (workers_more c.args.cells.now c.loop-cell.cell-index c.cell-item.result got) (Adds-words _ _ c.loop-cell.invariant c.write_spaced_number.ensures)
