use Rattle.std.proofs.Common.{length, refl, arith}
use Rattle.std.proofs.lemmas.Option.{slice_get_read}
use Rattle.report_lines.specs.Text.{final_words, line_text}
use Rattle.report_text.proofs.WritesLemmas.{Adds-next, All-at}
use Rattle.session_known.specs.Form.{HasFewDots}
use Rattle.report_text.proofs.report.write_finals.Goals as goal

pub write_final_line-requires : goal.write_final_line-requires
write_final_line-requires g c =
    let got = slice_get_read c.args.finals.now (length c.args.finals.now) c.loop-cell.cell-index c.cell-item.result refl (omega arith) c.cell-item.is in
    All-at (λ cell. HasFewDots cell.value) c.args.finals.now c.loop-cell.cell-index c.cell-item.result got c.requires

pub loop-cell-preserved : goal.loop-cell-preserved
loop-cell-preserved g c =
    let got = slice_get_read c.args.finals.now (length c.args.finals.now) c.loop-cell.cell-index c.cell-item.result refl (omega arith) c.cell-item.is in
    Adds-next (λ cell. line_text (final_words c.args.script.now cell)) c.args.finals.now c.loop-cell.cell-index c.cell-item.result got c.loop-cell.invariant c.write_final_line.ensures
