use Rattle.std.proofs.Common.{List, ℕ, length, refl, sym, ◌∙◌, arith}
use Rattle.std.proofs.lemmas.Option.{slice_get_read}
use Rattle.report_lines.specs.Text.{line_text, short_words}
use Rattle.report_text.proofs.WritesLemmas.{All-at}
use Rattle.session_known.specs.Form.{HasFewDots}
use Rattle.session_known.specs.declared.report.FinalCell.{FinalCell}
use Rattle.big_work.proofs.CellsLemmas.{written_passed, written_picked, written_cut, all_written}
use Rattle.big_work.proofs.WroteLemmas.{wrote_failed}
use Rattle.big_work.proofs.summary.write_cells.Goals as goal

pub write_short-requires : goal.write_short-requires
write_short-requires g c =
    let got = slice_get_read c.args.finals.now (length c.args.finals.now) c.loop-cell.cell-index c.cell-item.result refl (omega arith) c.cell-item.is in
    record { few = All-at (λ (cell : FinalCell). HasFewDots cell.value) c.args.finals.now c.loop-cell.cell-index c.cell-item.result got c.requires.few }

pub loop-cell-preserved-then-eq : goal.loop-cell-preserved-then-eq
loop-cell-preserved-then-eq g c =
    let text : FinalCell → List ℕ = λ cell. line_text (short_words c.args.script.now cell) in record {
      written = written_passed _ _ text c.args.finals.now c.loop-cell.last c.loop-cell.cell-index c.cell-item.result (omega arith) c.cell-item.is
          c.loop-cell.invariant.written (sym c.eq.ensures ∙ c.if-eq.true);
      count = c.loop-cell.invariant.count;
    }

pub returns-in_err-write_short-clause-wrote : goal.returns-in_err-write_short-clause-wrote
returns-in_err-write_short-clause-wrote g c =
    let text : FinalCell → List ℕ = λ cell. line_text (short_words c.args.script.now cell) in
    wrote_failed _ _ _ c.from_residual.result c.from_residual.ensures.0
    (written_cut _ _ text c.args.finals.now c.loop-cell.last c.loop-cell.cell-index c.cell-item.result (omega arith) c.cell-item.is
    c.loop-cell.invariant.written _ (sym c.eq.ensures ∙ c.if-eq.false) c.in_err-write_short.ensures.wrote)

pub loop-cell-preserved : goal.loop-cell-preserved
loop-cell-preserved g c =
    let text : FinalCell → List ℕ = λ cell. line_text (short_words c.args.script.now cell) in record {
      written = written_picked _ _ text c.args.finals.now c.loop-cell.last c.loop-cell.cell-index c.cell-item.result (omega arith) c.cell-item.is
          c.loop-cell.invariant.written _ (sym c.eq.ensures ∙ c.if-eq.false) c.in_ok-write_short.ensures.wrote;
      count = omega (arith, c.loop-cell.invariant.count, c.in_ok-write_short.ensures.cause.0);
    }

pub returns-clause-wrote : goal.returns-clause-wrote
returns-clause-wrote g c =
    let text : FinalCell → List ℕ = λ cell. line_text (short_words c.args.script.now cell) in
    all_written _ _ text c.args.finals.now c.loop-cell.last c.loop-cell.cell-index (omega arith) c.loop-cell.invariant.written
