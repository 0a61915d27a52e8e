use Rattle.std.proofs.Common.{refl, ap, ◌∙◌, [], ◌∷◌}
use Rattle.std.specs.List.{join_with_byte}
use Rattle.report_lines.proofs.NamesLemmas.{tells_names}
use Rattle.report_reader.specs.ReadLines.{FinalOf, IsFinalAt, IsPartFault}
use Rattle.report_lines.specs.Text.{final_words}
use Rattle.report_reader.proofs.ReadLineLemmas.{fault_first, fault_told, out_at_end, out_here}
use Rattle.report_reader.proofs.ReadRows.{none_reads}
use Rattle.report_reader.proofs.lines.read_final_line.Goals as goal

pub returns-in_err-text-clause-fault : goal.returns-in_err-text-clause-fault
returns-in_err-text-clause-fault c =
    let script = c.args.script.now in
    let names = tells_names script c.requires.valid.0 c.requires.valid.1 in
    let due = FinalOf c.args.key c.args.worker in
    fault_told c.from_residual.result (IsPartFault script (due ∷ []) c.args.lines.now) c.from_residual.ensures.1 c.in_err-text.ensures.fault
    (fault_first script due [] c.args.lines.now c.args.lines.now.1 refl (out_at_end script names due c.args.lines.now.0 c.in_err-text.ensures.none))

pub returns-in_default-clause-fault : goal.returns-in_default-clause-fault
returns-in_default-clause-fault c =
    let script = c.args.script.now in
    let names = tells_names script c.requires.valid.0 c.requires.valid.1 in
    let due = FinalOf c.args.key c.args.worker in
    let none = none_reads (IsFinalAt script c.args.key c.args.worker) (λ cell. join_with_byte 32 (final_words script cell)) c.in_ok-text.text.now c.in_ok-cell.field-0 c.in_ok-cell.ensures c.in_default.is in
    fault_first script due [] c.args.lines.now c.lines.inside.next (ap (λ (lines : _ × _). lines.1) c.lines.view_is)
    (out_here script names due c.args.lines.now.0 c.in_ok-text.text.now c.take.new.self.0 tt c.in_ok-text.ensures.line c.in_ok-text.ensures.within (λ words due text. none due.0 due.1 (text ∙ ap (join_with_byte 32) due.2)))
