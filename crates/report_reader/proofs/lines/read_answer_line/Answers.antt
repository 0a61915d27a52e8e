use Rattle.std.proofs.Common.{ap, ◌∙◌, []}
use Rattle.session_known.specs.Form.{Fits}
use Rattle.std.specs.List.{join_with_byte}
use Rattle.report_lines.proofs.NamesLemmas.{tells_names}
use Rattle.report_reader.specs.ReadLines.{Answered}
use Rattle.report_lines.specs.Text.{answer_words}
use Rattle.report_reader.proofs.ReadLineLemmas.{fault_first, out_here}
use Rattle.report_reader.proofs.ReadRows.{none_reads}
use Rattle.report_reader.proofs.lines.read_answer_line.Goals as goal

pub returns-in_default-clause-fault : goal.returns-in_default-clause-fault
returns-in_default-clause-fault c =
    let script = c.args.script.now in
    let names = tells_names script c.requires.valid.0 c.requires.valid.1 in
    let due = Answered c.args.level c.args.line.now in
    let none = none_reads (Fits script c.args.level c.args.line.now) (λ answer. join_with_byte 32 (answer_words script c.args.line.now answer)) c.in_ok-text.text.now c.in_ok-answer.field-0 c.in_ok-answer.ensures c.in_default.is in
    fault_first script due [] c.args.lines.now c.lines.inside.next (ap (λ (lines : _ × _). lines.1) c.lines.view_is)
    (out_here script names due c.args.lines.now.0 c.in_ok-text.text.now c.take.new.self.0 tt c.in_ok-text.ensures.line c.in_ok-text.ensures.within (λ words due text. none due.0 due.1 (text ∙ ap (join_with_byte 32) due.2)))
