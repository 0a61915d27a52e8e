use Rattle.std.proofs.Common.{rules, refl}
use Rattle.report_reader.specs.ReadLines.{IsPartFault, answers_dues}
use Rattle.report_reader.proofs.ReadLineLemmas.{answers_next, answers_fault, fault_told}
use Rattle.report_reader.proofs.lines.read_answers.Goals as goal

pub returns-in_err-read_answer_line-clause-fault : goal.returns-in_err-read_answer_line-clause-fault
returns-in_err-read_answer_line-clause-fault c =
    let fault = c.in_err-read_answer_line.field-0.0 in
    let out = answers_fault c.args.script.now c.args.level c.args.commands.now c.args.lines.now c.loop-line.line-index c.loop-line.lines c.loop-line.answers c.line-item.result fault (search rules) (search rules) c.loop-line.invariant c.in_err-read_answer_line.ensures.fault in
    fault_told c.from_residual.result (IsPartFault c.args.script.now (answers_dues c.args.level c.args.commands.now) c.args.lines.now) c.from_residual.ensures.1 refl out

pub loop-line-preserved : goal.loop-line-preserved
loop-line-preserved c =
    answers_next c.args.script.now c.args.level c.args.commands.now c.args.lines.now c.loop-line.line-index c.loop-line.lines c.read_answer_line.new.lines c.loop-line.answers c.push.new.self c.line-item.result c.in_ok-read_answer_line.field-0 (search rules) (search rules) c.loop-line.invariant c.in_ok-read_answer_line.ensures.answer c.in_ok-read_answer_line.ensures.got c.in_ok-push.ensures
