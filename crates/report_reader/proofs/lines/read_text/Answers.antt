use Rattle.std.proofs.Common.{sym, ap, subst, ◌∙◌, Err}
use Rattle.std.proofs.lemmas.Result.{err_from_is_err_and}
use Rattle.report_reader.specs.Reads.{IsReading}
use Rattle.report_lines.specs.Text.{report_lines}
use Rattle.report_reader.proofs.FormToldLemmas.{reading_fault, reading_more, reading_all}
use Rattle.report_reader.proofs.lines.read_text.Goals as goal

pub returns-in_err-report : goal.returns-in_err-report
returns-in_err-report c =
    let returned = err_from_is_err_and c.from_residual-in_err-report.result c.from_residual-in_err-report.ensures.1 in
    let fault = c.in_err-report.ensures.fault in
    let told = reading_fault c.args.script.now c.args.placement.now c.requires c.args.bytes.now c.new-lines.result c.in_err-report.field-0.0 c.new-lines.ensures fault in
    subst (IsReading c.args.script.now c.args.placement.now c.args.bytes.now) (sym (returned.1 ∙ ap Err returned.2)) told

pub returns-in_err-end : goal.returns-in_err-end
returns-in_err-end c =
    let returned = err_from_is_err_and c.from_residual-in_err-end.result c.from_residual-in_err-end.ensures.1 in
    let got = c.in_ok-report.ensures.got in
    let told = reading_more c.args.script.now c.args.placement.now c.requires c.args.bytes.now c.new-lines.result c.read_parts.new.lines (report_lines c.args.script.now c.in_ok-report.report) c.in_err-end.field-0.0 c.new-lines.ensures got c.in_err-end.ensures.fault.0 c.in_err-end.ensures.fault.1 in
    subst (IsReading c.args.script.now c.args.placement.now c.args.bytes.now) (sym (returned.1 ∙ ap Err returned.2)) told

pub returns : goal.returns
returns c =
    let form = c.in_ok-report.ensures.form in
    let got = c.in_ok-report.ensures.got in
    reading_all c.args.script.now c.args.placement.now c.requires c.args.bytes.now c.new-lines.result c.read_parts.new.lines c.in_ok-report.report c.new-lines.ensures form got c.in_ok-end.ensures.end
