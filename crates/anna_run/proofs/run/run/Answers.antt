use Rattle.std.proofs.Common.{inl, sym, subst, ◌∙◌}
use Rattle.anna_run.proofs.RunLemmas.{can_sum_up, can_write, is_done, line_ends, lined, owed_as, owed_report, owed_summary, served, served_scrambled, text_ends, worked}
use Rattle.anna_run.specs.Outcomes.{IsReport}
use Rattle.anna_run.specs.Run.{IsEnd}
use Rattle.anna_run.specs.declared.run.OutcomeOver.TheVariants as outcomes
use Rattle.anna_run.proofs.run.run.Goals as goal

pub write_report-requires : goal.write_report-requires
write_report-requires g c =
    let its = c.in-Ok-Report in
    let owed = owed_as _ _ _ _ _ (outcomes.Report its.script its.drained) its.field-0-is its.ensures.owed in
    record { valid = can_write _ _ its.script _ (served _ _ _ _ its.script its.drained owed) }

pub write_report-requires-in-Ok-ScrambledReport : goal.write_report-requires-in-Ok-ScrambledReport
write_report-requires-in-Ok-ScrambledReport g c =
    let its = c.in-Ok-ScrambledReport in
    let owed = owed_as _ _ _ _ _ (outcomes.ScrambledReport its.script its.drained) its.field-0-is its.ensures.owed in
    record { valid = can_write _ _ its.script _ (served_scrambled _ _ _ _ its.script its.drained owed) }

pub write_summary-requires : goal.write_summary-requires
write_summary-requires g c =
    let its = c.in-Ok-Summary in
    let owed = owed_as _ _ _ _ _ (outcomes.Summary its.number its.script its.drained) its.field-0-is its.ensures.owed in
    let is = worked _ _ _ _ its.number its.script its.drained owed in
    record { legal = can_sum_up its.number its.script _ is.1 is.2 }

pub returns-in-Ok-Report-clause-ends : goal.returns-in-Ok-Report-clause-ends
returns-in-Ok-Report-clause-ends g c =
    let its = c.in-Ok-Report in
    let owed = owed_as _ _ _ _ _ (outcomes.Report its.script its.drained) its.field-0-is its.ensures.owed in
    subst (IsEnd _ _ _ _) (sym c.written-status.ensures)
    (text_ends _ _ _ _ _ c.write_report.result (owed_report _ _ its.script _ (served _ _ _ _ its.script its.drained owed)) c.write_report.ensures.cause
    c.write_report.ensures.wrote)

pub returns-in-Ok-ScrambledReport-clause-ends : goal.returns-in-Ok-ScrambledReport-clause-ends
returns-in-Ok-ScrambledReport-clause-ends g c =
    let its = c.in-Ok-ScrambledReport in
    let owed = owed_as _ _ _ _ _ (outcomes.ScrambledReport its.script its.drained) its.field-0-is its.ensures.owed in
    subst (IsEnd _ _ _ _) (sym c.written-status-in-Ok-ScrambledReport.ensures)
    (text_ends _ _ _ _ _ c.write_report-in-Ok-ScrambledReport.result (owed_report _ _ its.script _ (served_scrambled _ _ _ _ its.script its.drained owed)) c.write_report-in-Ok-ScrambledReport.ensures.cause
    c.write_report-in-Ok-ScrambledReport.ensures.wrote)

pub returns-in-Ok-Summary-clause-ends : goal.returns-in-Ok-Summary-clause-ends
returns-in-Ok-Summary-clause-ends g c =
    let its = c.in-Ok-Summary in
    let owed = owed_as _ _ _ _ _ (outcomes.Summary its.number its.script its.drained) its.field-0-is its.ensures.owed in
    subst (IsEnd _ _ _ _) (sym c.written-status-in-Ok-Summary.ensures)
    (text_ends _ _ _ _ _ c.write_summary.result (owed_summary _ _ _ _ its.number its.script its.drained owed) c.write_summary.ensures.cause c.write_summary.ensures.wrote)

pub returns-in-Ok-Summary-clause-works : goal.returns-in-Ok-Summary-clause-works
returns-in-Ok-Summary-clause-works g c = λ number asked sure.
    inl (c.written-status-in-Ok-Summary.ensures ∙ is_done _ _ c.write_summary.result c.write_summary.ensures.cause sure)

pub returns-in-Ok-Line-clause-ends : goal.returns-in-Ok-Line-clause-ends
returns-in-Ok-Line-clause-ends g c =
    let its = c.in-Ok-Line in
    let owed = owed_as _ _ _ _ _ (outcomes.Line its.status its.text) its.field-0-is its.ensures.owed in
    let is = lined _ _ _ _ its.status its.text owed in
    line_ends _ _ _ its.status _ _ _ c.deref.ensures.value is c.finish.ensures.wrote

pub returns-in-Ok-Line-clause-complete : goal.returns-in-Ok-Line-clause-complete
returns-in-Ok-Line-clause-complete g c = λ input script gossip asked tells is faultless.
    let its = c.in-Ok-Line in
    absurd (subst IsReport its.field-0-is (its.ensures.complete input script gossip asked tells is faultless.0))
