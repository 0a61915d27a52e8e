use Rattle.std.proofs.Common.{refl, ap, subst, ◌∙◌, ◌∷◌, []}
use Rattle.report_lines.proofs.NamesLemmas.{tells_names}
use Rattle.report_reader.specs.ReadLines.{Exactly, IsPartFault, answers_dues, session_dues}
use Rattle.report_reader.specs.Cuts.{has_byte}
use Rattle.report_lines.specs.Text.{session_words}
use Rattle.report_reader.proofs.ReadLineLemmas.{fault_first, fault_told, fault_after, got_line}
use Rattle.report_reader.proofs.ReadPartLemmas.{fault_so, wanted_out, session_lacks}
use Rattle.report_reader.proofs.lines.read_session_part.Goals as goal

pub read_exactly-requires-clause-line : goal.read_exactly-requires-clause-line
read_exactly-requires-clause-line c =
    let names = tells_names c.args.script.now c.requires.valid.0 c.requires.valid.1 in
    ap (has_byte 10) (c.deref.ensures.value ∙ c.in_ok-line.ensures.line) ∙ session_lacks c.args.script.now names c.args.plan.now c.in_ok-line.ensures.named

pub returns-in_err-read_exactly-clause-fault : goal.returns-in_err-read_exactly-clause-fault
returns-in_err-read_exactly-clause-fault c =
    let plan = c.args.plan.now in
    let words = session_words c.args.script.now plan in
    let out = wanted_out c.args.script.now words c.deref.result.now c.args.lines.now.0 (c.deref.ensures.value ∙ c.in_ok-line.ensures.line) c.in_err-read_exactly.ensures.fault.1 in
    let fault = fault_first c.args.script.now (Exactly words) (answers_dues plan.level plan.lines) c.args.lines.now c.args.lines.now.1 refl out in
    fault_told c.from_residual-in_err-read_exactly.result (IsPartFault c.args.script.now (session_dues c.args.script.now plan) c.args.lines.now) c.from_residual-in_err-read_exactly.ensures.1 c.in_err-read_exactly.ensures.fault.0 fault

pub returns-clause-fault : goal.returns-clause-fault
returns-clause-fault c =
    let plan = c.args.plan.now in
    let words = session_words c.args.script.now plan in
    let got = got_line c.args.script.now words c.deref.result.now c.args.lines.now c.read_exactly.new.lines (c.deref.ensures.value ∙ c.in_ok-line.ensures.line) c.in_ok-read_exactly.ensures.ok in
    fault_so c.read_answers.result (IsPartFault c.args.script.now (session_dues c.args.script.now plan) c.args.lines.now) _ c.read_answers.ensures.fault
    (λ fault out. fault_after c.args.script.now (Exactly words ∷ []) (answers_dues plan.level plan.lines) (words ∷ []) c.args.lines.now c.read_exactly.new.lines fault got (subst (λ lines. IsPartFault c.args.script.now (answers_dues plan.level lines) c.read_exactly.new.lines fault) c.as_slice.ensures out))
