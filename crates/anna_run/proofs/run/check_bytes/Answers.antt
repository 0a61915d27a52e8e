use Rattle.std.proofs.Common.{rules, ◌≡◌, ◌≤◌, ℕ, List, take, drop, length, Ok, Err, inr, sym, subst, ◌∙◌}
use Rattle.std.proofs.lemmas.Result.{IfOk-weaker}
use Rattle.placement.specs.Config.{placed}
use Rattle.script_reader.specs.Grammar.{IsScript}
use Rattle.script_reader.specs.Split.{split_place}
use Rattle.session_known.specs.Form.{HasForm}
use Rattle.session_known.specs.declared.report.Report.{Report}
use Rattle.session_known.specs.declared.script.Script.{Script}
use Rattle.report_reader.specs.Reads.{IsReading}
use Rattle.report_lines.specs.Text.{text_of}
use Rattle.report_reader.specs.declared.ReportFault.{ReportFault}
use Rattle.report_reader.specs.declared.ReportFault.TheVariants.{Form}
use Rattle.anna_run.specs.Outcomes.{TellsOf}
use Rattle.anna_run.specs.Run.{most_checked, AreChecked}
use Rattle.anna_run.proofs.CheckLemmas.{verdict_owed, verdict_told}
use Rattle.anna_run.proofs.run.check_bytes.Goals as goal

pub returns-in-Err-Form-clause-owed : goal.returns-in-Err-Form-clause-owed
returns-in-Err-Form-clause-owed c =
    let bytes = c.args.bytes.now in
    let read = c.in-Ok.script in
    let table = placed read.config in
    let front : c.split_at.result.0.now ≡ take (split_place bytes) bytes = search rules in
    let after : c.split_at.result.1.now ≡ drop (split_place bytes) bytes = search rules in
    let is_script : IsScript (take (split_place bytes) bytes) read = subst (λ text. IsScript text read) front c.in-Ok.ensures.script in
    let reading : IsReading read table (drop (split_place bytes) bytes) (Err (Form c.in-Err-Form.line)) =
    subst (λ (at : List ℕ × ReportFault). IsReading read table at.0 (Err at.1)) (λ i. (after i, c.in-Err-Form.field-0-is i)) (c.in-Err-Form.ensures.reading table c.in-Ok.ensures.valid) in
    inr (inr (record {
      short = search rules;
      script = read;
      is_script = is_script;
      line = c.in-Err-Form.line;
      no_report = reading.0;
      first = reading.1;
      is_text = c.in_ok-report_refusal-in-Err-Form.ensures;
    }))

pub returns-in-Err-Form-clause-complete : goal.returns-in-Err-Form-clause-complete
returns-in-Err-Form-clause-complete c script report checked =
    let bytes = c.args.bytes.now in
    let read = c.in-Ok.script in
    let table = placed read.config in
    let front : c.split_at.result.0.now ≡ take (split_place bytes) bytes = search rules in
    let after : c.split_at.result.1.now ≡ drop (split_place bytes) bytes = search rules in
    let is_script : IsScript (take (split_place bytes) bytes) read = subst (λ text. IsScript text read) front c.in-Ok.ensures.script in
    let reading : IsReading read table (drop (split_place bytes) bytes) (Err (Form c.in-Err-Form.line)) =
    subst (λ (at : List ℕ × ReportFault). IsReading read table at.0 (Err at.1)) (λ i. (after i, c.in-Err-Form.field-0-is i)) (c.in-Err-Form.ensures.reading table c.in-Ok.ensures.valid) in
    let same : read ≡ script = c.in-Ok.ensures.accepts script (subst (λ text. IsScript text script) (sym front) checked.is_script) in
    reading.0 report (subst (λ (script : Script). HasForm script (placed script.config) report) (sym same) checked.in_form) (subst (λ script. drop (split_place bytes) bytes ≡ text_of script report) (sym same) checked.is_report)

pub judged-requires-clause-form : goal.judged-requires-clause-form
judged-requires-clause-form c =
    let bytes = c.args.bytes.now in
    let read = c.in-Ok.script in
    let table = placed read.config in
    let front : c.split_at.result.0.now ≡ take (split_place bytes) bytes = search rules in
    let after : c.split_at.result.1.now ≡ drop (split_place bytes) bytes = search rules in
    let is_script : IsScript (take (split_place bytes) bytes) read = subst (λ text. IsScript text read) front c.in-Ok.ensures.script in
    let answered = c.in-Ok-read_report.report in
    let reading : IsReading read table (drop (split_place bytes) bytes) (Ok answered) = subst (λ text. IsReading read table text (Ok answered)) after (c.in-Ok-read_report.ensures.reading table c.in-Ok.ensures.valid) in
    reading.0

pub returns-clause-owed : goal.returns-clause-owed
returns-clause-owed c =
    let bytes = c.args.bytes.now in
    let read = c.in-Ok.script in
    let table = placed read.config in
    let front : c.split_at.result.0.now ≡ take (split_place bytes) bytes = search rules in
    let after : c.split_at.result.1.now ≡ drop (split_place bytes) bytes = search rules in
    let is_script : IsScript (take (split_place bytes) bytes) read = subst (λ text. IsScript text read) front c.in-Ok.ensures.script in
    let answered = c.in-Ok-read_report.report in
    let reading : IsReading read table (drop (split_place bytes) bytes) (Ok answered) = subst (λ text. IsReading read table text (Ok answered)) after (c.in-Ok-read_report.ensures.reading table c.in-Ok.ensures.valid) in
    let short : length bytes ≤ most_checked = search rules in
    let checked : AreChecked bytes read answered = record { short = short; is_script = is_script; in_form = reading.0; is_report = reading.1 } in
    IfOk-weaker c.judged.result _ _ (λ outcome tells. verdict_owed bytes read answered outcome checked tells) c.judged.ensures

pub returns-clause-complete : goal.returns-clause-complete
returns-clause-complete c script report checked =
    let bytes = c.args.bytes.now in
    let read = c.in-Ok.script in
    let table = placed read.config in
    let front : c.split_at.result.0.now ≡ take (split_place bytes) bytes = search rules in
    let after : c.split_at.result.1.now ≡ drop (split_place bytes) bytes = search rules in
    let is_script : IsScript (take (split_place bytes) bytes) read = subst (λ text. IsScript text read) front c.in-Ok.ensures.script in
    let answered = c.in-Ok-read_report.report in
    let reading : IsReading read table (drop (split_place bytes) bytes) (Ok answered) = subst (λ text. IsReading read table text (Ok answered)) after (c.in-Ok-read_report.ensures.reading table c.in-Ok.ensures.valid) in
    let same : read ≡ script = c.in-Ok.ensures.accepts script (subst (λ text. IsScript text script) (sym front) checked.is_script) in
    let same_report : answered ≡ report = c.in-Ok-read_report.ensures.accepts table report c.in-Ok.ensures.valid (subst (λ (script : Script). HasForm script (placed script.config) report) (sym same) checked.in_form)
    (after ∙ subst (λ script. drop (split_place bytes) bytes ≡ text_of script report) (sym same) checked.is_report) in
    IfOk-weaker c.judged.result _ _ (λ outcome tells. subst (λ (at : Script × Report). TellsOf at.0 at.1 outcome) (λ i. (same i, same_report i)) (verdict_told read answered outcome tells)) c.judged.ensures
