-- What reading tells where a line is out of form, and where there is more than a report.
use Rattle.std.specs.Prelude.{◌≡◌, ◌≢◌, ℕ, zero, suc, ◌-◌, ◌≤◌, List, [], ◌∷◌, ◌++◌, take, length, Result, Ok, Err}
use Rattle.std.specs.List.{AllZip, flat_map}
use Rattle.std.proofs.Common.{refl, sym, ap, subst, ◌∙◌, arith}
use Rattle.std.proofs.lemmas.List.{append-nil}
use Rattle.std.proofs.lemmas.Slice.Zip.{AllZip-long}
use Rattle.std.proofs.Math.Seq.{take-length}
use Rattle.session_known.specs.Form.{HasForm}
use Rattle.session_known.specs.Script.{IsValidScript}
use Rattle.session_known.specs.declared.report.Report.{Report}
use Rattle.session_known.specs.declared.script.Script.{Script}
use Rattle.report_lines.proofs.NamesLemmas.{tells_names}
use Rattle.report_reader.specs.ReadLines.{IsDue, AreLinesRead, IsOutAt, HasGot, IsPartFault, report_dues}
use Rattle.report_reader.specs.Reads.{BeginsWith, IsFirstOutOfForm, IsNoReport, IsReading, IsReadAs}
use Rattle.report_lines.specs.Text.{report_lines, line_text, text_of}
use Rattle.report_lines.proofs.TextLemmas.{one_report}
use Rattle.report_reader.specs.declared.ReportFault.{ReportFault}
use Rattle.report_reader.specs.declared.ReportFault.TheVariants.{Form, NoMemory}
use Rattle.report_reader.proofs.DueLemmas.{rest_told, out_excludes, out_whole, read_before, lines_read}
use Rattle.report_reader.proofs.FormDueLemmas.{dues_have, report_due, report_of, begun}
use Rattle.report_reader.proofs.ReadLineLemmas.{got_read}

-- the first lines, place by place
zip_take : {A B : Type 0} (R : A → B → Type 0) (count : ℕ) (xs : List A) (ys : List B) → AllZip R xs ys → AllZip R (take count xs) (take count ys)
zip_take R zero xs ys all = tt
zip_take R (suc count) [] [] all = tt
zip_take R (suc count) [] (y ∷ ys) all = absurd all
zip_take R (suc count) (x ∷ xs) [] all = absurd all
zip_take R (suc count) (x ∷ xs) (y ∷ ys) all = (all.0, zip_take R count xs ys all.1)

module _ (script : Script) (table : List (List ℕ)) (valid : IsValidScript script table) where
  -- what a report in form begins with is due
  begins_due : (report : Report) (count : ℕ) (bytes : List ℕ) → HasForm script table report → (begins : BeginsWith script report count bytes) → AreLinesRead script (take count (report_dues script table)) bytes begins.later
  begins_due report count bytes form begins =
      subst (λ bytes. AreLinesRead script (take count (report_dues script table)) bytes begins.later) (sym begins.begin)
      (lines_read script (take count (report_dues script table)) (take count (report_lines script report)) begins.later (zip_take (IsDue script) count (report_dues script table) (report_lines script report) (report_due script table report form)))

  -- what a report in form is written as is due
  text_due : (report : Report) (bytes : List ℕ) → HasForm script table report → bytes ≡ text_of script report → AreLinesRead script (report_dues script table) bytes []
  text_due report bytes form same =
      subst (λ bytes. AreLinesRead script (report_dues script table) bytes []) (append-nil (text_of script report) ∙ sym same)
      (lines_read script (report_dues script table) (report_lines script report) [] (report_due script table report form))

  -- the first lines that were read are those of a report in form
  begins_so : (place : ℕ) (bytes rest : List ℕ) → place ≤ length (report_dues script table) → AreLinesRead script (take place (report_dues script table)) bytes rest → (report : Report) × HasForm script table report × BeginsWith script report (suc place - 1) bytes
  begins_so place bytes rest few are =
      let same : place ≡ suc place - 1 = omega arith in
      let lines = begun script (report_dues script table) place bytes rest valid.config.workers_some few are in
      let report = report_of script table lines.0 lines.1 in (
        report.0,
        report.1,
        subst (λ count. BeginsWith script report.0 count bytes) same (record {
          some = subst (λ lines. place ≤ length lines) report.2 lines.2;
          later = rest;
          begin = subst (λ lines. bytes ≡ flat_map line_text (take place lines) ++ rest) report.2 lines.3;
        }),
      )

  -- where a line is out of form, no report in form begins with it
  out_later : (place : ℕ) (bytes : List ℕ) → IsOutAt script (report_dues script table) place bytes → (report : Report) → HasForm script table report → BeginsWith script report (suc place) bytes → ⊥
  out_later place bytes out report form begins =
      let names = tells_names script table valid in
      out_excludes script names (report_dues script table) place bytes begins.later (dues_have script table names) out (begins_due report (suc place) bytes form begins)

  -- nor is any written as the bytes
  out_none : (place : ℕ) (bytes : List ℕ) → IsOutAt script (report_dues script table) place bytes → IsNoReport script table bytes
  out_none place bytes out report form same =
      let names = tells_names script table valid in
      out_whole script names (report_dues script table) place bytes [] (dues_have script table names) out (text_due report bytes form same)

  -- Where a line is out of form, there is no report, and the line is the first.
  pub out_told : (place : ℕ) (bytes : List ℕ) → IsOutAt script (report_dues script table) place bytes → IsNoReport script table bytes × IsFirstOutOfForm script table bytes (suc place)
  out_told place bytes out =
      let before = read_before script (report_dues script table) place bytes out in
      (out_none place bytes out, record { counted = omega arith; before = begins_so place bytes before.0 (omega (arith, before.1)) before.2; out = out_later place bytes out })

  -- where all was read and more is after it, no report in form begins with a line more
  more_later : (bytes rest : List ℕ) (report : Report) → HasForm script table report → BeginsWith script report (suc (length (report_dues script table))) bytes → ⊥
  more_later bytes rest report form begins =
      let same = AllZip-long (IsDue script) (report_dues script table) (report_lines script report) (report_due script table report form) in
      omega (arith, same, begins.some)

  -- nor is any written as the bytes
  more_none : (bytes rest : List ℕ) → AreLinesRead script (report_dues script table) bytes rest → rest ≢ [] → IsNoReport script table bytes
  more_none bytes rest are more report form same =
      let names = tells_names script table valid in
      more (rest_told script names (report_dues script table) bytes rest [] (dues_have script table names) are (text_due report bytes form same))

  -- Where all was read and more is after it, there is no report, and the line after the last is the first out of form.
  pub more_told : (bytes rest : List ℕ) → AreLinesRead script (report_dues script table) bytes rest → rest ≢ [] → IsNoReport script table bytes × IsFirstOutOfForm script table bytes (suc (length (report_dues script table)))
  more_told bytes rest are more =
      let all = report_dues script table in
      let whole = subst (λ dues. AreLinesRead script dues bytes rest) (sym (take-length all)) are in
      (more_none bytes rest are more, record { counted = omega arith; before = begins_so (length all) bytes rest (omega arith) whole; out = more_later bytes rest })

  -- ---- what reading gives

  -- where a line is out of form
  fault_told : (bytes : List ℕ) (fault : ReportFault) → IsPartFault script (report_dues script table) (bytes, 1) fault → IsReading script table bytes (Err fault)
  fault_told bytes (Form line) (place, line_is, out) =
      let number : suc place ≡ line = omega (arith, line_is) in
      subst (λ line. IsReading script table bytes (Err (Form line))) number (out_told place bytes out)
  fault_told bytes NoMemory is = tt

  -- where a part could not be read
  pub reading_fault : (bytes : List ℕ) (before : List ℕ × ℕ) (fault : ReportFault) → before ≡ (bytes, 1) → IsPartFault script (report_dues script table) before fault → IsReading script table bytes (Err fault)
  reading_fault bytes before fault first is = fault_told bytes fault (subst (λ before. IsPartFault script (report_dues script table) before fault) first is)

  -- where more is after the last line
  pub reading_more : (bytes : List ℕ) (before after : List ℕ × ℕ) (lines : List (List (List ℕ))) (fault : ReportFault) → before ≡ (bytes, 1) → HasGot script (report_dues script table) lines before after → fault ≡ Form after.1 → after.0 ≢ [] → IsReading script table bytes (Err fault)
  reading_more bytes before after lines fault first got is more =
      let got_all : HasGot script (report_dues script table) lines (bytes, 1) after = subst (λ before. HasGot script (report_dues script table) lines before after) first got in
      let line : suc (length (report_dues script table)) ≡ after.1 = omega (arith, got_all.number) in
      subst (λ fault. IsReading script table bytes (Err fault)) (sym is)
      (subst (λ line. IsReading script table bytes (Err (Form line))) line (more_told bytes after.0 (got_read script (report_dues script table) lines (bytes, 1) after got_all) more))

  -- where all was read
  pub reading_all : (bytes : List ℕ) (before after : List ℕ × ℕ) (report : Report) → before ≡ (bytes, 1) → HasForm script table report → HasGot script (report_dues script table) (report_lines script report) before after → after.0 ≡ [] → IsReading script table bytes (Ok report)
  reading_all bytes before after report first form got end =
      (form, ap (λ (before : List ℕ × ℕ). before.0) (sym first) ∙ got.begin ∙ ap (λ rest. text_of script report ++ rest) end ∙ append-nil (text_of script report))

  -- What was written is read as the report that was written.
  pub reading_accepts : (bytes : List ℕ) (report : Report) (result : Result Report ReportFault) → HasForm script table report → bytes ≡ text_of script report → IsReading script table bytes result → IsReadAs report result
  reading_accepts bytes report (Ok read) form same is = one_report script table read report valid is.0 form (sym is.1 ∙ same)
  reading_accepts bytes report (Err (Form line)) form same is = absurd (is.0 report form same)
  reading_accepts bytes report (Err NoMemory) form same is = refl
