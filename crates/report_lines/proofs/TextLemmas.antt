-- No two reports of a script's form have one text.
use Rattle.std.specs.Prelude.{◌≡◌, ℕ, List, [], ◌∷◌, ◌++◌, map, drop, codes}
use Rattle.std.proofs.Common.{sym, ap, ◌∙◌}
use mathlib.Core.List.{append_cancel_left}
use Rattle.std.proofs.lemmas.List.{append_cancel_right}
use Rattle.std.proofs.lemmas.List.Elements.{recursion_from_All}
use Rattle.session_known.specs.Form.{HasForm, IsFinalIn}
use Rattle.session_known.specs.Script.{IsValidScript}
use Rattle.session_known.specs.declared.report.Report.{Report}
use Rattle.session_known.specs.declared.script.Script.{Script}
use Rattle.report_lines.proofs.LinesLemmas.{lines_are}
use Rattle.report_lines.proofs.NamesLemmas.{tells_names}
use Rattle.report_lines.proofs.RenderingLemmas.{lines_tell}
use Rattle.report_lines.proofs.ReportsLemmas.{sessions_told, finals_told}
use Rattle.report_lines.specs.Text.{head_lines, final_words, report_lines, text_of}

-- the lines after those of the sessions
abbrev last_lines : Script → Report → List (List (List ℕ))
last_lines script report = (codes "final" ∷ []) ∷ (map (final_words script) report.finals ++ (codes "end" ∷ []) ∷ [])

-- A text is that of one report at most.
pub one_report : (script : Script) (table : List (List ℕ)) (a b : Report) → IsValidScript script table → HasForm script table a → HasForm script table b → text_of script a ≡ text_of script b → a ≡ b
one_report script table a b valid form_a form_b same =
    let names = tells_names script table valid in
    let lines = lines_tell (report_lines script a) (report_lines script b) (lines_are script names table a form_a) (lines_are script names table b form_b) same in
    let sessions = sessions_told script names script.sessions a.answers b.answers (last_lines script a) (last_lines script b) form_a.answers form_b.answers (append_cancel_left (head_lines script) _ _ lines) in
    let cells = append_cancel_right (map (final_words script) a.finals) (map (final_words script) b.finals) ((codes "end" ∷ []) ∷ []) (ap (drop 1) sessions.1) in
    let finals = finals_told script names a.finals b.finals (form_a.places ∙ sym form_b.places) (recursion_from_All (IsFinalIn script) a.finals form_a.finals) (recursion_from_All (IsFinalIn script) b.finals form_b.finals) cells in
    λ i. record { answers = sessions.0 i; finals = finals i }
