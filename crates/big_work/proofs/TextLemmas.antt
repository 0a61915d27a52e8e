-- The text of a summary, in the pieces in which it is written.
use Rattle.std.specs.Prelude.{◌≡◌, ℕ, ◌≤◌, List, [], ◌∷◌, ◌++◌, codes, length, map, sum_by, None}
use Rattle.std.specs.Fmt.{decimal}
use Rattle.std.specs.List.{flat_map, range_with_len}
use Rattle.std.proofs.Common.{refl, sym, ap, subst, ◌∙◌, append_assoc, arith}
use Rattle.report_lines.specs.Text.{line_text, short_words}
use Rattle.session_known.proofs.AcceptedLemmas.{all_accept}
use Rattle.session_known.specs.Accepted.{accepted, ends_of}
use Rattle.session_known.specs.Form.{replicas_ascending}
use Rattle.session_known.specs.Legal.{IsLegalAt}
use Rattle.session_known.specs.declared.report.Answer.{Answer}
use Rattle.session_known.specs.declared.report.FinalCell.{FinalCell}
use Rattle.session_known.specs.declared.report.Report.{Report}
use Rattle.session_known.specs.declared.script.Script.{Script}
use Rattle.session_known.specs.declared.script.SessionPlan.{SessionPlan}
use Rattle.big_work.specs.Big.{least_cell, summary_text}
use Rattle.big_work.specs.Parts.{first_cells, head_text, puts_of_all}
use Rattle.big_work.proofs.LeastLemmas.{firsts_are_least}
use Rattle.big_work.proofs.PutsLemmas.{all_told}

-- how many commands the sessions have
abbrev pub commands_of : Script → ℕ
commands_of script = sum_by (λ (plan : SessionPlan). length plan.lines) script.sessions

-- the short line of a cell
abbrev pub short_line : Script → FinalCell → List ℕ
short_line script cell = line_text (short_words script cell)

-- the short lines of cells and the last line
cells_text : (script : Script) (cells : List FinalCell) → flat_map line_text (map (short_words script) cells ++ (codes "end" ∷ []) ∷ [])
    ≡ flat_map (short_line script) cells ++ codes "end\n"
cells_text script [] = refl
cells_text script (cell ∷ cells) =
    ap (λ rest. short_line script cell ++ rest) (cells_text script cells) ∙ sym (append_assoc (short_line script cell) (flat_map (short_line script) cells) (codes "end\n"))

-- the lines before the cells, and then the rest
head_first : (number commands puts : ℕ) (rest : List ℕ) → head_text number commands puts ++ rest
    ≡ line_text (codes "anna" ∷ codes "big" ∷ decimal number ∷ []) ++ (line_text (codes "commands" ∷ decimal commands ∷ []) ++ (line_text (codes "puts" ∷ decimal puts ∷ []) ++ rest))
head_first number commands puts rest =
    let first = line_text (codes "anna" ∷ codes "big" ∷ decimal number ∷ []) in
    let second = line_text (codes "commands" ∷ decimal commands ∷ []) in
    let third = line_text (codes "puts" ∷ decimal puts ∷ []) in
    append_assoc first (second ++ third) rest ∙ ap (λ later. first ++ later) (append_assoc second third rest)

module _ (script : Script) (report : Report) (table : List (List ℕ)) (legal : IsLegalAt table script report) (answers : List (List Answer))
    (answers_are : answers ≡ report.answers) where
  -- no more puts are accepted than there are commands
  pub few_puts : puts_of_all answers ≤ commands_of script
  few_puts =
      subst (λ answers. puts_of_all answers ≤ commands_of script) (sym answers_are)
      (omega (arith, all_told table (ends_of script report) 1 script.sessions report.answers legal.answers, all_accept (ends_of script report) 1 script.sessions report.answers))

  -- What is written is the summary.
  pub summary_is : (number commands puts : ℕ) (finals : List FinalCell) → commands ≡ commands_of script → puts ≡ puts_of_all answers → finals ≡ report.finals
      → head_text number commands puts ++ (flat_map (short_line script) (first_cells None finals) ++ codes "end\n") ≡ summary_text number script report
  summary_is number commands puts finals commands_are puts_are finals_are =
      let cells = flat_map (least_cell report.finals) (range_with_len 1 (length script.config.keys)) in
      let firsts : first_cells None finals ≡ cells =
      ap (first_cells None) finals_are ∙ firsts_are_least (replicas_ascending script table) 1 (length script.config.keys) report.finals None tt legal.form.places in
      let puts_told : puts ≡ length (accepted script report) = puts_are ∙ ap puts_of_all answers_are ∙ sym (all_told table (ends_of script report) 1 script.sessions report.answers legal.answers) in
      let rest = flat_map line_text (map (short_words script) cells ++ (codes "end" ∷ []) ∷ []) in
      (λ j. head_text number (commands_are j) (puts_told j) ++ (flat_map (short_line script) (firsts j) ++ codes "end\n"))
      ∙ ap (λ later. head_text number (commands_of script) (length (accepted script report)) ++ later) (sym (cells_text script cells))
      ∙ head_first number (commands_of script) (length (accepted script report)) rest
