-- Cells among the words of a line.
use Rattle.std.proofs.Common.{◌≡◌, ℕ, ◌-◌, ◌≤◌, List, [], take, drop, length, Bor, Option, None, sym, ap, subst, ◌∙◌}
use Rattle.std.specs.List.{take-map}
use Rattle.composed_value.specs.declared.kind.Kind.{Kind}
use Rattle.session_known.specs.Form.{IsValueIn}
use Rattle.composed_value.specs.Keyed.{kind_at}
use Rattle.session_known.specs.declared.report.FinalCell.{FinalCell}
use Rattle.session_known.specs.declared.report.Shown.{Shown}
use Rattle.session_known.specs.declared.script.Level.{Level}
use Rattle.session_known.specs.declared.script.Script.{Script}
use Rattle.report_reader.specs.ReadAnswers.{IsShownCellIn, shown_cell_words}
use Rattle.report_reader.specs.ReadCells.{IsCellIn}
use Rattle.report_reader.specs.ReadLines.{IsFinalAt}
use Rattle.report_reader.specs.Reads.{Reads}
use Rattle.report_lines.specs.Text.{cell_words, final_words}
use Rattle.report_reader.specs.declared.cells.Cell.{Cell}
use Rattle.script_reader.specs.Words.{texts}
use Rattle.report_reader.proofs.ReadCellWords.{texts_two}

-- the words of a cell
abbrev pub words_of_cell : Script → Cell → List (List ℕ)
words_of_cell script cell = cell_words script cell.clock cell.top cell.value []

-- where no cell was read there is none
no_cell : (script : Script) (kind : Kind) (words : List (List ℕ)) (read : Option Cell) → read ≡ None → Reads (IsCellIn script kind) (words_of_cell script) words read → (cell : Cell) → IsCellIn script kind cell → words ≡ words_of_cell script cell → ⊥
no_cell script kind words read none reads = subst (Reads (IsCellIn script kind) (words_of_cell script) words) none reads

-- and so no shown cell begins with one
pub no_shown : (script : Script) (level : Level) (key : ℕ) (words front : List (Bor (List ℕ))) (read : Option Cell) → read ≡ None → front ≡ take 6 words → Reads (IsCellIn script (kind_at script.kinds key)) (words_of_cell script) (texts front) read → (shown : Shown) → IsShownCellIn script level key shown → texts words ≡ shown_cell_words script shown → ⊥
no_shown script level key words front read none is_front reads shown is same =
    let cell : Cell = record { clock = shown.clock; top = shown.top; value = shown.value } in
    no_cell script (kind_at script.kinds key) (texts front) read none reads cell (record { clock_is = is.clock_is; top_fits = is.top_fits; value_is = is.value_is })
    (ap texts is_front ∙ sym (take-map (λ (word : Bor (List ℕ)). word.now) 6 words) ∙ ap (take 6) same)

-- nor does a final cell end with one
pub no_final : (script : Script) (key worker : ℕ) (words : List (Bor (List ℕ))) (d : Bor (List ℕ)) (read : Option Cell) → 2 ≤ length words → read ≡ None → Reads (IsCellIn script (kind_at script.kinds key)) (words_of_cell script) (texts (take (length words - 2) (drop 2 words))) read → (final : FinalCell) → IsFinalAt script key worker final → texts words ≡ final_words script final → ⊥
no_final script key worker words d read some none reads final is same =
    let cell : Cell = record { clock = final.clock; top = final.top; value = final.value } in
    let P : ℕ → Type 0 = λ key. IsValueIn script (kind_at script.kinds key) final.value in
    no_cell script (kind_at script.kinds key) _ read none reads cell (record { clock_is = is.in_form.clock_is; top_fits = is.in_form.top_fits; value_is = subst P is.key_is is.in_form.value_is })
    (ap (drop 2) (sym (texts_two words d some) ∙ same))
