-- Parts of summaries: what is counted and what is picked, one answer and one cell at a time.
use Rattle.std.specs.Prelude.{ℕ, nat_eq, if◌then◌else◌, List, [], ◌∷◌, ◌++◌, codes, sum_by, Option, Some}
use Rattle.std.specs.Option.{option_eq}
use Rattle.std.specs.Fmt.{decimal}
use Rattle.report_lines.specs.Text.{line_text}
use Rattle.session_known.specs.declared.report.Answer.{Answer}
use Rattle.session_known.specs.declared.report.Answer.TheVariants as answers
use Rattle.session_known.specs.declared.report.FinalCell.{FinalCell}

-- how many puts an answer says that it accepts
abbrev pub puts_told : Answer → ℕ
puts_told (answers.Put number lamport) = 1
puts_told (answers.Committed puts lamport) = puts
puts_told answer = 0

-- those of a session, and those of all
abbrev pub puts_of_session : List Answer → ℕ
puts_of_session answers = sum_by puts_told answers

abbrev pub puts_of_all : List (List Answer) → ℕ
puts_of_all answers = sum_by puts_of_session answers

-- cells whose key differs from that of the last cell that was picked
unfoldable pub first_cells : Option ℕ → List FinalCell → List FinalCell
first_cells last [] = []
first_cells last (cell ∷ cells) = if option_eq nat_eq last (Some cell.key) then first_cells last cells else cell ∷ first_cells (Some cell.key) cells

-- the lines before the cells
abbrev pub head_text : ℕ → ℕ → ℕ → List ℕ
head_text number commands puts =
    line_text (codes "anna" ∷ codes "big" ∷ decimal number ∷ []) ++ (line_text (codes "commands" ∷ decimal commands ∷ []) ++ line_text (codes "puts" ∷ decimal puts ∷ []))
