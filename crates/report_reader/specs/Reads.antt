-- What reading gives: the one thing whose text was given, and where there is none, the first line that is not in form.
use Rattle.std.specs.Prelude.{◌≡◌, ℕ, ◌-◌, ◌≤◌, List, ◌++◌, take, length, Option, Some, None, Result, Ok, Err, ⊤}
use Rattle.std.specs.List.{flat_map}
use Rattle.session_known.specs.Form.{HasForm}
use Rattle.session_known.specs.declared.report.Report.{Report}
use Rattle.session_known.specs.declared.script.Script.{Script}
use Rattle.report_lines.specs.Text.{report_lines, bare_line, line_text, text_of}
use Rattle.report_reader.specs.declared.ReportFault.{ReportFault}
use Rattle.report_reader.specs.declared.ReportFault.TheVariants.{Form, NoMemory}

-- The thing in form that is written as the text, or nothing where there is none.
abbrev pub Reads : {X T : Type 0} → (X → Type 0) → (X → T) → T → Option X → Type 0
Reads InForm written text (Some thing) = InForm thing × (text ≡ written thing)
Reads InForm written text None = (x : _) → InForm x → text ≡ written x → ⊥

-- The thing in form that is written as the words of a line, given without its line feed.
abbrev pub ReadsLine : {X : Type 0} → (X → Type 0) → (X → List (List ℕ)) → List ℕ → Option X → Type 0
ReadsLine InForm words_of text result = Reads InForm (λ thing. bare_line (words_of thing)) text result

-- the bytes begin with the first lines, so many, of the report's text
pub record BeginsWith (script : Script) (report : Report) (count : ℕ) (bytes : List ℕ) : Type 0 where
  pub some : count ≤ length (report_lines script report)
  pub later : List ℕ
  pub begin : bytes ≡ flat_map line_text (take count (report_lines script report)) ++ later

-- The line, counted from 1, is the first that is not in form: all lines before it are those of a report in form, and with this
-- one they are those of none. A last line without a line feed is not in form, and after the last line the next is not there.
pub record IsFirstOutOfForm (script : Script) (table : List (List ℕ)) (bytes : List ℕ) (line : ℕ) : Type 0 where
  pub counted : 1 ≤ line
  pub before : (report : Report) × HasForm script table report × BeginsWith script report (line - 1) bytes
  pub out : (report : Report) → HasForm script table report → BeginsWith script report line bytes → ⊥

-- the bytes are the text of no report in form
abbrev pub IsNoReport : Script → List (List ℕ) → List ℕ → Type 0
IsNoReport script table bytes = (report : Report) → HasForm script table report → bytes ≡ text_of script report → ⊥

-- What reading bytes as a report of the script gives, where the keys live as the table says: the report in form whose text they
-- are, and a fault of form exactly where there is none.
abbrev pub IsReading : Script → List (List ℕ) → List ℕ → Result Report ReportFault → Type 0
IsReading script table bytes (Ok report) = HasForm script table report × (bytes ≡ text_of script report)
IsReading script table bytes (Err (Form line)) = IsNoReport script table bytes × IsFirstOutOfForm script table bytes line
IsReading script table bytes (Err NoMemory) = ⊤

-- the report was read, unless memory ran out
abbrev pub IsReadAs : Report → Result Report ReportFault → Type 0
IsReadAs report (Ok read) = read ≡ report
IsReadAs report (Err fault) = fault ≡ NoMemory
