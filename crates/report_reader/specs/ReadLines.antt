-- The lines of a report read one after another: what each may be, and where the first that is not in form stands.
use Rattle.std.specs.Prelude.{◌≡◌, ℕ, zero, suc, ◌+◌, ◌==◌, List, [], ◌∷◌, ◌++◌, map, filter, length, flat_map, codes, Option, ⊤}
use Rattle.std.specs.List.{AllZip, list_any, range_with_len}
use Rattle.placement.specs.Config.{IsOneOf}
use Rattle.session_known.specs.Form.{Fits, IsFinalIn, final_places}
use Rattle.session_known.specs.Script.{IsValidScript}
use Rattle.session_known.specs.declared.report.Answer.{Answer}
use Rattle.session_known.specs.declared.report.FinalCell.{FinalCell}
use Rattle.session_known.specs.declared.report.Report.{Report}
use Rattle.session_known.specs.declared.script.Level.{Level}
use Rattle.session_known.specs.declared.script.Line.{Line}
use Rattle.session_known.specs.declared.script.Script.{Script}
use Rattle.session_known.specs.declared.script.SessionPlan.{SessionPlan}
use Rattle.report_reader.specs.declared.ReportFault.{ReportFault}
use Rattle.report_reader.specs.declared.ReportFault.TheVariants.{Form, NoMemory}
use Rattle.report_lines.specs.Text.{head_lines, session_words, answer_words, answers_lines, sessions_lines, final_words, report_lines, line_text}
use Rattle.report_reader.specs.Reads.{Reads}

-- a final cell in form of the key at the worker
pub record IsFinalAt (script : Script) (key worker : ℕ) (cell : FinalCell) : Type 0 where
  pub key_is : cell.key ≡ key
  pub worker_is : cell.worker ≡ worker
  pub in_form : IsFinalIn script cell

-- the final cell of the key at the worker was read
abbrev pub ReadsFinal : Script → ℕ → ℕ → List (List ℕ) → Option FinalCell → Type 0
ReadsFinal script key worker words read = Reads (IsFinalAt script key worker) (final_words script) words read

-- what a line of a report is due to be: these words, the answer to a line of a session of the level, or the final cell of the key
-- at the worker
pub data Due : Type 0 where
  Exactly : List (List ℕ) → Due
  Answered : Level → Line → Due
  FinalOf : ℕ → ℕ → Due

-- the words are a line that is due
abbrev pub IsDue : Script → Due → List (List ℕ) → Type 0
IsDue script (Exactly words) given = given ≡ words
IsDue script (Answered level line) given = (answer : Answer) × Fits script level line answer × (given ≡ answer_words script line answer)
IsDue script (FinalOf key worker) given = (cell : FinalCell) × IsFinalAt script key worker cell × (given ≡ final_words script cell)

-- the lines that are due to lines of a session of the level
abbrev pub answers_dues : Level → List Line → List Due
answers_dues level of_session = map (Answered level) of_session

-- the lines of a session that are due
abbrev pub session_dues : Script → SessionPlan → List Due
session_dues script plan = Exactly (session_words script plan) ∷ answers_dues plan.level plan.lines

-- the lines of sessions that are due
abbrev pub sessions_dues : Script → List SessionPlan → List Due
sessions_dues script plans = flat_map (session_dues script) plans

-- the lines of the final cells that are due
abbrev pub finals_dues : List (ℕ × ℕ) → List Due
finals_dues places = map (λ place. FinalOf place.0 place.1) places

-- lines of which all words are known
abbrev pub exact_dues : List (List (List ℕ)) → List Due
exact_dues lines = map Exactly lines

-- the lines of a report that are due
abbrev pub report_dues : Script → List (List ℕ) → List Due
report_dues script table =
    exact_dues (head_lines script)
    ++ (sessions_dues script script.sessions
    ++ (Exactly (codes "final" ∷ []) ∷ (finals_dues (final_places script table)
    ++ Exactly (codes "end" ∷ []) ∷ [])))

-- ---- where final cells stand

-- a key and a worker of the script
abbrev pub IsPlaceIn : Script → ℕ × ℕ → Type 0
IsPlaceIn script place = IsOneOf (length script.config.keys) place.0 × IsOneOf script.config.workers place.1

-- the replicas among the first workers, so many, ascending
abbrev pub replicas_within : List ℕ → ℕ → List ℕ
replicas_within replicas workers = filter (λ worker. list_any (λ replica. replica == worker) replicas) (range_with_len 1 workers)

-- the key at each of these workers
abbrev pub places_at : ℕ → List ℕ → List (ℕ × ℕ)
places_at key workers = map (λ worker. (key, worker)) workers

-- ---- wherever the keys live

-- the script is valid where its keys live so that this holds
abbrev pub IsValidWhere : Script → (List (List ℕ) → Type 0) → Type 0
IsValidWhere script holds = (table : List (List ℕ)) × IsValidScript script table × holds table

-- ---- line after line

-- the line was taken from what was left of a text
abbrev pub HasTaken : List ℕ → List ℕ × ℕ → List ℕ × ℕ → Type 0
HasTaken line before after = (before.0 ≡ line ++ 10 ∷ after.0) × (after.1 ≡ before.1 + 1)

-- the line is not the next of the text
abbrev pub IsNotNext : List ℕ → List ℕ → Type 0
IsNotNext line text = (rest : List ℕ) → text ≡ line ++ 10 ∷ rest → ⊥

-- the bytes begin with a line that is due, and the rest is after it
pub record IsLineRead (script : Script) (due : Due) (bytes rest : List ℕ) : Type 0 where
  pub words : List (List ℕ)
  pub is_due : IsDue script due words
  pub begin : bytes ≡ line_text words ++ rest

-- the bytes begin with the lines that are due, and the rest is after them
abbrev pub AreLinesRead : Script → List Due → List ℕ → List ℕ → Type 0
AreLinesRead script [] bytes rest = bytes ≡ rest
AreLinesRead script (due ∷ dues) bytes rest = (later : List ℕ) × IsLineRead script due bytes later × AreLinesRead script dues later rest

-- the bytes begin with no line that is due
abbrev pub IsOut : Script → Due → List ℕ → Type 0
IsOut script due bytes = (rest : List ℕ) → IsLineRead script due bytes rest → ⊥

-- the bytes begin with so many lines that are due, and then not with the next
abbrev pub IsOutAt : Script → List Due → ℕ → List ℕ → Type 0
IsOutAt script [] place bytes = ⊥
IsOutAt script (due ∷ dues) zero bytes = IsOut script due bytes
IsOutAt script (due ∷ dues) (suc place) bytes = (later : List ℕ) × IsLineRead script due bytes later × IsOutAt script dues place later

-- What is left of a text, with the number of its next line: what stood before these lines, which were due, and what stands after.
pub record HasGot (script : Script) (dues : List Due) (lines : List (List (List ℕ))) (before after : List ℕ × ℕ) : Type 0 where
  pub are_due : AllZip (IsDue script) dues lines
  pub begin : before.0 ≡ flat_map line_text lines ++ after.0
  pub number : after.1 ≡ before.1 + length dues

-- the line of an answer was got
abbrev pub HasGotAnswer : Script → Level → Line → List ℕ × ℕ → List ℕ × ℕ → Answer → Type 0
HasGotAnswer script level line before after answer = HasGot script (Answered level line ∷ []) (answer_words script line answer ∷ []) before after

-- those of the answers to lines of a session of the level
abbrev pub HasGotAnswers : Script → Level → List Line → List ℕ × ℕ → List ℕ × ℕ → List Answer → Type 0
HasGotAnswers script level of_session before after answers = HasGot script (answers_dues level of_session) (answers_lines script of_session answers) before after

-- those of a session
abbrev pub HasGotSession : Script → SessionPlan → List ℕ × ℕ → List ℕ × ℕ → List Answer → Type 0
HasGotSession script plan before after answers = HasGot script (session_dues script plan) (session_words script plan ∷ answers_lines script plan.lines answers) before after

-- those of sessions
abbrev pub HasGotSessions : Script → List SessionPlan → List ℕ × ℕ → List ℕ × ℕ → List (List Answer) → Type 0
HasGotSessions script plans before after answers = HasGot script (sessions_dues script plans) (sessions_lines script plans answers) before after

-- lines of which all words are known were got
abbrev pub HasGotExactly : Script → List (List (List ℕ)) → List ℕ × ℕ → List ℕ × ℕ → Type 0
HasGotExactly script lines before after = HasGot script (exact_dues lines) lines before after

-- the line of the final cell of the key at the worker
abbrev pub HasGotFinal : Script → ℕ → ℕ → List ℕ × ℕ → List ℕ × ℕ → FinalCell → Type 0
HasGotFinal script key worker before after cell = HasGot script (FinalOf key worker ∷ []) (final_words script cell ∷ []) before after

-- those of the final cells at these places
abbrev pub HasGotFinals : Script → List (ℕ × ℕ) → List ℕ × ℕ → List ℕ × ℕ → List FinalCell → Type 0
HasGotFinals script places before after cells = HasGot script (finals_dues places) (map (final_words script) cells) before after

-- those of a report
abbrev pub HasGotReport : Script → List (List ℕ) → List ℕ × ℕ → List ℕ × ℕ → Report → Type 0
HasGotReport script table before after report = HasGot script (report_dues script table) (report_lines script report) before after

-- why lines that are due were not read: one is out of form, the first
abbrev pub IsPartFault : Script → List Due → List ℕ × ℕ → ReportFault → Type 0
IsPartFault script dues before (Form line) = (place : ℕ) × (line ≡ before.1 + place) × IsOutAt script dues place before.0
IsPartFault script dues before NoMemory = ⊤
