-- Parts of reports in form.
use Rattle.std.specs.Prelude.{ℕ, ◌<◌, ◌^◌, List, length}
use Rattle.std.specs.List.{AllZip}
use Rattle.basic_lattices.specs.Word.{IsWord}
use Rattle.dot_lattices.specs.Amounts.{AreAmounts}
use Rattle.dot_lattices.specs.declared.amounts.Amounts.{Amounts}
use Rattle.dot_lattices.specs.declared.dot.Dot.{Dot}
use Rattle.dot_lattices.specs.declared.insert.Insert.{Insert}
use Rattle.session_known.specs.Form.{Fits, IsClockIn}
use Rattle.placement.specs.Config.{IsOneOf}
use Rattle.session_known.specs.declared.report.Answer.{Answer}
use Rattle.session_known.specs.declared.report.FinalCell.{FinalCell}
use Rattle.session_known.specs.declared.script.Script.{Script}
use Rattle.session_known.specs.declared.script.SessionPlan.{SessionPlan}

-- an entry of a clock in form
abbrev pub IsCounted : Script → ℕ × ℕ → Type 0
IsCounted script entry = IsOneOf (length script.sessions) entry.0 × (entry.1 < 2 ^ 64)

-- a word with a clock in form
abbrev pub IsClockedIn : Script → List ℕ × List (ℕ × ℕ) → Type 0
IsClockedIn script clocked = IsWord clocked.0 × IsClockIn script clocked.1

-- a dot with what was added and taken there in form
abbrev pub IsSumIn : Script → Dot × Amounts → Type 0
IsSumIn script entry = IsCounted script (entry.0.session, entry.0.number) × AreAmounts entry.1

-- an insert in form
abbrev pub IsInsertIn : Script → Insert → Type 0
IsInsertIn script insert = IsWord insert.word × IsCounted script (insert.dot.session, insert.dot.number)

-- the answers to the lines of a session
abbrev pub AreAnswers : Script → SessionPlan → List Answer → Type 0
AreAnswers script plan answers = AllZip (Fits script plan.level) plan.lines answers

-- where a final cell stands
abbrev pub place_of : FinalCell → ℕ × ℕ
place_of cell = (cell.key, cell.worker)
