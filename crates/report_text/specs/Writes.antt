-- What is written, in the pieces in which it is written.
use Rattle.std.specs.Prelude.{◌≡◌, ℕ, zero, suc, List, [], ◌∷◌, ◌++◌, map}
use Rattle.std.specs.List.{AllZip, flat_map}
use Rattle.outside.specs.Gathering.{Adds}
use Rattle.outside.specs.declared.Sink as sinks
use Rattle.outside.specs.declared.gathering.Out.{Out}
use Rattle.placement.specs.Config.{placed}
use Rattle.session_known.specs.Form.{Fits, final_places}
use Rattle.session_known.specs.Script.{MayStand}
use Rattle.session_known.specs.declared.report.Answer.{Answer}
use Rattle.session_known.specs.declared.report.FinalCell.{FinalCell}
use Rattle.session_known.specs.declared.script.Level.{Level}
use Rattle.session_known.specs.declared.script.Line.{Line}
use Rattle.session_known.specs.declared.script.Script.{Script}
use Rattle.session_known.specs.declared.script.SessionPlan.{SessionPlan}
use Rattle.report_lines.specs.Text.{session_words, answers_lines, line_text, spaced}

-- what stands before an item of a list, by its place: a separator, but before the first nothing
abbrev pub between : ℕ → ℕ → List ℕ
between separator zero = []
between separator (suc place) = separator ∷ []

-- the words were written on the way to a sink, each after a space
abbrev pub AddsWords : {K : Type 0} → sinks.Ghosts K → Out K → Out K → List (List ℕ) → Type 0
AddsWords sink before now words = Adds sink.written sink.faults before now (spaced words)

-- the words were written as a line
abbrev pub AddsLine : {K : Type 0} → sinks.Ghosts K → Out K → Out K → List (List ℕ) → Type 0
AddsLine sink before now words = Adds sink.written sink.faults before now (line_text words)

-- and so were lines, one after another
abbrev pub AddsLines : {K : Type 0} → sinks.Ghosts K → Out K → Out K → List (List (List ℕ)) → Type 0
AddsLines sink before now lines = Adds sink.written sink.faults before now (flat_map line_text lines)

-- the final cells stand where those of the script do
abbrev pub AreAtPlaces : Script → List FinalCell → Type 0
AreAtPlaces script finals = map (λ cell. (cell.key, cell.worker)) finals ≡ final_places script (placed script.config)

-- the lines of a session
abbrev pub session_text : Script → SessionPlan → List Answer → List ℕ
session_text script plan answers = line_text (session_words script plan) ++ flat_map line_text (answers_lines script plan.lines answers)

-- the line may stand in a session of the script, and the answer is one that it may have
abbrev pub MayAnswer : Script → Line → Answer → Type 0
MayAnswer script line answer = (table : List (List ℕ)) × (level : Level) × MayStand script table level line × Fits script level line answer

-- the answers are ones that the lines of the session may have
abbrev pub MayAnswerAll : Script → SessionPlan → List Answer → Type 0
MayAnswerAll script plan answers = AllZip (MayAnswer script) plan.lines answers
