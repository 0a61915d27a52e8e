-- The puts that a report accepts.
use Rattle.std.specs.Prelude.{◌≡◌, ℕ, ◌+◌, ◌-◌, List, [], ◌∷◌, ◌++◌, slice_index_or, Option, Some, None, ⊤}
use Rattle.composed_value.specs.Keyed.{puts_on}
use Rattle.composed_value.specs.PlainValue.{puts_of_session}
use Rattle.composed_value.specs.declared.put.Put.{Put}
use Rattle.session_known.specs.Session.{Client, Knowledge, State, nothing_known, handed, start, puts_from, state_after}
use Rattle.session_known.specs.declared.report.Answer.{Answer}
use Rattle.session_known.specs.declared.report.Report.{Report}
use Rattle.session_known.specs.declared.script.Script.{Script}
use Rattle.session_known.specs.declared.script.SessionPlan.{SessionPlan}

-- the session of this number
abbrev pub client_of : ℕ → SessionPlan → Client
client_of number plan = record { session = number; level = plan.level }

-- what a session knows at its start, where `ends` is what each session knows after its last line: what the session that it comes after
-- hands over, and else nothing
abbrev pub origin_of : List Knowledge → Option ℕ → Knowledge
origin_of ends (Some after) = handed (slice_index_or ends (after - 1) nothing_known)
origin_of ends None = nothing_known

-- the state in which it starts
abbrev pub start_of : List Knowledge → SessionPlan → State
start_of ends plan = start (origin_of ends plan.after)

-- what the session of a number knows after its last line
abbrev pub end_of : List Knowledge → ℕ → SessionPlan → List Answer → Knowledge
end_of ends number plan answers = (state_after (client_of number plan) (start_of ends plan) plan.lines answers).knows

-- so session by session, from a number on, where `ends` is what those before it know
abbrev pub ends_from : List Knowledge → ℕ → List SessionPlan → List (List Answer) → List Knowledge
ends_from ends number (plan ∷ plans) (answers ∷ others) = ends_from (ends ++ end_of ends number plan answers ∷ []) (number + 1) plans others
ends_from ends number plans answers = ends

-- What each session of a report knows after its last line, in script order; each comes after an earlier one, if it comes after one.
abbrev pub ends_of : Script → Report → List Knowledge
ends_of script report = ends_from [] 1 script.sessions report.answers

-- the accepted puts of the sessions from a number on, session by session
abbrev pub accepted_from : List Knowledge → ℕ → List SessionPlan → List (List Answer) → List (ℕ × Put)
accepted_from ends number (plan ∷ plans) (answers ∷ others) = puts_from (client_of number plan) (start_of ends plan) plan.lines answers ++ accepted_from ends (number + 1) plans others
accepted_from ends number plans answers = []

-- The accepted puts of a report, each with its key: those of the put lines that were accepted and of the commits, in script order.
abbrev pub accepted : Script → Report → List (ℕ × Put)
accepted script report = accepted_from (ends_of script report) 1 script.sessions report.answers

-- those of them that a session made
abbrev pub made_on : ℕ → ℕ → List (ℕ × Put) → List Put
made_on session key made = puts_of_session session (puts_on key made)

-- puts whose numbers follow a number one by one
abbrev pub AreNext : ℕ → List Put → Type 0
AreNext n [] = ⊤
AreNext n (put ∷ others) = (put.number ≡ n + 1) × AreNext (n + 1) others
