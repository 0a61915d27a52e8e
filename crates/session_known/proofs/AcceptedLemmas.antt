-- How many puts are accepted: no more than there are commands.
use Rattle.std.specs.Prelude.{◌≡◌, ℕ, ◌+◌, ◌≤◌, List, [], ◌∷◌, length, sum_by}
use Rattle.std.proofs.Common.{suc, refl, ap, length-append, arith}
use Rattle.std.proofs.lemmas.List.Sums.{sum_by-cons}
use Rattle.composed_value.specs.declared.payload.Payload.{Payload}
use Rattle.session_known.specs.Accepted.{accepted, accepted_from, client_of, start_of, ends_of}
use Rattle.session_known.specs.Script.{IsValidScript}
use Rattle.session_known.specs.Session.{Client, Knowledge, State, after, held_puts, knows_put, own_count, puts_by, puts_committed, puts_from}
use Rattle.session_known.specs.declared.report.Answer.{Answer}
use Rattle.session_known.specs.declared.report.Answer.TheVariants as answers
use Rattle.session_known.specs.declared.report.Report.{Report}
use Rattle.session_known.specs.declared.script.Line.{Line}
use Rattle.session_known.specs.declared.script.Line.TheVariants as lines
use Rattle.session_known.specs.declared.script.Script.{Script}
use Rattle.session_known.specs.declared.script.SessionPlan.{SessionPlan}

-- a commit accepts as many puts as are held
pub committed_count : (client : Client) (knows : Knowledge) (lamport place : ℕ) (held : List (ℕ × Payload)) → length (puts_committed client knows lamport place held) ≡ length held
committed_count client knows lamport place [] = refl
committed_count client knows lamport place (put ∷ others) = ap suc (committed_count client (knows_put client knows put.0 (own_count knows put.0 + 1) lamport) lamport (place + 1) others)

-- a command accepts or holds one put more at most
pub line_accepts : (client : Client) (state : State) (line : Line) (answer : Answer)
    → length (puts_by client state line answer) + length (held_puts (after client state line answer)) ≤ length (held_puts state) + 1
line_accepts client state (lines.Put key payload) (answers.Put number lamport) = omega arith
line_accepts client state (lines.Put key payload) answers.Held = omega (arith, length-append (held_puts state) ((key, payload) ∷ []))
line_accepts client state lines.Begin answers.Begun = omega arith
line_accepts client state lines.Commit (answers.Committed puts lamport) = omega (arith, committed_count client state.knows lamport 0 (held_puts state))
line_accepts client state lines.Commit answers.Worn = omega arith
line_accepts client state lines.Abort (answers.Aborted puts) = omega arith
line_accepts client state (lines.Get key named) (answers.Got worker shown) = omega arith
line_accepts client state (lines.Await key session count) (answers.Got worker shown) = omega arith
line_accepts client state line answer = omega arith

-- so a session accepts no more puts than it has commands
lines_accept : (client : Client) (state : State) (lines : List Line) (answers : List Answer)
    → length (puts_from client state lines answers) ≤ length (held_puts state) + length lines
lines_accept client state [] answers = omega arith
lines_accept client state (line ∷ lines) [] = omega arith
lines_accept client state (line ∷ lines) (answer ∷ answers) =
    let reached : State = after client state line answer in
    let both = length-append (puts_by client state line answer) (puts_from client reached lines answers) in
    omega (arith, both, line_accepts client state line answer, lines_accept client reached lines answers)

-- and all sessions no more than they have
pub all_accept : (ends : List Knowledge) (number : ℕ) (plans : List SessionPlan) (others : List (List Answer)) → length (accepted_from ends number plans others) ≤ sum_by (λ plan. length plan.lines) plans
all_accept ends number [] others = omega arith
all_accept ends number (plan ∷ plans) [] = omega arith
all_accept ends number (plan ∷ plans) (answers ∷ others) =
    let lines_of : SessionPlan → ℕ = λ plan. length plan.lines in
    let client : Client = client_of number plan in
    let both = length-append (puts_from client (start_of ends plan) plan.lines answers) (accepted_from ends (number + 1) plans others) in
    omega (arith, both, lines_accept client (start_of ends plan) plan.lines answers, all_accept ends (number + 1) plans others, sum_by-cons lines_of plan plans)

-- At most 4,096 puts are accepted.
pub few_accepted : (script : Script) (table : List (List ℕ)) (report : Report) → IsValidScript script table → length (accepted script report) ≤ 4096
few_accepted script table report valid = omega (arith, all_accept (ends_of script report) 1 script.sessions report.answers, valid.few_lines)
