-- How many puts are accepted.
use Rattle.std.specs.Prelude.{◌≡◌, ℕ, ◌+◌, List, [], ◌∷◌, ◌++◌, length}
use Rattle.std.proofs.Common.{refl, sym, ◌∙◌, length-append}
use Rattle.std.proofs.lemmas.List.Sums.{sum_by-cons}
use Rattle.session_known.proofs.AcceptedLemmas.{committed_count}
use Rattle.session_known.specs.Accepted.{accepted_from, client_of, start_of}
use Rattle.session_known.specs.Lawful.{AreLawful, IsLawful}
use Rattle.session_known.specs.Legal.{AreLawfulFrom}
use Rattle.session_known.specs.Session.{Client, Knowledge, State, after, held_puts, puts_by, puts_from}
use Rattle.session_known.specs.declared.report.Answer.{Answer}
use Rattle.session_known.specs.declared.report.Answer.TheVariants as answers
use Rattle.session_known.specs.declared.script.Line.{Line}
use Rattle.session_known.specs.declared.script.Line.TheVariants as lines
use Rattle.session_known.specs.declared.script.SessionPlan.{SessionPlan}
use Rattle.big_work.specs.Parts.{puts_of_all, puts_of_session, puts_told}

-- a lawful answer tells how many puts it accepts
line_told : (table : List (List ℕ)) (client : Client) (state : State) (earlier : List (Line × Answer)) (line : Line) (answer : Answer)
    → IsLawful table client state earlier line answer → length (puts_by client state line answer) ≡ puts_told answer
line_told table client state earlier (lines.Put key payload) (answers.Put number lamport) lawful = refl
line_told table client state earlier (lines.Put key payload) answers.Held lawful = refl
line_told table client state earlier (lines.Put key payload) answers.Worn lawful = refl
line_told table client state earlier lines.Begin answers.Begun lawful = refl
line_told table client state earlier lines.Commit (answers.Committed puts lamport) lawful = committed_count client state.knows lamport 0 (held_puts state) ∙ sym lawful.puts_are
line_told table client state earlier lines.Commit answers.Worn lawful = refl
line_told table client state earlier lines.Abort (answers.Aborted puts) lawful = refl
line_told table client state earlier (lines.Get key named) (answers.Got worker shown) lawful = refl
line_told table client state earlier (lines.Get key named) (answers.Again asks worker clock) lawful = refl
line_told table client state earlier (lines.Await key session count) (answers.Got worker shown) lawful = refl
line_told table client state earlier (lines.Await key session count) (answers.Again asks worker clock) lawful = refl
line_told table client state earlier line answer lawful = absurd lawful

-- so do those of a session
lines_told : (table : List (List ℕ)) (client : Client) (state : State) (earlier : List (Line × Answer)) (lines : List Line) (answers : List Answer)
    → AreLawful table client state earlier lines answers → length (puts_from client state lines answers) ≡ puts_of_session answers
lines_told table client state earlier [] [] lawful = refl
lines_told table client state earlier [] (answer ∷ answers) lawful = absurd lawful
lines_told table client state earlier (line ∷ lines) [] lawful = absurd lawful
lines_told table client state earlier (line ∷ lines) (answer ∷ answers) lawful =
    let reached : State = after client state line answer in
    length-append (puts_by client state line answer) (puts_from client reached lines answers)
    ∙ (λ j. line_told table client state earlier line answer lawful.0 j + lines_told table client reached (earlier ++ (line, answer) ∷ []) lines answers lawful.1 j)
    ∙ sym (sum_by-cons puts_told answer answers)

-- and those of all sessions
pub all_told : (table : List (List ℕ)) (ends : List Knowledge) (number : ℕ) (plans : List SessionPlan) (others : List (List Answer)) → AreLawfulFrom table ends number plans others
    → length (accepted_from ends number plans others) ≡ puts_of_all others
all_told table ends number [] [] lawful = refl
all_told table ends number [] (answers ∷ others) lawful = absurd lawful
all_told table ends number (plan ∷ plans) [] lawful = absurd lawful
all_told table ends number (plan ∷ plans) (answers ∷ others) lawful =
    let client : Client = client_of number plan in
    length-append (puts_from client (start_of ends plan) plan.lines answers) (accepted_from ends (number + 1) plans others)
    ∙ (λ j. lines_told table client (start_of ends plan) [] plan.lines answers lawful.0 j + all_told table ends (number + 1) plans others lawful.1 j)
    ∙ sym (sum_by-cons puts_of_session answers others)
