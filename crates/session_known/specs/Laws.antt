-- What holds of all legal reports, whoever wrote them.
use Rattle.std.specs.Prelude.{◌≡◌, ◌≢◌, ℕ, ◌+◌, ◌≤◌, List, length, map, All, Contains}
use Rattle.composed_value.specs.PlainValue.{puts_of_session}
use Rattle.composed_value.specs.Sound.{AreNumbered}
use Rattle.composed_value.specs.declared.kind.Kind.{Kind}
use Rattle.composed_value.specs.declared.put.Put as puts
use Rattle.composed_value.specs.Keyed.{puts_on}
use Rattle.session_known.specs.Accepted.{accepted, accepted_from}
use Rattle.session_known.specs.Lawful.{ShowsAt, IsTrueOf, CountsAccepted}
use Rattle.session_known.specs.Legal.{AreLawfulFrom, IsLegalAt}
use Rattle.session_known.specs.Script.{IsValidScript}
use Rattle.session_known.specs.Session.{Knowledge}
use Rattle.session_known.specs.declared.report.Answer.{Answer}
use Rattle.session_known.specs.declared.report.Answer.TheVariants as answers
use Rattle.session_known.specs.declared.report.FinalCell.{FinalCell}
use Rattle.session_known.specs.declared.report.Report.{Report}
use Rattle.session_known.specs.declared.script.Line.{Line}
use Rattle.session_known.specs.declared.script.Script.{Script}
use Rattle.session_known.specs.declared.script.SessionPlan.{SessionPlan}

-- where all sessions are answered lawfully, the accepted puts of each session on each key are numbered 1, 2 and so on
abbrev pub AcceptedAreNumbered : Type 0
AcceptedAreNumbered =
    (table : List (List ℕ)) (ends : List Knowledge) (plans : List SessionPlan) (answers : List (List Answer)) → AreLawfulFrom table ends 1 plans answers
    → (session key : ℕ) → AreNumbered (puts_of_session session (puts_on key (accepted_from ends 1 plans answers)))

-- two final cells of a key have the same clock, top and value
pub record FinalsAgree (a b : FinalCell) : Type 0 where
  pub clocks : a.clock ≡ b.clock
  pub tops : a.top ≡ b.top
  pub values : a.value ≡ b.value

-- so have those of all replicas of a key in a legal report
abbrev pub FinalsOfKeysAgree : Type 0
FinalsOfKeysAgree =
    (table : List (List ℕ)) (script : Script) (report : Report) → IsLegalAt table script report
    → (a b : FinalCell) → Contains report.finals a → Contains report.finals b → a.key ≡ b.key → FinalsAgree a b

-- the Lamport numbers of the accepted puts
abbrev pub lamports : Script → Report → List ℕ
lamports script report = map (λ entry. entry.1.lamport) (accepted script report)

-- in a legal report there is, for each accepted put with a Lamport number above 1, one with the number one less
abbrev pub LamportNumbersAreDense : Type 0
LamportNumbersAreDense =
    (script : Script) (table : List (List ℕ)) (report : Report) → IsValidScript script table → IsLegalAt table script report
    → (n : ℕ) → 1 ≤ n → Contains (lamports script report) (n + 1) → Contains (lamports script report) n

-- so none is above the number of accepted puts
abbrev pub LamportNumbersAreFew : Type 0
LamportNumbersAreFew =
    (script : Script) (table : List (List ℕ)) (report : Report) → IsValidScript script table → IsLegalAt table script report
    → All (λ n. n ≤ length (accepted script report)) (lamports script report)

-- and no put or commit is answered that the Lamport numbers are used up
abbrev pub NoAnswerIsWorn : Type 0
NoAnswerIsWorn =
    (script : Script) (table : List (List ℕ)) (report : Report) → IsValidScript script table → IsLegalAt table script report
    → All (All (λ answer. answer ≢ answers.Worn)) report.answers

-- the clock of a reply counts no more puts of a session than were accepted
abbrev pub RepliesCountAccepted : Type 0
RepliesCountAccepted =
    (kinds : List Kind) (accepted : List (ℕ × puts.Put)) (line : Line) (answer : Answer) (key : ℕ) (clock : List (ℕ × ℕ))
    → ShowsAt line answer key clock → IsTrueOf kinds accepted line answer → CountsAccepted accepted key clock
