-- What stands for the accepted puts while a report is held against them.
use Rattle.std.specs.Prelude.{◌≡◌, ◌↔◌, ℕ, ◌≤◌, Bool, IsTrue, List, length, All, Option, Result, IfOk, IfSome, MatchOption, ⊤}
use Rattle.std.specs.List.{AllZip}
use Rattle.lattice_laws.specs.declared.lattice.NoMemory.{NoMemory}
use Rattle.clock_lattice.specs.Clock.{IsClock}
use Rattle.clock_lattice.specs.Needs.{IsNeeds}
use Rattle.composed_value.specs.Cell.{PlainCell}
use Rattle.composed_value.specs.Kind.{kind_of_value}
use Rattle.composed_value.specs.declared.kind.Kind.{Kind}
use Rattle.composed_value.specs.declared.put.Put.{Put}
use Rattle.session_known.specs.Lawful.{IsSoundReply, CountsAccepted, IsTrueOf}
use Rattle.session_known.specs.Legal.{IsLawfulFinal}
use Rattle.placement.specs.Config.{IsOneOf}
use Rattle.composed_value.specs.Keyed.{kind_at}
use Rattle.session_known.specs.declared.report.Answer.{Answer}
use Rattle.session_known.specs.declared.report.Answer.TheVariants as answers
use Rattle.session_known.specs.declared.report.FinalCell.{FinalCell}
use Rattle.session_known.specs.declared.report.Report.{Report}
use Rattle.session_known.specs.declared.report.Shown.{Shown}
use Rattle.session_known.specs.declared.script.Line.{Line}
use Rattle.session_known.specs.declared.script.Line.TheVariants as lines
use Rattle.session_known.specs.declared.script.Script.{Script}
use Rattle.session_known.specs.declared.script.SessionPlan.{SessionPlan}
use Rattle.anna_check.specs.ByKey.{OfKey, kinds_of, AreByKey}
use Rattle.anna_check.specs.ComputedCells.{AreAllNext}
use Rattle.anna_check.specs.Counted.{AreOfTheirPuts}
use Rattle.anna_check.specs.Unlawful.{AreTrueOf, IsFirstUntrue, IsFirstUntrueFrom, IsFirstUnlawfulFinal}

-- the lists and the cells stand for these accepted puts, of which each session's on each key are numbered one by one
pub record StandFor (kinds : List Kind) (workers : ℕ) (accepted : List (ℕ × Put)) (by_key : List OfKey) (cells : List (List PlainCell)) : Type 0 where
  pub puts : AreByKey kinds accepted by_key
  pub numbered : AreAllNext accepted
  pub cells_are : AreOfTheirPuts kinds workers accepted cells

-- a worker that there is shows a cell of a key that there is, of its kind, in valid parts
pub record CanBeShown (kinds : List Kind) (workers key worker : ℕ) (shown : Shown) : Type 0 where
  pub key_is : IsOneOf (length kinds) key
  pub worker_is : IsOneOf workers worker
  pub clock_is : IsClock shown.clock
  pub value_is : kind_of_value shown.value ≡ kind_at kinds key
  pub needs_are : IfSome shown.needs IsNeeds

-- what a line's answer says of the accepted puts can be held against them
abbrev pub CanBeHeldAgainst : List Kind → ℕ → Line → Answer → Type 0
CanBeHeldAgainst kinds workers (lines.Get key named) (answers.Got worker shown) = CanBeShown kinds workers key worker shown
CanBeHeldAgainst kinds workers (lines.Await key session count) (answers.Got worker shown) = CanBeShown kinds workers key worker shown
CanBeHeldAgainst kinds workers (lines.Get key named) (answers.Again asks worker clock) = IsOneOf (length kinds) key
CanBeHeldAgainst kinds workers (lines.Await key session count) (answers.Again asks worker clock) = IsOneOf (length kinds) key
CanBeHeldAgainst kinds workers line answer = ⊤

-- what the answers of a session say can be
pub record CanAllBeHeldAgainst (kinds : List Kind) (workers : ℕ) (of_session : List Line) (answered : List Answer) : Type 0 where
  pub few : length of_session ≤ 4096
  pub each : AllZip (CanBeHeldAgainst kinds workers) of_session answered

-- a final cell of a key that there is at a worker that there is, of its kind, in valid parts
pub record CanBeFinal (kinds : List Kind) (workers : ℕ) (last : FinalCell) : Type 0 where
  pub key_is : IsOneOf (length kinds) last.key
  pub worker_is : IsOneOf workers last.worker
  pub clock_is : IsClock last.clock
  pub value_is : kind_of_value last.value ≡ kind_at kinds last.key

-- all that the report's answers say can be held against the accepted puts, and all its final cells
abbrev pub CanHoldAllAnswers : Script → Report → Type 0
CanHoldAllAnswers script report = AllZip (λ plan answers. CanAllBeHeldAgainst script.kinds script.config.workers plan.lines answers) script.sessions report.answers

abbrev pub CanHoldAllFinals : Script → Report → Type 0
CanHoldAllFinals script report = All (CanBeFinal script.kinds script.config.workers) report.finals

-- ---- what a call asks for and answers

-- the lists and the cells stand for some accepted puts, of keys of these kinds, at so many workers
abbrev StandForSome : List OfKey → List (List PlainCell) → (List Kind → ℕ → Type 0) → Type 0
StandForSome by_key cells holds = (workers : ℕ) × (puts : List (ℕ × Put)) × StandFor (kinds_of by_key) workers puts by_key cells × holds (kinds_of by_key) workers

-- a reply can be held against them
abbrev pub CanHoldReply : List OfKey → List (List PlainCell) → ℕ → ℕ → Shown → Type 0
CanHoldReply by_key cells key worker shown = StandForSome by_key cells (λ kinds workers. CanBeShown kinds workers key worker shown)

-- an answer, the answers of a session, and those of all sessions
abbrev pub CanHoldAnswer : List OfKey → List (List PlainCell) → Line → Answer → Type 0
CanHoldAnswer by_key cells line answer = StandForSome by_key cells (λ kinds workers. CanBeHeldAgainst kinds workers line answer)

abbrev pub CanHoldAnswers : List OfKey → List (List PlainCell) → List Line → List Answer → Type 0
CanHoldAnswers by_key cells of_session answered = StandForSome by_key cells (λ kinds workers. CanAllBeHeldAgainst kinds workers of_session answered)

abbrev pub CanHoldSessions : List OfKey → List (List PlainCell) → List SessionPlan → List (List Answer) → Type 0
CanHoldSessions by_key cells sessions answered =
    StandForSome by_key cells (λ kinds workers. AllZip (λ plan answers. CanAllBeHeldAgainst kinds workers plan.lines answers) sessions answered)

-- a final cell, and all of them
abbrev pub CanHoldFinal : List OfKey → List (List PlainCell) → FinalCell → Type 0
CanHoldFinal by_key cells last = StandForSome by_key cells (λ kinds workers. CanBeFinal kinds workers last)

abbrev pub CanHoldFinals : List OfKey → List (List PlainCell) → List FinalCell → Type 0
CanHoldFinals by_key cells finals = StandForSome by_key cells (λ kinds workers. All (CanBeFinal kinds workers) finals)

-- the cells stand for the same accepted puts afterwards
abbrev pub StandForTheSame : List OfKey → List (List PlainCell) → List (List PlainCell) → Type 0
StandForTheSame by_key cells after =
    (kinds : List Kind) (workers : ℕ) (puts : List (ℕ × Put)) → StandFor kinds workers puts by_key cells → StandFor kinds workers puts by_key after

-- what is answered holds of the kinds and the accepted puts that are stood for
abbrev IsAnswered : {T : Type 0} → List OfKey → List (List PlainCell) → Result T NoMemory → (List Kind → List (ℕ × Put) → T → Type 0) → Type 0
IsAnswered by_key cells result says =
    (kinds : List Kind) (workers : ℕ) (puts : List (ℕ × Put)) → StandFor kinds workers puts by_key cells → IfOk result (says kinds puts)

-- it says whether the reply is sound
abbrev pub TellsSound : List OfKey → List (List PlainCell) → ℕ → Shown → Result Bool NoMemory → Type 0
TellsSound by_key cells key shown result = IsAnswered by_key cells result (λ kinds puts sound. IsTrue sound ↔ IsSoundReply kinds puts key shown)

-- whether a clock of a key counts no more puts than were accepted
abbrev pub TellsCounted : List OfKey → ℕ → List (ℕ × ℕ) → Bool → Type 0
TellsCounted by_key key clock counts = (kinds : List Kind) (puts : List (ℕ × Put)) → AreByKey kinds puts by_key → IsTrue counts ↔ CountsAccepted puts key clock

-- whether what an answer says is true
abbrev pub TellsTrue : List OfKey → List (List PlainCell) → Line → Answer → Result Bool NoMemory → Type 0
TellsTrue by_key cells line answer result = IsAnswered by_key cells result (λ kinds puts yes. IsTrue yes ↔ IsTrueOf kinds puts line answer)

-- whether a final cell is lawful
abbrev pub TellsFinal : List OfKey → List (List PlainCell) → FinalCell → Result Bool NoMemory → Type 0
TellsFinal by_key cells last result = IsAnswered by_key cells result (λ kinds puts lawful. IsTrue lawful ↔ IsLawfulFinal kinds puts last)

-- the first command of a session whose answer says something untrue, and of all sessions; nothing where all is true
abbrev pub FindsUntrue : List OfKey → List (List PlainCell) → List Line → List Answer → Result (Option ℕ) NoMemory → Type 0
FindsUntrue by_key cells of_session answered result =
    IsAnswered by_key cells result (λ kinds puts found.
    MatchOption found (AllZip (IsTrueOf kinds puts) of_session answered) (IsFirstUntrue kinds puts of_session answered))

abbrev pub FindsUntrueFrom : List OfKey → List (List PlainCell) → List SessionPlan → List (List Answer) → Result (Option (ℕ × ℕ)) NoMemory → Type 0
FindsUntrueFrom by_key cells sessions answered result =
    IsAnswered by_key cells result (λ kinds puts found.
    MatchOption found (AllZip (AreTrueOf kinds puts) sessions answered) (λ place. IsFirstUntrueFrom kinds puts 1 sessions answered place.0 place.1))

-- the first final cell that is not lawful; nothing where all are
abbrev pub FindsUnlawfulFinal : List OfKey → List (List PlainCell) → List FinalCell → Result (Option (ℕ × ℕ)) NoMemory → Type 0
FindsUnlawfulFinal by_key cells finals result =
    IsAnswered by_key cells result (λ kinds puts found.
    MatchOption found (All (IsLawfulFinal kinds puts) finals) (λ place. IsFirstUnlawfulFinal kinds puts finals place.0 place.1))
