-- What the sessions of a report are shown: cells that are sound for the accepted puts, and clocks that count accepted puts alone.
use Rattle.std.specs.Prelude.{◌≡◌, ℕ, List, ⊤}
use Rattle.std.specs.List.{AllZip}
use Rattle.std.proofs.Common.{sym, subst}
use Rattle.clock_lattice.specs.Clock.{IsClock}
use Rattle.composed_value.specs.Cell.{PlainCell}
use Rattle.composed_value.specs.Keyed.{kind_at, puts_on}
use Rattle.composed_value.specs.Sound.{IsSoundCell}
use Rattle.composed_value.specs.declared.kind.Kind.{Kind}
use Rattle.composed_value.specs.declared.put.Put.{Put}
use Rattle.session_known.specs.Accepted.{accepted}
use Rattle.session_known.specs.Lawful.{CountsAccepted, IsSoundReply, IsTrueOf}
use Rattle.session_known.specs.Session.{shown_to}
use Rattle.session_known.specs.declared.report.Answer.{Answer}
use Rattle.session_known.specs.declared.report.Answer.TheVariants as answers
use Rattle.session_known.specs.declared.report.Report.{Report}
use Rattle.session_known.specs.declared.report.Shown.{Shown}
use Rattle.session_known.specs.declared.script.Level.{Level}
use Rattle.session_known.specs.declared.script.Level.TheVariants.{Causal, Committed, Eventual}
use Rattle.session_known.specs.declared.script.Line.{Line}
use Rattle.session_known.specs.declared.script.Line.TheVariants as lines
use Rattle.session_known.specs.declared.script.Script.{Script}
use Rattle.legal_runs.proofs.JoinedSoundLemmas.{IsSoundOf}
use Rattle.legal_runs.proofs.SessionsLemmas.{IsSession, answers_at, lines_at, plan_at}

-- what a session of a level is shown of a cell that is sound for the puts
pub record IsOfSound (kind : Kind) (puts : List Put) (level : Level) (shown : Shown) : Type 0 where
  pub cell : PlainCell
  pub is : shown ≡ shown_to level cell
  pub sound : IsSoundOf kind puts cell

-- a clock that there can be, and that counts accepted puts alone
pub record IsOfAccepted (accepted : List (ℕ × Put)) (key : ℕ) (clock : List (ℕ × ℕ)) : Type 0 where
  pub is_clock : IsClock clock
  pub counts : CountsAccepted accepted key clock

-- so is what the answer of a line shows
abbrev pub ShowsSound : List Kind → List (ℕ × Put) → Level → Line → Answer → Type 0
ShowsSound kinds accepted level (lines.Get key named) (answers.Got worker shown) = IsOfSound (kind_at kinds key) (puts_on key accepted) level shown
ShowsSound kinds accepted level (lines.Await key session count) (answers.Got worker shown) = IsOfSound (kind_at kinds key) (puts_on key accepted) level shown
ShowsSound kinds accepted level (lines.Get key named) (answers.Again asks worker clock) = IsOfAccepted accepted key clock
ShowsSound kinds accepted level (lines.Await key session count) (answers.Again asks worker clock) = IsOfAccepted accepted key clock
ShowsSound kinds accepted level line answer = ⊤

-- and what all answers of all sessions show
abbrev pub AllShowSound : Script → Report → Type 0
AllShowSound script report =
    (session : ℕ) → IsSession script session
    → AllZip (ShowsSound script.kinds (accepted script report) (plan_at script session).level) (lines_at script session) (answers_at report session)

-- what a session is shown of a sound cell is sound
of_sound : (kinds : List Kind) (accepted : List (ℕ × Put)) (key : ℕ) (level : Level) (cell : PlainCell) → IsSoundCell (kind_at kinds key) (puts_on key accepted) cell → IsSoundReply kinds accepted key (shown_to level cell)
of_sound kinds accepted key Causal cell sound = record { sound = sound.shown; needs = sound.needs }
of_sound kinds accepted key Eventual cell sound = record { sound = sound.shown; needs = tt }
of_sound kinds accepted key Committed cell sound = record { sound = sound.shown; needs = tt }

shown_true : (kinds : List Kind) (accepted : List (ℕ × Put)) (key : ℕ) (level : Level) (shown : Shown) → IsOfSound (kind_at kinds key) (puts_on key accepted) level shown → IsSoundReply kinds accepted key shown
shown_true kinds accepted key level shown is = subst (IsSoundReply kinds accepted key) (sym is.is) (of_sound kinds accepted key level is.cell is.sound.sound)

-- so what such an answer says of the accepted puts is true
pub shows_true : (kinds : List Kind) (accepted : List (ℕ × Put)) (level : Level) (line : Line) (answer : Answer) → ShowsSound kinds accepted level line answer → IsTrueOf kinds accepted line answer
shows_true kinds accepted level (lines.Get key named) (answers.Got worker shown) shows = shown_true kinds accepted key level shown shows
shows_true kinds accepted level (lines.Await key session count) (answers.Got worker shown) shows = shown_true kinds accepted key level shown shows
shows_true kinds accepted level (lines.Get key named) (answers.Again asks worker clock) shows = shows.counts
shows_true kinds accepted level (lines.Await key session count) (answers.Again asks worker clock) shows = shows.counts
shows_true kinds accepted level line answer shows = tt
