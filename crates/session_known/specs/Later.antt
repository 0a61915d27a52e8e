-- What a reply means for the later lines of its session: the statements of the laws on this.
use Rattle.std.specs.Prelude.{◌≡◌, ℕ, ◌<◌, IsTrue, List, [], length, slice_index_or, take, Option, Some, Contains}
use Rattle.std.specs.List.{AllZip}
use Rattle.clock_lattice.specs.Clock.{covers, is_below}
use Rattle.clock_lattice.specs.Needs.{clock_at}
use Rattle.composed_value.specs.Version.{Version}
use Rattle.composed_value.specs.declared.put.Put as puts
use Rattle.session_known.specs.Form.{Fits}
use Rattle.session_known.specs.Lawful.{ShowsAt, AreLawful}
use Rattle.session_known.specs.Session.{Client, Knowledge, State, start, puts_by, state_after}
use Rattle.session_known.specs.declared.report.Answer.{Answer}
use Rattle.session_known.specs.declared.report.Answer.TheVariants as answers
use Rattle.session_known.specs.declared.report.Shown.{Shown}
use Rattle.session_known.specs.declared.script.Level.TheVariants.{Causal}
use Rattle.session_known.specs.declared.script.Line.{Line}
use Rattle.session_known.specs.declared.script.Line.TheVariants as lines
use Rattle.session_known.specs.declared.script.Script.{Script}

-- a session of a script, with what it knows at its start, whose lines have lawful answers, in form
pub record AnsweredSession : Type 0 where
  pub script : Script
  pub table : List (List ℕ)
  pub client : Client
  pub origin : Knowledge
  pub lines : List Line
  pub answers : List Answer
  pub form : AllZip (Fits script client.level) lines answers
  pub lawful : AreLawful table client (start origin) [] lines answers

-- the line at a place, and its answer
pub record IsAnsweredAt (lines : List Line) (answers : List Answer) (place : ℕ) (line : Line) (answer : Answer) : Type 0 where
  pub within : place < length lines
  pub line_is : line ≡ slice_index_or lines place line
  pub answer_is : answer ≡ slice_index_or answers place answer

-- the needs of a line that was answered with a cell
pub data ShowsNeeds : Line → Answer → List (ℕ × List (ℕ × ℕ)) → Type 0 where
  by_get : (key : ℕ) (named : Option ℕ) (worker : ℕ) (shown : Shown) (needs : List (ℕ × List (ℕ × ℕ))) → shown.needs ≡ Some needs → ShowsNeeds (lines.Get key named) (answers.Got worker shown) needs
  by_await : (key session count worker : ℕ) (shown : Shown) (needs : List (ℕ × List (ℕ × ℕ))) → shown.needs ≡ Some needs → ShowsNeeds (lines.Await key session count) (answers.Got worker shown) needs

-- the state before the line at a place
abbrev pub state_before : Client → State → List Line → List Answer → ℕ → State
state_before client state lines answers place = state_after client state (take place lines) (take place answers)

-- the answer at a place shows these needs
pub record ShowsNeedsIn (session : AnsweredSession) (place : ℕ) (needs : List (ℕ × List (ℕ × ℕ))) : Type 0 where
  pub line : Line
  pub answer : Answer
  pub at : IsAnsweredAt session.lines session.answers place line answer
  pub shows : ShowsNeeds line answer needs

-- the answer at a place shows this clock of the key
pub record ShowsClockIn (session : AnsweredSession) (place key : ℕ) (clock : List (ℕ × ℕ)) : Type 0 where
  pub line : Line
  pub answer : Answer
  pub at : IsAnsweredAt session.lines session.answers place line answer
  pub shows : ShowsAt line answer key clock

-- the answer at a place accepts this put on the key
pub record AcceptsIn (session : AnsweredSession) (place key : ℕ) (put : puts.Put) : Type 0 where
  pub line : Line
  pub answer : Answer
  pub at : IsAnsweredAt session.lines session.answers place line answer
  pub accepts : Contains (puts_by session.client (state_before session.client (start session.origin) session.lines session.answers place) line answer) (key, put)

-- In a causal session, later replies on a key cover the earlier ones.
abbrev pub LaterRepliesCover : AnsweredSession → Type 0
LaterRepliesCover session =
    session.client.level ≡ Causal
    → (i j key : ℕ) (earlier later : List (ℕ × ℕ)) → i < j → ShowsClockIn session i key earlier → ShowsClockIn session j key later
    → IsTrue (covers later earlier)

-- In a causal session, later replies on a key cover what the needs that an earlier reply shows have of the key.
abbrev pub ShownNeedsAreCoveredLater : AnsweredSession → Type 0
ShownNeedsAreCoveredLater session =
    session.client.level ≡ Causal
    → (i j key : ℕ) (needs : List (ℕ × List (ℕ × ℕ))) (later : List (ℕ × ℕ)) → i < j → ShowsNeedsIn session i needs → ShowsClockIn session j key later
    → IsTrue (covers later (clock_at key needs))

-- A put has seen strictly more than each clock of its key that an earlier reply shows.
abbrev pub PutsOvertakeShownClocks : AnsweredSession → Type 0
PutsOvertakeShownClocks session =
    (i j key : ℕ) (clock : List (ℕ × ℕ)) (put : puts.Put) → i < j → ShowsClockIn session i key clock → AcceptsIn session j key put
    → IsTrue (is_below clock put.seen)

-- So it has seen strictly more than each version whose clock the shown clock covers.
abbrev pub PutsOvertakeCoveredVersions : AnsweredSession → Type 0
PutsOvertakeCoveredVersions session =
    (i j key : ℕ) (clock : List (ℕ × ℕ)) (put : puts.Put) (version : Version) → i < j → ShowsClockIn session i key clock → AcceptsIn session j key put
    → IsTrue (covers clock version.clock) → IsTrue (is_below version.clock put.seen)
