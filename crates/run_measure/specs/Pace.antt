-- How often a session asks in vain.
use Rattle.std.specs.Prelude.{◌≡◌, ◌⊎◌, ℕ, ◌+◌, ◌-◌, ◌<◌, ◌≤◌, Bool, List, length, slice_get, Option, Some}
use Rattle.session_known.specs.declared.report.Answer.TheVariants as answers
use Rattle.session_known.specs.declared.script.Line.{Line}
use Rattle.session_known.specs.declared.script.Line.TheVariants as lines
use Rattle.session_proxy.specs.Share.{lacks}
use Rattle.session_proxy.specs.State.{Course, open_line}
use Rattle.session_proxy.specs.declared.progress.Progress.{Progress}
use Rattle.session_proxy.specs.declared.progress.Progress.TheVariants as progress

-- how many asks of a line came to nothing: all that were sent, but for one whose reply is awaited
abbrev pub back_of : Option Line → ℕ → Bool → ℕ
back_of (Some (lines.Get key named)) out waits = out - lacks waits
back_of (Some (lines.Await key session count)) out waits = out - lacks waits
back_of other out waits = 0

-- and so of the open line
abbrev pub asks_back : Course → ℕ
asks_back course = back_of (open_line course) course.out course.waits

-- The answer at a place, an end of asking, says one ask more than had come to nothing on its line: on the line that was open as many as had, on a later
-- one none.
abbrev pub SaysAsks : ℕ → ℕ → Course → Type 0
SaysAsks asks place before = ((place ≡ length before.answers) × (asks ≡ asks_back before + 1)) ⊎ ((length before.answers < place) × (asks ≡ 1))

-- A session went on, and so many of its asks came to nothing meanwhile, all on the line that is open now; the last ask of a line that ended its asking
-- is not counted, and it is the one ask of that line, on top of those that had come to nothing before.
pub record IsPaced (rests : ℕ) (before now : Course) : Type 0 where
  pub same : length now.answers ≡ length before.answers → asks_back now ≡ asks_back before + rests
  pub next : length before.answers < length now.answers → asks_back now ≡ rests
  pub ends : (place asks worker : ℕ) (clock : List (ℕ × ℕ)) → length before.answers ≤ place → slice_get now.answers place ≡ Some (answers.Again asks worker clock)
      → SaysAsks asks place before

-- how many asks come to nothing in a poll, by its answer
abbrev pub rests_by : Progress → ℕ
rests_by progress.Rest = 1
rests_by answer = 0
