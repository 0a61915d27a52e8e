-- How a step of a proxy begins: with the open line, and what is to do for it.
use Rattle.std.specs.Prelude.{◌≡◌, ◌≢◌, ◌⊎◌, Bool, true, false, if◌then◌else◌, length, Some, Result, Ok, Err}
use Rattle.lattice_laws.specs.declared.lattice.NoMemory.{NoMemory}
use Rattle.session_known.specs.declared.script.Line.{Line}
use Rattle.session_proxy.specs.Beginning.{Begins}
use Rattle.session_proxy.specs.Local.{StaysAs, course_of}
use Rattle.session_proxy.specs.State.{open_line}
use Rattle.session_proxy.specs.declared.local.Begun.{Begun}
use Rattle.session_proxy.specs.declared.local.Begun.TheVariants as ways
use Rattle.session_proxy.specs.declared.local.Local.{Local}
use Rattle.session_proxy.specs.declared.steps.Task.{Task}
use Rattle.session_proxy.specs.declared.steps.Task.TheVariants as tasks

-- what is to do for a line that was begun
abbrev pub goes_on : Begun → Bool → Task
goes_on ways.Nothing waits = tasks.Answered
goes_on (ways.Puts puts) waits = tasks.Put
goes_on (ways.Asks clock) waits = if waits then tasks.Hear else tasks.Ask

-- the open line is begun, and maybe answered
pub record BeginsOpen (answered : Bool) (before now : Local) : Type 0 where
  pub nothing : before.begun ≡ ways.Nothing
  pub line : Line
  pub line_is : open_line (course_of before) ≡ Some line
  pub begins : Begins line (Ok answered) before.session now.session before.answers.items now.answers.items before.begun now.begun
  pub course_is : course_of now ≡ record (course_of before) { client = now.session.client; answers = now.answers.items }
  pub made_is : now.made ≡ before.made

-- and so by the answer
abbrev pub Opens : Result Bool NoMemory → Local → Local → Type 0
Opens (Ok answered) before now = BeginsOpen answered before now
Opens (Err want) before now = StaysAs before now

-- what is to do next; it was begun, or is begun now
abbrev pub Nexts : Result Task NoMemory → Local → Local → Type 0
Nexts (Ok tasks.Ended) before now = StaysAs before now × (length before.answers.items ≡ length before.lines)
Nexts (Ok tasks.Answered) before now = BeginsOpen true before now
Nexts (Ok next) before now = (next ≡ goes_on now.begun now.waits) × (StaysAs before now ⊎ BeginsOpen false before now) × (length before.answers.items ≢ length before.lines)
Nexts (Err want) before now = StaysAs before now × (length before.answers.items ≢ length before.lines)
