-- When a report has a script's form: it could be the answer to this script, whether or not it is lawful. Numbers of puts, Lamport
-- numbers and counts have 64 bits, numbers of held puts and of asks 32.
use Rattle.std.specs.Prelude.{◌≡◌, ℕ, ◌<◌, ◌≤◌, ◌^◌, ◌==◌, List, length, map, filter, flat_map, Option, Some, None, All, ⊤}
use Rattle.std.specs.List.{AllZip, list_any, range_with_len}
use Rattle.lattice_laws.specs.declared.maybe.Maybe.TheVariants.{Is}
use Rattle.clock_lattice.specs.Clock.{IsClock}
use Rattle.clock_lattice.specs.Needs.{IsNeeds}
use Rattle.composed_value.specs.Kind.{kind_of_value}
use Rattle.composed_value.specs.Value.{IsValue}
use Rattle.composed_value.specs.declared.kind.Kind.{Kind}
use Rattle.composed_value.specs.declared.value.Value.{Value}
use Rattle.composed_value.specs.declared.value.Value.TheVariants as values
use Rattle.placement.specs.Asked.{replicas_of}
use Rattle.placement.specs.Config.{IsOneOf}
use Rattle.composed_value.specs.Keyed.{kind_at}
use Rattle.session_known.specs.Script.{IsValidScript}
use Rattle.session_known.specs.declared.report.Answer.{Answer}
use Rattle.session_known.specs.declared.report.Answer.TheVariants as answers
use Rattle.session_known.specs.declared.report.FinalCell.{FinalCell}
use Rattle.session_known.specs.declared.report.Report.{Report}
use Rattle.session_known.specs.declared.report.Shown.{Shown}
use Rattle.session_known.specs.declared.script.Level.{Level}
use Rattle.session_known.specs.declared.script.Level.TheVariants.{Committed, Causal}
use Rattle.session_known.specs.declared.script.Line.{Line}
use Rattle.session_known.specs.declared.script.Line.TheVariants as lines
use Rattle.session_known.specs.declared.script.Script.{Script}

-- the sessions in a clock are the script's
abbrev pub NamesSessions : Script → List (ℕ × ℕ) → Type 0
NamesSessions script clock = All (λ entry. IsOneOf (length script.sessions) entry.0) clock

-- a clock in form
pub record IsClockIn (script : Script) (clock : List (ℕ × ℕ)) : Type 0 where
  pub is_clock : IsClock clock
  pub sessions : NamesSessions script clock

-- the sessions in a value are the script's
abbrev pub ValueNamesSessions : Script → Value → Type 0
ValueNamesSessions script (values.Last (Is stamped)) = IsOneOf (length script.sessions) stamped.session
ValueNamesSessions script (values.Versions versions) = All (λ version. NamesSessions script version.clock) versions
ValueNamesSessions script (values.Counter sums) = All (λ entry. IsOneOf (length script.sessions) entry.0.session) sums
ValueNamesSessions script (values.OrSet set) = All (λ insert. IsOneOf (length script.sessions) insert.dot.session) set.inserts × All (λ removal. NamesSessions script removal.1) set.removals
ValueNamesSessions script value = ⊤

-- a counter has no more dots than a script has commands
abbrev pub HasFewDots : Value → Type 0
HasFewDots (values.Counter sums) = length sums ≤ 4096
HasFewDots value = ⊤

-- a value in form
pub record IsValueIn (script : Script) (kind : Kind) (value : Value) : Type 0 where
  pub is_value : IsValue value
  pub of_kind : kind_of_value value ≡ kind
  pub sessions : ValueNamesSessions script value
  pub few : HasFewDots value

-- needs in form
pub record AreNeedsIn (script : Script) (needs : List (ℕ × List (ℕ × ℕ))) : Type 0 where
  pub are_needs : IsNeeds needs
  pub keys : All (λ entry. IsOneOf (length script.config.keys) entry.0) needs
  pub sessions : All (λ entry. NamesSessions script entry.1) needs

-- needs are shown exactly in causal sessions
abbrev pub NeedsFit : Script → Level → Option (List (ℕ × List (ℕ × ℕ))) → Type 0
NeedsFit script Causal (Some needs) = AreNeedsIn script needs
NeedsFit script Causal None = ⊥
NeedsFit script level None = ⊤
NeedsFit script level (Some needs) = ⊥

-- a worker of the script shows a cell of the key in form
pub record IsShownIn (script : Script) (level : Level) (key worker : ℕ) (shown : Shown) : Type 0 where
  pub worker_is : IsOneOf script.config.workers worker
  pub clock_is : IsClockIn script shown.clock
  pub top_fits : shown.top < 2 ^ 64
  pub value_is : IsValueIn script (kind_at script.kinds key) shown.value
  pub needs_are : NeedsFit script level shown.needs

-- only a causal session is told to ask again
pub record IsAgainIn (script : Script) (level : Level) (asks worker : ℕ) (clock : List (ℕ × ℕ)) : Type 0 where
  pub causal : level ≡ Causal
  pub asks_fit : asks < 2 ^ 32
  pub worker_is : IsOneOf script.config.workers worker
  pub clock_is : IsClockIn script clock

-- the answer is one that the line may have
abbrev pub Fits : Script → Level → Line → Answer → Type 0
Fits script level (lines.Put key payload) (answers.Put number lamport) = (number < 2 ^ 64) × (lamport < 2 ^ 64)
Fits script level (lines.Put key payload) answers.Worn = ⊤
Fits script level (lines.Put key payload) answers.Held = level ≡ Committed
Fits script level (lines.Get key named) (answers.Got worker shown) = IsShownIn script level key worker shown
Fits script level (lines.Get key named) (answers.Again asks worker clock) = IsAgainIn script level asks worker clock
Fits script level (lines.Await key session count) (answers.Got worker shown) = IsShownIn script level key worker shown
Fits script level (lines.Await key session count) (answers.Again asks worker clock) = IsAgainIn script level asks worker clock
Fits script level lines.Begin answers.Begun = ⊤
Fits script level lines.Commit (answers.Committed puts lamport) = (puts < 2 ^ 32) × (lamport < 2 ^ 64) × (puts ≡ 0 → lamport ≡ 0)
Fits script level lines.Commit answers.Worn = ⊤
Fits script level lines.Abort (answers.Aborted puts) = puts < 2 ^ 32
Fits script level line answer = ⊥

-- the replicas of a key, ascending
abbrev pub replicas_ascending : Script → List (List ℕ) → ℕ → List ℕ
replicas_ascending script table key = filter (λ worker. list_any (λ replica. replica == worker) (replicas_of table key)) (range_with_len 1 script.config.workers)

-- the final cells' keys and workers: for each key in script order each of its replicas, ascending
abbrev pub final_places : Script → List (List ℕ) → List (ℕ × ℕ)
final_places script table = flat_map (λ key. map (λ worker. (key, worker)) (replicas_ascending script table key)) (range_with_len 1 (length script.config.keys))

-- a final cell in form
pub record IsFinalIn (script : Script) (cell : FinalCell) : Type 0 where
  pub clock_is : IsClockIn script cell.clock
  pub top_fits : cell.top < 2 ^ 64
  pub value_is : IsValueIn script (kind_at script.kinds cell.key) cell.value

-- The report has the script's form, where the keys live as the table says.
pub record HasForm (script : Script) (table : List (List ℕ)) (report : Report) : Type 0 where
  pub answers : AllZip (λ plan answers. AllZip (Fits script plan.level) plan.lines answers) script.sessions report.answers
  pub places : map (λ cell. (cell.key, cell.worker)) report.finals ≡ final_places script table
  pub finals : All (IsFinalIn script) report.finals

-- The report has the form of the script, which is valid where its keys live so.
abbrev pub HasFormSomewhere : Script → Report → Type 0
HasFormSomewhere script report = (table : List (List ℕ)) × IsValidScript script table × HasForm script table report
