-- The parts of answers, as they are read.
use Rattle.std.specs.Prelude.{ℕ, ◌<◌, ◌^◌, List, [], ◌∷◌, length, codes, Option}
use Rattle.placement.specs.Config.{IsOneOf}
use Rattle.session_known.specs.Script.{IsValid}
use Rattle.session_known.specs.Form.{Fits, IsClockIn, IsValueIn, NeedsFit, IsShownIn, IsAgainIn}
use Rattle.composed_value.specs.Keyed.{kind_at}
use Rattle.composed_value.specs.declared.payload.Payload.{Payload}
use Rattle.session_known.specs.declared.report.Answer.{Answer}
use Rattle.session_known.specs.declared.report.Answer.TheVariants as answers
use Rattle.session_known.specs.declared.report.Shown.{Shown}
use Rattle.session_known.specs.declared.script.Level.{Level}
use Rattle.session_known.specs.declared.script.Line.{Line}
use Rattle.session_known.specs.declared.script.Line.TheVariants as lines
use Rattle.session_known.specs.declared.script.Script.{Script}
use Rattle.report_lines.specs.Text.{answer_words, put_words, awaited_words, cell_words, needs_words, shown_words, again_words}
use Rattle.report_reader.specs.Reads.{Reads}
use Rattle.report_reader.specs.declared.asked.Asked.{Asked}

-- a key of a valid script is asked for
pub record CanBeAsked (asked : Asked) : Type 0 where
  pub valid : IsValid asked.script.now
  pub key : IsOneOf (length asked.script.now.config.keys) asked.key

-- a cell of the key in form, with needs where a session of the level is shown them
pub record IsShownCellIn (script : Script) (level : Level) (key : ℕ) (shown : Shown) : Type 0 where
  pub clock_is : IsClockIn script shown.clock
  pub top_fits : shown.top < 2 ^ 64
  pub value_is : IsValueIn script (kind_at script.kinds key) shown.value
  pub needs_are : NeedsFit script level shown.needs

-- the words of such a cell
abbrev pub shown_cell_words : Script → Shown → List (List ℕ)
shown_cell_words script shown = cell_words script shown.clock shown.top shown.value (needs_words script shown.needs)

-- an answer that shows what a worker showed
abbrev pub IsGotIn : Script → Level → ℕ → Answer → Type 0
IsGotIn script level key (answers.Got worker shown) = IsShownIn script level key worker shown
IsGotIn script level key answer = ⊥

-- what such an answer ends with
abbrev pub got_words : Script → Answer → List (List ℕ)
got_words script (answers.Got worker shown) = shown_words script worker shown
got_words script answer = []

-- an answer that shows where asking ended
abbrev pub IsEndedIn : Script → Level → Answer → Type 0
IsEndedIn script level (answers.Again asks worker clock) = IsAgainIn script level asks worker clock
IsEndedIn script level answer = ⊥

-- what such an answer ends with
abbrev pub ended_words : Script → Answer → List (List ℕ)
ended_words script (answers.Again asks worker clock) = again_words script asks worker clock
ended_words script answer = []

-- an end of asking whose number of asks, worker and clock are these words
abbrev pub again_of : List ℕ → List ℕ → List ℕ → List (List ℕ)
again_of asks worker clock = codes "after" ∷ asks ∷ worker ∷ codes "clock" ∷ clock ∷ []

-- ---- what was read

-- the answer to the line
abbrev pub ReadsAnswer : Script → Level → Line → List (List ℕ) → Option Answer → Type 0
ReadsAnswer script level line words read = Reads (Fits script level line) (answer_words script line) words read

-- the answer to a put of the key, whatever is put
abbrev pub ReadsPut : Script → Level → ℕ → List (List ℕ) → Option Answer → Type 0
ReadsPut script level key words read = (payload : Payload) → ReadsAnswer script level (lines.Put key payload) words read

-- and by what stands after the key, whichever it is
abbrev pub ReadsPutEnd : Level → List (List ℕ) → Option Answer → Type 0
ReadsPutEnd level words read = (script : Script) (key : ℕ) → ReadsPut script level key (put_words script key words) read

-- the answer to a get of the key, whichever worker the line names
abbrev pub ReadsGet : Script → Level → ℕ → List (List ℕ) → Option Answer → Type 0
ReadsGet script level key words read = (named : Option ℕ) → ReadsAnswer script level (lines.Get key named) words read

-- the answer to an await on the key, by what stands after what is awaited
abbrev pub ReadsAwaitEnd : Script → Level → ℕ → List (List ℕ) → Option Answer → Type 0
ReadsAwaitEnd script level key words read =
    (session count : ℕ) → ReadsAnswer script level (lines.Await key session count) (codes "await" ∷ awaited_words script key session count words) read

-- the answer to a line that has the same in every script
abbrev pub ReadsAnywhere : Line → List (List ℕ) → Option Answer → Type 0
ReadsAnywhere line words read = (script : Script) (level : Level) → ReadsAnswer script level line words read

-- what a worker showed
abbrev pub ReadsGot : Script → Level → ℕ → List (List ℕ) → Option Answer → Type 0
ReadsGot script level key words read = Reads (IsGotIn script level key) (got_words script) words read

-- its cell, with needs where they are shown
abbrev pub ReadsShownCell : Script → Level → ℕ → List (List ℕ) → Option Shown → Type 0
ReadsShownCell script level key words read = Reads (IsShownCellIn script level key) (shown_cell_words script) words read

-- the needs, where they are shown
abbrev pub ReadsNeeds : Script → Level → List (List ℕ) → Option (Option (List (ℕ × List (ℕ × ℕ)))) → Type 0
ReadsNeeds script level words read = Reads (NeedsFit script level) (needs_words script) words read

-- where asking ended
abbrev pub ReadsEnded : Script → Level → List (List ℕ) → Option Answer → Type 0
ReadsEnded script level words read = Reads (IsEndedIn script level) (ended_words script) words read
