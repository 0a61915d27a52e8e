-- How lines are read one after another.
use Rattle.std.specs.Prelude.{◌≡◌, ℕ, Bool, false, if◌then◌else◌, List, ◌⊎◌, Option, Some, None, Result, MatchResult, ⊤}
use Rattle.script_reader.specs.Codes.{number_of_code}
use Rattle.script_reader.specs.Faults.{code_said}
use Rattle.script_reader.specs.Grammar.{IsFirstFault, IsEndMissing}
use Rattle.script_reader.specs.Keywords.{is_end, is_session}
use Rattle.script_reader.specs.Lines.{Statement, statement_of, word}
use Rattle.script_reader.specs.Reader.{so_far, IsKept, IsFaultOf}
use Rattle.script_reader.specs.Said.{with_name}
use Rattle.script_reader.specs.Steps.{next_context}
use Rattle.script_reader.specs.declared.fault.ScriptFault.{ScriptFault}
use Rattle.script_reader.specs.declared.fault.ScriptFault.TheVariants.{Refused, NoMemory}
use Rattle.script_reader.specs.declared.reader.LineFault.{LineFault}
use Rattle.script_reader.specs.declared.reader.LineFault.TheVariants as line_faults
use Rattle.script_reader.specs.declared.reader.Reader.{Reader}

-- A line was read after others, of which one is an end line where `ended` is true; `now` says the same with it.
abbrev pub HasReadLine : Reader → Reader → Bool → Bool → List ℕ → Option Statement → Type 0
HasReadLine old new ended now line None = (new ≡ old) × (now ≡ ended)
HasReadLine old new ended now line (Some statement) =
    (code_said (so_far old) ended line (Some statement) ≡ None) × IsKept new × (so_far new ≡ next_context (so_far old) statement.keyword statement.words) × (now ≡ is_end statement.keyword)

-- A line was read, or its fault told.
abbrev pub ReadsLine : Reader → Bool → List ℕ → Result Bool LineFault → Reader → Type 0
ReadsLine old ended line result new =
    MatchResult result (λ now. HasReadLine old new ended now line (statement_of line)) (IsFaultOf (code_said (so_far old) ended line (statement_of line)))

-- The names with that of a session line, where it is one.
abbrev pub named_after : List (List ℕ) → Option Statement → List (List ℕ)
named_after names None = names
named_after names (Some statement) = if is_session statement.keyword then with_name names (word 0 statement) else names

-- the line is an end line
abbrev pub says_end : Option Statement → Bool
says_end None = false
says_end (Some statement) = is_end statement.keyword

-- the refusal of a line, counted from 1
abbrev pub fault_at : ℕ → LineFault → ScriptFault
fault_at line (line_faults.Code code) = Refused line (number_of_code code)
fault_at line line_faults.NoMemory = NoMemory

-- The fault says why the lines are no script; of want of memory nothing is said.
abbrev pub IsWhyNoLines : List (List ℕ) → List (List ℕ) → ScriptFault → Type 0
IsWhyNoLines named lines (Refused at code) = IsFirstFault named lines at code ⊎ IsEndMissing named lines at code
IsWhyNoLines named lines NoMemory = ⊤
