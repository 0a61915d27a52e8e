-- The grammar of scripts: which texts are a script, and why another is none.
use Rattle.std.specs.Prelude.{◌≡◌, ℕ, ◌+◌, ◌<◌, ◌≤◌, ◌⊎◌, List, ◌∷◌, ◌++◌, length, Some, None, Result, Ok, Err, IsTrue, IsFalse, ⊤}
use Rattle.std.specs.List.{before_first}
use Rattle.session_known.specs.declared.script.Script.{Script}
use Rattle.script_reader.specs.Codes.{number_of_code}
use Rattle.script_reader.specs.Faults.{code_after}
use Rattle.script_reader.specs.Lines.{script_lines, statements_of, is_end_line, has_end}
use Rattle.script_reader.specs.Said.{named_in, script_said}
use Rattle.script_reader.specs.declared.code.Code.{Code}
use Rattle.script_reader.specs.declared.code.Code.TheVariants as codes_of
use Rattle.script_reader.specs.declared.fault.ScriptFault.{ScriptFault}
use Rattle.script_reader.specs.declared.fault.ScriptFault.TheVariants.{Refused, NoMemory}

-- the greatest length of a script, in bytes
abbrev pub most_bytes : ℕ
most_bytes = 1048576

-- the sessions that an await may name in a script of these lines: those of the session lines before the first end line
abbrev pub sessions_named : List (List ℕ) → List (List ℕ)
sessions_named lines = named_in (before_first is_end_line (statements_of lines))

-- no line is at fault after those before it, where an await may name these sessions
abbrev pub AreInOrder : List (List ℕ) → List (List ℕ) → Type 0
AreInOrder named lines = (before after : List (List ℕ)) (line : List ℕ) → lines ≡ before ++ line ∷ after → code_after named before line ≡ None

-- The lines are a script: none is at fault, and there is an end.
pub record IsScriptOf (named lines : List (List ℕ)) (script : Script) : Type 0 where
  pub in_order : AreInOrder named lines
  pub ended : IsTrue (has_end lines)
  pub says : script ≡ script_said named (statements_of lines)

-- the first line at fault, counted from 1, and its code
pub record IsFirstFault (named lines : List (List ℕ)) (at code : ℕ) : Type 0 where
  pub before : List (List ℕ)
  pub line : List ℕ
  pub after : List (List ℕ)
  pub place : lines ≡ before ++ line ∷ after
  pub in_order : AreInOrder named before
  pub why : Code
  pub fault : code_after named before line ≡ Some why
  pub counted : at ≡ length before + 1
  pub code_is : code ≡ number_of_code why

-- no line is at fault, and there is no end, which is told at the line where it would stand
pub record IsEndMissing (named lines : List (List ℕ)) (at code : ℕ) : Type 0 where
  pub in_order : AreInOrder named lines
  pub no_end : IsFalse (has_end lines)
  pub counted : at ≡ length lines + 1
  pub code_is : code ≡ number_of_code codes_of.NoEnd

-- more bytes than a script may have, which is told at line 0, whatever they say
pub record IsTooLong (text : List ℕ) (at code : ℕ) : Type 0 where
  pub bytes : most_bytes < length text
  pub counted : at ≡ 0
  pub code_is : code ≡ number_of_code codes_of.TooLong

-- The text is this script.
pub record IsScript (text : List ℕ) (script : Script) : Type 0 where
  pub short : length text ≤ most_bytes
  pub lines : IsScriptOf (sessions_named (script_lines text)) (script_lines text) script

-- The text is refused at this line with this code.
abbrev pub IsRefused : List ℕ → ℕ → ℕ → Type 0
IsRefused text at code =
    IsTooLong text at code
    ⊎ ((length text ≤ most_bytes)
    × (IsFirstFault (sessions_named (script_lines text)) (script_lines text) at code ⊎ IsEndMissing (sessions_named (script_lines text)) (script_lines text) at code))

-- The fault says why the text is no script; of want of memory nothing is said.
abbrev pub IsWhyNoScript : List ℕ → ScriptFault → Type 0
IsWhyNoScript text (Refused line code) = IsRefused text line code
IsWhyNoScript text NoMemory = ⊤

-- What was read is this script, unless memory ran out.
abbrev pub IsReadAs : Script → Result Script ScriptFault → Type 0
IsReadAs script (Ok found) = found ≡ script
IsReadAs script (Err (Refused line code)) = ⊥
IsReadAs script (Err NoMemory) = ⊤

-- The text was refused at this line with this code, unless memory ran out.
abbrev pub IsRefusedAs : ℕ → ℕ → Result Script ScriptFault → Type 0
IsRefusedAs at code (Ok found) = ⊥
IsRefusedAs at code (Err (Refused line why)) = (line ≡ at) × (why ≡ code)
IsRefusedAs at code (Err NoMemory) = ⊤
