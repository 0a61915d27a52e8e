-- Clocks with the words and keys that they stand with, read up to the byte that closes them.
use Rattle.std.specs.Prelude.{ℕ, List, ◌++◌, length, codes}
use Rattle.session_known.specs.Form.{IsClockIn}
use Rattle.placement.specs.Config.{IsOneOf}
use Rattle.session_known.specs.Script.{key_name}
use Rattle.session_known.specs.declared.script.Script.{Script}
use Rattle.report_lines.specs.Text.{clock_word}

-- a word with a clock before the closing parenthesis: `WORD(CLOCK`
abbrev pub open_clocked : Script → List ℕ × List (ℕ × ℕ) → List ℕ
open_clocked script clocked = clocked.0 ++ (codes "(" ++ clock_word script clocked.1)

-- a key with a clock in form, which may be empty
abbrev pub IsNeedIn : Script → ℕ × List (ℕ × ℕ) → Type 0
IsNeedIn script entry = IsOneOf (length script.config.keys) entry.0 × IsClockIn script entry.1

-- its text before the closing brace: `KEY{CLOCK`
abbrev pub open_need : Script → ℕ × List (ℕ × ℕ) → List ℕ
open_need script entry = key_name script entry.0 ++ (codes "{" ++ clock_word script entry.1)
