-- Which command the words after the program's name ask for.
use Rattle.std.specs.Prelude.{ℕ, nat_le, List, [], ◌∷◌, length, map, Option, Some, None, String, string_bytes, codes, if◌then◌else◌}
use Rattle.std.specs.Global.{Global}
use Rattle.std.specs.Option.{option_map}
use Rattle.std.specs.Str.{bytes_eq}
use Rattle.script_reader.specs.Words.{number_said}
use Rattle.anna_run.specs.declared.words.Command.{Command}
use Rattle.anna_run.specs.declared.words.Command.TheVariants.{Big, Check, Run}
use Rattle.anna_run.specs.declared.words.Gossip.TheVariants.{InOrder, Scrambled}

-- the number that a word of at most 20 digits writes
abbrev pub number_in : List ℕ → Option ℕ
number_in word = if nat_le (length word) 20 then number_said word else None

-- the one word `run` or `check`, or the word `big`, or the words `run` and `--scramble`, and a number
abbrev pub command_of : List (List ℕ) → Option Command
command_of [] = None
command_of (word ∷ []) = if bytes_eq word (codes "run") then Some (Run InOrder) else (if bytes_eq word (codes "check") then Some Check else None)
command_of (word ∷ number ∷ []) = if bytes_eq word (codes "big") then option_map Big (number_in number) else None
command_of (word ∷ how ∷ number ∷ []) =
    if bytes_eq word (codes "run") then (if bytes_eq how (codes "--scramble") then option_map (λ its. Run (Scrambled its)) (number_in number) else None) else None
command_of (word ∷ how ∷ number ∷ next ∷ words) = None

-- the command that these words ask for
abbrev pub command_in : List (String Global) → Option Command
command_in words = command_of (map string_bytes words)
