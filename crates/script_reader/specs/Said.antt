-- The script that statements say: each part is read off the whole list.
use Rattle.std.specs.Prelude.{ℕ, ◌+◌, min, Bool, false, if◌then◌else◌, List, [], ◌∷◌, ◌++◌, map, drop, fold, codes, Option, Some, None, unwrap_or, position}
use Rattle.std.specs.List.{slice_get, list_any}
use Rattle.std.specs.Option.{option_map, option_and_then}
use Rattle.std.specs.Str.{bytes_eq}
use Rattle.composed_value.specs.declared.kind.Kind.{Kind}
use Rattle.composed_value.specs.declared.kind.Kind.TheVariants as kinds
use Rattle.composed_value.specs.declared.payload.Payload.{Payload}
use Rattle.composed_value.specs.declared.payload.Payload.TheVariants as payloads
use Rattle.placement.specs.declared.config.Config.{Config}
use Rattle.placement.specs.declared.config.KeyPlace.{KeyPlace}
use Rattle.session_known.specs.declared.script.Level.{Level}
use Rattle.session_known.specs.declared.script.Level.TheVariants.{Eventual}
use Rattle.session_known.specs.declared.script.Line.{Line}
use Rattle.session_known.specs.declared.script.Line.TheVariants as lines
use Rattle.session_known.specs.declared.script.Script.{Script}
use Rattle.session_known.specs.declared.script.SessionPlan.{SessionPlan}
use Rattle.script_reader.specs.Keywords.{is_factor, is_round, is_key, is_session, is_command}
use Rattle.script_reader.specs.Lines.{Statement, those, word}
use Rattle.script_reader.specs.Words.{number_of, kind_said, level_said, payload_said}
use Rattle.script_reader.specs.declared.keyword.Keyword.{Keyword}
use Rattle.script_reader.specs.declared.keyword.Keyword.TheVariants.{Put, Get, Await, Begin, Commit}

-- the place of a name among names, counted from 0
abbrev pub place_of : List (List ℕ) → List ℕ → Option ℕ
place_of names name = position (bytes_eq name) names

-- the number of a name among names, counted from 1
abbrev pub number_in : List (List ℕ) → List ℕ → ℕ
number_in names name = unwrap_or (place_of names name) 0 + 1

-- The number of a session among those that an await may name. Sessions have numbers up to 65535; a script has at most 16 of them.
abbrev pub session_number : List (List ℕ) → List ℕ → ℕ
session_number named session = min (number_in named session) 65535

-- the names with one more, where it is new
abbrev pub with_name : List (List ℕ) → List ℕ → List (List ℕ)
with_name names name = if list_any (bytes_eq name) names then names else names ++ name ∷ []

-- The sessions of a script, which an await may name: those of all session lines before the first end line, each once.
abbrev pub named_in : List Statement → List (List ℕ)
named_in statements = fold with_name [] (map (word 0) (those is_session statements))

-- the number that the first of these statements says, or else this one
abbrev pub number_or : ℕ → List Statement → ℕ
number_or other [] = other
number_or other (statement ∷ statements) = number_of (word 0 statement)

-- the numbers of a key, of the words after `key`: its pins, or its own replication factor
abbrev pub key_numbers : List (List ℕ) → List ℕ
key_numbers words = map number_of (drop 3 words)

-- the words of a key after its kind say a replication factor
abbrev pub says_factor : List (List ℕ) → Bool
says_factor [] = false
says_factor (by ∷ numbers) = bytes_eq by (codes "factor")

-- the numbers of a key are a replication factor, of the words after `key`
abbrev pub is_by_factor : List (List ℕ) → Bool
is_by_factor words = says_factor (drop 2 words)

-- what the numbers of a key say, by whether they are a replication factor: its pins, and the factor
abbrev pub pins_by : Bool → List ℕ → List ℕ
pins_by by_factor numbers = if by_factor then [] else numbers

abbrev pub factor_by : Bool → List ℕ → Option ℕ
factor_by by_factor numbers = if by_factor then slice_get numbers 0 else None

-- the pins of a key, of the words after `key`
abbrev pub pins_said : List (List ℕ) → List ℕ
pins_said words = pins_by (is_by_factor words) (key_numbers words)

-- and its own replication factor
abbrev pub factor_said : List (List ℕ) → Option ℕ
factor_said words = factor_by (is_by_factor words) (key_numbers words)

abbrev pub key_said : Statement → KeyPlace
key_said statement = record { name = word 0 statement; pins = pins_said statement.words; factor = factor_said statement.words }

abbrev pub kind_in : Statement → Kind
kind_in statement = unwrap_or (kind_said (word 1 statement)) kinds.Max

abbrev pub level_in : Statement → Level
level_in statement = unwrap_or (level_said (word 1 statement)) Eventual

-- the name of the session that a session comes after, of the words after `session`, where one is named
abbrev pub predecessor_in : List (List ℕ) → Option (List ℕ)
predecessor_in words = slice_get words 3

-- and its number
abbrev pub after_said : List (List ℕ) → List (List ℕ) → Option ℕ
after_said named words = option_map (session_number named) (predecessor_in words)

-- the workers, which the second line says, the replication factor, which is 1 where no line says another, and the keys
abbrev pub config_said : List Statement → Config
config_said statements = record {
  workers = number_or 0 (drop 1 statements);
  factor = number_or 1 (those is_factor statements);
  keys = map key_said (those is_key statements);
}

-- the payload that these words say for the key
abbrev pub payload_for : List (List ℕ) → List Kind → List ℕ → List (List ℕ) → Option Payload
payload_for keys of_keys key words = option_and_then (λ kind. payload_said kind words) (option_and_then (λ place. slice_get of_keys place) (place_of keys key))

-- the command that a command line says, where these are the keys, their kinds, and the sessions that an await may name
abbrev pub line_said : List (List ℕ) → List Kind → List (List ℕ) → Keyword → List (List ℕ) → Line
line_said keys of_keys named Put (key ∷ words) = lines.Put (number_in keys key) (unwrap_or (payload_for keys of_keys key words) payloads.On)
line_said keys of_keys named Get (key ∷ []) = lines.Get (number_in keys key) None
line_said keys of_keys named Get (key ∷ worker ∷ words) = lines.Get (number_in keys key) (Some (number_of worker))
line_said keys of_keys named Await (key ∷ session ∷ count ∷ words) = lines.Await (number_in keys key) (session_number named session) (number_of count)
line_said keys of_keys named Begin words = lines.Begin
line_said keys of_keys named Commit words = lines.Commit
line_said keys of_keys named keyword words = lines.Abort

-- the command lines up to the next session
abbrev pub own_commands : List Statement → List Statement
own_commands [] = []
own_commands (statement ∷ statements) =
    if is_session statement.keyword then [] else
    (if is_command statement.keyword then statement ∷ own_commands statements else own_commands statements)

-- each session has the command lines between its line and the next session's
abbrev pub sessions_said : List (List ℕ) → List Kind → List (List ℕ) → List Statement → List SessionPlan
sessions_said keys of_keys named [] = []
sessions_said keys of_keys named (statement ∷ statements) =
    if is_session statement.keyword
    then record {
      name = word 0 statement;
      level = level_in statement;
      after = after_said named statement.words;
      lines = map (λ line. line_said keys of_keys named line.keyword line.words) (own_commands statements);
    }
    ∷ sessions_said keys of_keys named statements
    else sessions_said keys of_keys named statements

-- The script that the statements say, where an await may name these sessions. The first line says its version.
abbrev pub script_said : List (List ℕ) → List Statement → Script
script_said named statements = record {
  version = number_or 1 statements;
  config = config_said statements;
  round = number_or 4 (those is_round statements);
  kinds = map kind_in (those is_key statements);
  sessions = sessions_said (map (word 0) (those is_key statements)) (map kind_in (those is_key statements)) named statements;
}
