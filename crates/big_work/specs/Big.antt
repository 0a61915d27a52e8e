-- The large work of a number: a script that a generator draws, and the summary of its report.
use Rattle.std.specs.Prelude.{ℕ, zero, suc, ◌+◌, ◌-◌, ◌/◌, ◌%◌, ◌==◌, if◌then◌else◌, Bool, false, List, [], ◌∷◌, ◌++◌, codes, filter, flat_map, length, map, sum_by, take, None}
use Rattle.std.specs.List.{range_with_len}
use Rattle.std.specs.Fmt.{decimal}
use Rattle.composed_value.specs.declared.kind.Kind.{Kind}
use Rattle.composed_value.specs.declared.kind.Kind.TheVariants as kinds
use Rattle.composed_value.specs.declared.payload.Payload.{Payload}
use Rattle.composed_value.specs.declared.payload.Payload.TheVariants as payloads
use Rattle.mail_contract.specs.Scrambled.{draw_of, next_state}
use Rattle.placement.specs.declared.config.KeyPlace.{KeyPlace}
use Rattle.report_lines.specs.Text.{line_text, short_words}
use Rattle.session_known.specs.Accepted.{accepted}
use Rattle.session_known.specs.declared.report.FinalCell.{FinalCell}
use Rattle.session_known.specs.declared.report.Report.{Report}
use Rattle.session_known.specs.declared.script.Level.{Level}
use Rattle.session_known.specs.declared.script.Level.TheVariants.{Eventual, Committed, Causal}
use Rattle.session_known.specs.declared.script.Line.{Line}
use Rattle.session_known.specs.declared.script.Line.TheVariants as lines
use Rattle.session_known.specs.declared.script.Script.{Script}
use Rattle.session_known.specs.declared.script.SessionPlan.{SessionPlan}

-- ---- keys and levels

-- four kinds take turns
abbrev pub turn_kind : ℕ → Kind
turn_kind zero = kinds.Max
turn_kind (suc zero) = kinds.Or
turn_kind (suc (suc zero)) = kinds.Set
turn_kind turn = kinds.Map

-- the kind of a key, from 1
abbrev pub key_kind : ℕ → Kind
key_kind key = turn_kind ((key - 1) % 4)

-- and three levels
abbrev pub turn_level : ℕ → Level
turn_level zero = Eventual
turn_level (suc zero) = Committed
turn_level turn = Causal

-- the level of a session, from 1
abbrev pub session_level : ℕ → Level
session_level session = turn_level ((session - 1) % 3)

-- a key that lives where the ring says
abbrev pub key_place : ℕ → KeyPlace
key_place key = record { name = codes "k" ++ decimal key; pins = []; factor = None }

-- ---- commands

-- what a put brings, by the kind of its key and a draw
abbrev pub payload_of : Kind → ℕ → Payload
payload_of kinds.Max draw = payloads.Max (draw % 1000000)
payload_of kinds.Or draw = payloads.On
payload_of kinds.Set draw = payloads.Add (codes "w" ++ decimal (draw % 50))
payload_of kind draw = payloads.Field (codes "f" ++ decimal (draw % 10)) ((draw / 10) % 1000)

-- the command of three draws: of four one is a get
abbrev pub drawn_line : ℕ → ℕ → ℕ → Line
drawn_line first second third =
    if first % 4 == 3 then lines.Get (second % 32 + 1) None else lines.Put (second % 32 + 1) (payload_of (key_kind (second % 32 + 1)) third)

-- Of twenty commands of a committed session the first begins a transaction and the last commits it; these draw nothing.
abbrev pub is_begin : Level → ℕ → Bool
is_begin Committed command = command % 20 == 0
is_begin level command = false

abbrev pub is_commit : Level → ℕ → Bool
is_commit Committed command = command % 20 == 19
is_commit level command = false

-- the command of this number, from 0, where the generator is in a state, and the state after it
abbrev pub command_line : Level → ℕ → ℕ → Line
command_line level command state =
    if is_begin level command then lines.Begin
    else (if is_commit level command then lines.Commit
    else drawn_line (draw_of (next_state state)) (draw_of (next_state (next_state state))) (draw_of (next_state (next_state (next_state state)))))

abbrev pub command_state : Level → ℕ → ℕ → ℕ
command_state level command state =
    if is_begin level command then state else (if is_commit level command then state else next_state (next_state (next_state state)))

-- so many commands from a number on, and the state after them; a proof opens them by name, since a script has 3,200
unfoldable pub command_lines : Level → ℕ → ℕ → ℕ → List Line
command_lines level command zero state = []
command_lines level command (suc more) state = command_line level command state ∷ command_lines level (command + 1) more (command_state level command state)

unfoldable pub state_after : Level → ℕ → ℕ → ℕ → ℕ
state_after level command zero state = state
state_after level command (suc more) state = state_after level (command + 1) more (command_state level command state)

-- so many sessions of 400 commands from a number on, made in order
unfoldable pub session_plans : ℕ → ℕ → ℕ → List SessionPlan
session_plans session zero state = []
session_plans session (suc more) state =
    record { name = codes "s" ++ decimal session; level = session_level session; after = None; lines = command_lines (session_level session) 0 400 state }
    ∷ session_plans (session + 1) more (state_after (session_level session) 0 400 state)

-- ---- the script

-- Four workers, three replicas a key, 32 keys of four kinds, and eight sessions of 400 commands; the generator starts with the number.
abbrev pub script_of : ℕ → Script
script_of number = record {
  version = 1;
  config = record { workers = 4; factor = 3; keys = map key_place (range_with_len 1 32) };
  round = 4;
  kinds = map key_kind (range_with_len 1 32);
  sessions = session_plans 1 8 number;
}

-- ---- the summary

-- the final cell of a key, by its replica of the least number: the first of the key's, where there is one
abbrev pub least_cell : List FinalCell → ℕ → List FinalCell
least_cell finals key = take 1 (filter (λ cell. cell.key == key) finals)

-- A summary: the number, how many commands the script has, how many puts were accepted, and of each key in order its clock and value.
abbrev pub summary_lines : ℕ → Script → Report → List (List (List ℕ))
summary_lines number script report =
    (codes "anna" ∷ codes "big" ∷ decimal number ∷ [])
    ∷ (codes "commands" ∷ decimal (sum_by (λ plan. length plan.lines) script.sessions) ∷ [])
    ∷ (codes "puts" ∷ decimal (length (accepted script report)) ∷ [])
    ∷ (map (short_words script) (flat_map (least_cell report.finals) (range_with_len 1 (length script.config.keys)))
    ++ (codes "end" ∷ []) ∷ [])

-- its text
abbrev pub summary_text : ℕ → Script → Report → List ℕ
summary_text number script report = flat_map line_text (summary_lines number script report)
