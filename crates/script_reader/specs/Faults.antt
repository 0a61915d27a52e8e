-- Which lines are at fault: for each code its condition on a line, given what the lines before it say. Each condition is asked only
-- where none before it holds, so it may take for granted what an earlier one would have found missing.
use Rattle.std.specs.Prelude.{ℕ, Bool, true, false, ◌&&◌, ◌||◌, ◌==◌, not, nat_lt, nat_le, if◌then◌else◌, List, [], ◌∷◌, map, drop, length, sum_by, codes, slice_index_or, Option, Some, None, is_some}
use Rattle.std.specs.List.{slice_get, list_any, list_all}
use Rattle.std.specs.Option.{option_map_or, option_and_then}
use Rattle.std.specs.Str.{bytes_eq}
use Rattle.composed_value.specs.declared.kind.Kind.{Kind}
use Rattle.placement.specs.Config.{placed}
use Rattle.session_known.specs.declared.script.Level.{Level}
use Rattle.session_known.specs.declared.script.Level.TheVariants.{Eventual, Committed, Causal}
use Rattle.session_known.specs.declared.script.Script.{Script}
use Rattle.session_known.specs.declared.script.SessionPlan.{SessionPlan}
use Rattle.script_reader.specs.Keywords.{is_factor, is_round, is_command, is_begin, is_boundary}
use Rattle.script_reader.specs.Lines.{Statement, those, statement_of, statements_of, has_end}
use Rattle.script_reader.specs.Said.{place_of, is_by_factor, pins_said, factor_said, payload_for, predecessor_in, script_said}
use Rattle.script_reader.specs.Words.{is_name, is_number, has_non_number, number_of, kind_said, level_said, says_later_kind, is_payload_too_great, is_amount_too_great}
use Rattle.script_reader.specs.declared.code.Code.{Code}
use Rattle.script_reader.specs.declared.code.Code.TheVariants as codes_of
use Rattle.script_reader.specs.declared.keyword.Keyword.{Keyword}
use Rattle.script_reader.specs.declared.keyword.Keyword.TheVariants.{Anna, Workers, Factor, Round, Key, Session, Put, Get, Await, Begin, Commit, Abort, End}

-- What the lines before a line say, as far as it matters there: the script so far, and what cannot be seen in it.
pub record Context : Type 0 where
  -- the sessions that an await may name, also later ones
  pub named : List (List ℕ)
  pub has_header : Bool
  pub has_workers : Bool
  pub has_factor : Bool
  pub has_round : Bool
  pub script : Script
  pub begun : Bool

-- the last of these statements begins a transaction
abbrev pub last_begins : List Statement → Bool
last_begins [] = false
last_begins (statement ∷ []) = is_begin statement.keyword
last_begins (statement ∷ other ∷ statements) = last_begins (other ∷ statements)

-- what these lines say, where an await may name these sessions
abbrev pub context_of : List (List ℕ) → List Statement → Context
context_of named before = record {
  named = named;
  has_header = nat_lt 0 (length before);
  has_workers = nat_lt 1 (length before);
  has_factor = nat_lt 0 (length (those is_factor before));
  has_round = nat_lt 0 (length (those is_round before));
  script = script_said named before;
  begun = last_begins (those is_boundary before);
}

-- the names of the keys
abbrev pub keys_of : Context → List (List ℕ)
keys_of context = map (λ key. key.name) context.script.config.keys

-- the names of the sessions
abbrev pub sessions_of : Context → List (List ℕ)
sessions_of context = map (λ plan. plan.name) context.script.sessions

-- the level of the session that the line would belong to, the last one
abbrev pub last_level : List SessionPlan → Level
last_level [] = Eventual
last_level (plan ∷ []) = plan.level
last_level (plan ∷ other ∷ plans) = last_level (other ∷ plans)

abbrev pub level_of : Context → Level
level_of context = last_level context.script.sessions

-- the number of command lines so far, of all sessions
abbrev pub commands_of : Context → ℕ
commands_of context = sum_by (λ plan. length plan.lines) context.script.sessions

-- the kind of a key, where it is declared
abbrev pub kind_of_key : Context → List ℕ → Option Kind
kind_of_key context key = option_and_then (λ place. slice_get context.script.kinds place) (place_of (keys_of context) key)

abbrev pub is_declared : Context → List ℕ → Bool
is_declared context key = is_some (place_of (keys_of context) key)

-- the worker is a replica of the key
abbrev pub is_replica : Context → List ℕ → ℕ → Bool
is_replica context key worker = list_any (λ replica. replica == worker) (option_map_or (λ place. slice_index_or (placed context.script.config) place []) (place_of (keys_of context) key) [])

abbrev pub is_within : ℕ → ℕ → ℕ → Bool
is_within least greatest n = nat_le least n && nat_le n greatest

abbrev pub is_causal : Level → Bool
is_causal Causal = true
is_causal level = false

abbrev pub is_committed : Level → Bool
is_committed Committed = true
is_committed level = false

-- a session so far has the name and is causal
abbrev pub has_causal : List SessionPlan → List ℕ → Bool
has_causal sessions name = list_any (λ plan. bytes_eq name plan.name && is_causal plan.level) sessions

-- ---- header: the first line with words is neither `anna 1` nor `anna 2`

abbrev pub is_version : List ℕ → Bool
is_version word = bytes_eq word (codes "1") || bytes_eq word (codes "2")

abbrev pub is_header : Keyword → List (List ℕ) → Bool
is_header Anna (version ∷ []) = is_version version
is_header keyword words = false

abbrev pub lacks_header : Context → Keyword → List (List ℕ) → Bool
lacks_header context keyword words = not context.has_header && not (is_header keyword words)

-- ---- word: a first word that may not stand here, or with other words than it may have

-- the parts in order: the header, the number of workers, options, keys, sessions with their commands, the end
abbrev pub may_follow : Context → Keyword → Bool
may_follow context Anna = not context.has_header
may_follow context Workers = context.has_header && not context.has_workers
may_follow context Factor = context.has_workers && (nat_le (length context.script.config.keys) 0 && nat_le (length context.script.sessions) 0)
may_follow context Round = context.has_workers && (nat_le (length context.script.config.keys) 0 && nat_le (length context.script.sessions) 0)
may_follow context Key = context.has_workers && nat_le (length context.script.sessions) 0
may_follow context Session = context.has_workers
may_follow context End = context.has_workers
may_follow context keyword = context.has_workers && (is_command keyword && nat_lt 0 (length context.script.sessions))

-- the words of a key after its kind: none, pins after `at`, or one replication factor after `factor`
abbrev pub may_place : List (List ℕ) → Bool
may_place [] = true
may_place (by ∷ number ∷ numbers) = bytes_eq by (codes "at") || (bytes_eq by (codes "factor") && nat_le (length numbers) 0)
may_place words = false

-- how many words a first word may have after it, and which of them are given
abbrev pub may_have : Keyword → List (List ℕ) → Bool
may_have Anna (version ∷ []) = true
may_have Workers (number ∷ []) = true
may_have Factor (number ∷ []) = true
may_have Round (number ∷ []) = true
may_have Key (name ∷ kind ∷ placed) = is_some (kind_said kind) && may_place placed
may_have Session (name ∷ level ∷ []) = is_some (level_said level)
may_have Session (name ∷ level ∷ by ∷ other ∷ []) = bytes_eq by (codes "after") && option_map_or is_causal (level_said level) false
may_have Put (key ∷ value ∷ []) = true
may_have Put (key ∷ field ∷ value ∷ []) = true
may_have Get (key ∷ []) = true
may_have Get (key ∷ worker ∷ []) = true
may_have Await (key ∷ session ∷ count ∷ []) = true
may_have Begin [] = true
may_have Commit [] = true
may_have Abort [] = true
may_have End [] = true
may_have keyword words = false

-- a causal session names no worker in a get, and only a causal one awaits
abbrev pub suits : Level → Keyword → List (List ℕ) → Bool
suits level Await words = is_causal level
suits level Get (key ∷ worker ∷ words) = not (is_causal level)
suits level keyword words = true

-- From version 2 on a key may have a replication factor of its own, and a kind that version 1 has not, and a session may come after
-- another: so no such line is one of version 1.
abbrev pub is_in_version : ℕ → Keyword → List (List ℕ) → Bool
is_in_version version Key words = not (is_by_factor words || says_later_kind (slice_index_or words 1 [])) || nat_le 2 version
is_in_version version Session words = not (is_some (predecessor_in words)) || nat_le 2 version
is_in_version version keyword words = true

abbrev pub lacks_word : Context → Keyword → List (List ℕ) → Bool
lacks_word context keyword words =
    not (may_follow context keyword && (may_have keyword words && (suits (level_of context) keyword words && is_in_version context.script.version keyword words)))

-- ---- number: a word that must be a number is none, or the number of a payload is too great

abbrev pub lacks_number : Context → Keyword → List (List ℕ) → Bool
lacks_number context Workers (number ∷ words) = not (is_number number)
lacks_number context Factor (number ∷ words) = not (is_number number)
lacks_number context Round (number ∷ words) = not (is_number number)
lacks_number context Key words = has_non_number (drop 3 words)
lacks_number context Put (key ∷ words) = option_map_or (λ kind. is_payload_too_great kind words) (kind_of_key context key) false
lacks_number context Get (key ∷ worker ∷ words) = not (is_number worker)
lacks_number context Await (key ∷ session ∷ count ∷ words) = not (is_number count)
lacks_number context keyword words = false

-- ---- name: a word that must be a name is none

abbrev pub lacks_name : Keyword → List (List ℕ) → Bool
lacks_name Key (name ∷ words) = not (is_name name)
lacks_name Session (name ∷ words) = not (is_name name && option_map_or is_name (predecessor_in (name ∷ words)) true)
lacks_name Put (key ∷ words) = not (is_name key)
lacks_name Get (key ∷ words) = not (is_name key)
lacks_name Await (key ∷ session ∷ words) = not (is_name key && is_name session)
lacks_name keyword words = false

-- ---- twice: a name or an option that was given before, or a pin that stands twice

abbrev pub has_repeat : List ℕ → Bool
has_repeat [] = false
has_repeat (n ∷ numbers) = list_any (λ other. other == n) numbers || has_repeat numbers

abbrev pub repeats : Context → Keyword → List (List ℕ) → Bool
repeats context Factor words = context.has_factor
repeats context Round words = context.has_round
repeats context Key (name ∷ words) = is_declared context name || has_repeat (pins_said (name ∷ words))
repeats context Session (name ∷ words) = list_any (bytes_eq name) (sessions_of context)
repeats context keyword words = false

-- ---- unknown: a key, a session or a worker that is not there

abbrev pub is_unknown : Context → Keyword → List (List ℕ) → Bool
is_unknown context Key words = list_any (λ pin. not (is_within 1 context.script.config.workers pin)) (pins_said words)
is_unknown context Session words = option_map_or (λ other. not (has_causal context.script.sessions other)) (predecessor_in words) false
is_unknown context Put (key ∷ words) = not (is_declared context key)
is_unknown context Get (key ∷ []) = not (is_declared context key)
is_unknown context Get (key ∷ worker ∷ words) = not (is_declared context key && is_replica context key (number_of worker))
is_unknown context Await (key ∷ session ∷ words) = not (is_declared context key && is_some (place_of context.named session))
is_unknown context keyword words = false

-- the payload is an amount that fits the key's kind, and says too much
abbrev pub has_great_amount : Context → List ℕ → List (List ℕ) → Bool
has_great_amount context key words = option_map_or (λ kind. is_amount_too_great kind words) (kind_of_key context key) false

-- ---- kind: the payload does not fit the key's kind

abbrev pub misfits : Context → Keyword → List (List ℕ) → Bool
misfits context Put (key ∷ words) = not (is_some (payload_for (keys_of context) context.script.kinds key words)) && not (has_great_amount context key words)
misfits context keyword words = false

-- ---- limit: a number out of its range, or a line too many

abbrev pub passes_limit : Context → Keyword → List (List ℕ) → Bool
passes_limit context Workers (number ∷ words) = not (is_within 1 8 (number_of number))
passes_limit context Factor (number ∷ words) = not (is_within 1 context.script.config.workers (number_of number))
passes_limit context Round (number ∷ words) = not (is_within 1 64 (number_of number))
passes_limit context Key words = nat_le 128 (length context.script.config.keys) || option_map_or (λ factor. not (is_within 1 context.script.config.workers factor)) (factor_said words) false
passes_limit context Put (key ∷ words) = has_great_amount context key words || nat_le 4096 (commands_of context)
passes_limit context Session words = nat_le 16 (length context.script.sessions)
passes_limit context keyword words = is_command keyword && nat_le 4096 (commands_of context)

-- ---- transaction: begun or ended where it cannot be

abbrev pub breaks_transaction : Context → Keyword → Bool
breaks_transaction context Begin = not (is_committed (level_of context)) || context.begun
breaks_transaction context Commit = not (is_committed (level_of context)) || not context.begun
breaks_transaction context Abort = not (is_committed (level_of context)) || not context.begun
breaks_transaction context Session = context.begun
breaks_transaction context End = context.begun
breaks_transaction context keyword = false

-- the code of the first condition that holds
abbrev pub first_held : List (Bool × Code) → Option Code
first_held [] = None
first_held (condition ∷ conditions) = if condition.0 then Some condition.1 else first_held conditions

-- The code of a statement at fault: the least whose condition holds.
unfoldable pub code_of : Context → Keyword → List (List ℕ) → Option Code
code_of context keyword words = first_held (
    (lacks_header context keyword words, codes_of.Header)
    ∷ (lacks_word context keyword words, codes_of.Word)
    ∷ (lacks_number context keyword words, codes_of.Number)
    ∷ (lacks_name keyword words, codes_of.Name)
    ∷ (repeats context keyword words, codes_of.Twice)
    ∷ (is_unknown context keyword words, codes_of.Unknown)
    ∷ (misfits context keyword words, codes_of.Kind)
    ∷ (passes_limit context keyword words, codes_of.Limit)
    ∷ (breaks_transaction context keyword, codes_of.Transaction)
    ∷ [])

-- a byte that a line with words may have: a tab, and 0x20 to 0x7E
abbrev pub is_text_byte : ℕ → Bool
is_text_byte b = (b == 9) || is_within 32 126 b

-- The code of a line at fault, by what the lines before it say and whether an end line is among them: after the end, then where it
-- has another byte than text has, then by what it says. Blank lines and comments are never at fault.
abbrev pub code_said : Context → Bool → List ℕ → Option Statement → Option Code
code_said context ended line None = None
code_said context ended line (Some statement) =
    if ended then Some codes_of.AfterEnd else
    (if not (list_all is_text_byte line) then Some codes_of.Byte else code_of context statement.keyword statement.words)

-- The code of a line at fault after these lines, where an await may name these sessions.
abbrev pub code_after : List (List ℕ) → List (List ℕ) → List ℕ → Option Code
code_after named before line = code_said (context_of named (statements_of before)) (has_end before) line (statement_of line)
