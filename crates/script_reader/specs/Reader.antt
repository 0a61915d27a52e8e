-- What a reader holds of the lines before.
use Rattle.std.specs.Prelude.{◌≡◌, ◌≢◌, ◌⊎◌, ◌+◌, nat_le, ℕ, ◌<◌, ◌≤◌, Bool, true, false, List, [], ◌∷◌, ◌++◌, map, length, sum_by, Option, Some, None, MatchResult, Result, ⊤}
use Rattle.placement.specs.Config.{IsValidConfig, placed}
use Rattle.placement.specs.declared.config.Config.{Config}
use Rattle.session_known.specs.declared.script.SessionPlan.{SessionPlan}
use Rattle.std.specs.List.{slice_get}
use Rattle.composed_value.specs.declared.kind.Kind.{Kind}
use Rattle.session_known.specs.declared.script.Line.{Line}
use Rattle.session_known.specs.declared.script.Line.TheVariants as lines
use Rattle.script_reader.specs.Entries.{Shows}
use Rattle.script_reader.specs.Faults.{Context, code_of, lacks_header, lacks_word, keys_of, commands_of, level_of, is_committed}
use Rattle.script_reader.specs.Said.{place_of}
use Rattle.script_reader.specs.Words.{is_name}
use Rattle.script_reader.specs.Steps.{next_context, with_line, with_sessions}
use Rattle.script_reader.specs.declared.code.Code.{Code}
use Rattle.script_reader.specs.declared.code.Code.TheVariants as codes_of
use Rattle.script_reader.specs.declared.entry.Entry.{Entry}
use Rattle.script_reader.specs.declared.keyword.Keyword.{Keyword}
use Rattle.script_reader.specs.declared.reader.LineFault.{LineFault}
use Rattle.script_reader.specs.declared.reader.LineFault.TheVariants as faults
use Rattle.script_reader.specs.declared.reader.Reader.{Reader}
use Rattle.script_reader.specs.declared.reader.Sessions.{Sessions}

-- the sessions so far, of which the last may get more lines
abbrev pub plans_of : Option Sessions → List SessionPlan
plans_of None = []
plans_of (Some sessions) = sessions.done.items ++ sessions.last ∷ []

abbrev pub begun_of : Option Sessions → Bool
begun_of None = false
begun_of (Some sessions) = sessions.begun

-- what the reader holds, as what the lines before say
abbrev pub so_far : Reader → Context
so_far reader = record {
  named = reader.named;
  has_header = reader.has_header;
  has_workers = reader.has_workers;
  has_factor = reader.has_factor;
  has_round = reader.has_round;
  script = record { version = reader.version; config = reader.config; round = reader.round; kinds = reader.kinds.items; sessions = plans_of reader.sessions };
  begun = begun_of reader.sessions;
}

-- what the sessions hold beside: where the keys live, and how many lines they have
abbrev pub AreKept : Config → Option Sessions → Type 0
AreKept config None = ⊤
AreKept config (Some sessions) = (sessions.placement ≡ placed config) × (sessions.commands ≡ sum_by (λ plan. length plan.lines) (plans_of (Some sessions))) × (length sessions.done.items ≤ 15)

-- what a reader keeps from line to line
pub record IsKept (reader : Reader) : Type 0 where
  pub headed : reader.has_workers ≡ true → reader.has_header ≡ true
  pub fresh : reader.has_workers ≡ false → (reader.config.factor ≡ 1) × (reader.config.keys ≡ []) × (reader.config.workers ≡ 0)
  pub valid : reader.has_workers ≡ true → IsValidConfig reader.config
  pub names : reader.keys ≡ map (λ key. key.name) reader.config.keys
  pub kinds : length reader.kinds.items ≡ length reader.config.keys
  pub few_keys : length reader.config.keys ≤ 128
  pub sessions : AreKept reader.config reader.sessions

-- a line may stand with its words after those before it
pub record SuitsPlace (context : Context) (keyword : Keyword) (words : List (List ℕ)) : Type 0 where
  pub header : lacks_header context keyword words ≡ false
  pub word : lacks_word context keyword words ≡ false

-- the fault is the code of the line; of want of memory nothing is said
abbrev pub IsFaultOf : Option Code → LineFault → Type 0
IsFaultOf code (faults.Code why) = code ≡ Some why
IsFaultOf code faults.NoMemory = ⊤

-- A line was told apart and may stand with its words after those before it, or its fault told.
abbrev pub TellsWhatSuits : Context → Keyword → List (List ℕ) → Result Entry LineFault → Type 0
TellsWhatSuits context keyword words result =
    MatchResult result (λ entry. Shows entry keyword words × SuitsPlace context keyword words) (IsFaultOf (code_of context keyword words))

-- A line was read: it is not at fault, and what it says was added.
pub record HasRead (old new : Reader) (keyword : Keyword) (words : List (List ℕ)) : Type 0 where
  pub kept : IsKept new
  pub faultless : code_of (so_far old) keyword words ≡ None
  pub added : so_far new ≡ next_context (so_far old) keyword words

-- A line was read, or its fault told.
abbrev pub Reads : Reader → Result (Unit {0}) LineFault → Reader → Keyword → List (List ℕ) → Type 0
Reads old result new keyword words = MatchResult result (λ _. HasRead old new keyword words) (IsFaultOf (code_of (so_far old) keyword words))

-- the fault is one of a name
abbrev pub IsNameFault : List ℕ → LineFault → Type 0
IsNameFault word (faults.Code codes_of.Name) = is_name word ≡ false
IsNameFault word fault = ⊥

-- a key's place, counted from 0, and its kind
pub record IsKeyAt (context : Context) (key : List ℕ) (place : ℕ) (kind : Kind) : Type 0 where
  pub place_is : place_of (keys_of context) key ≡ Some place
  pub kind_is : slice_get context.script.kinds place ≡ Some kind
  pub within : place < length context.script.config.keys
  pub few : length context.script.config.keys ≤ 128

-- whether a transaction is begun after a command
abbrev pub begun_after_line : Bool → Line → Bool
begun_after_line begun lines.Begin = true
begun_after_line begun lines.Commit = false
begun_after_line begun lines.Abort = false
begun_after_line begun line = begun

-- the sessions with one more command in the last
abbrev pub with_added : Sessions → Line → Sessions
with_added sessions line = record {
  placement = sessions.placement;
  done = sessions.done;
  last = record { name = sessions.last.name; level = sessions.last.level; after = sessions.last.after; lines = sessions.last.lines ++ line ∷ [] };
  commands = sessions.commands + 1;
  begun = begun_after_line sessions.begun line;
}

-- A command was added to the last session.
pub record HasAdded (old new : Reader) (line : Line) : Type 0 where
  pub kept : IsKept new
  pub added : so_far new ≡ record (so_far old) {
    script = with_sessions (with_line line (so_far old).script.sessions) (so_far old).script;
    begun = begun_after_line (so_far old).begun line;
  }

-- A session was begun.
pub record HasOpened (old new : Reader) (plan : SessionPlan) : Type 0 where
  pub kept : IsKept new
  pub added : so_far new ≡ record (so_far old) {
    script = with_sessions ((so_far old).script.sessions ++ plan ∷ []) (so_far old).script;
  }

-- a session stands before, and fewer commands than there may be
pub record HasRoom (context : Context) : Type 0 where
  pub some : 1 ≤ length context.script.sessions
  pub room : commands_of context < 4096

-- there may be one more command, and a transaction can be begun or ended in a committed session, by whether one is begun
pub record MayBound (context : Context) (begun : Bool) : Type 0 where
  pub room : nat_le 4096 (commands_of context) ≡ false
  pub committed : is_committed (level_of context) ≡ true
  pub is_begun : context.begun ≡ begun

-- why a transaction cannot be begun or ended
abbrev pub IsBoundFault : Context → Bool → LineFault → Type 0
IsBoundFault context begun (faults.Code codes_of.Limit) = nat_le 4096 (commands_of context) ≡ true
IsBoundFault context begun (faults.Code codes_of.Transaction) = (nat_le 4096 (commands_of context) ≡ false) × ((is_committed (level_of context) ≡ false) ⊎ (context.begun ≢ begun))
IsBoundFault context begun fault = ⊥
