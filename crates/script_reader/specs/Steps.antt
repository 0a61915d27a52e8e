-- What a line that is not at fault adds to what the lines before it say.
use Rattle.std.specs.Prelude.{ℕ, Bool, true, false, ◌||◌, List, [], ◌∷◌, ◌++◌}
use Rattle.session_known.specs.declared.script.Line.{Line}
use Rattle.session_known.specs.declared.script.Script.{Script}
use Rattle.session_known.specs.declared.script.SessionPlan.{SessionPlan}
use Rattle.script_reader.specs.Faults.{Context, keys_of}
use Rattle.script_reader.specs.Keywords.{is_factor, is_round}
use Rattle.script_reader.specs.Lines.{Statement, word}
use Rattle.script_reader.specs.Said.{key_said, kind_in, level_in, after_said, line_said}
use Rattle.script_reader.specs.Words.{number_of}
use Rattle.script_reader.specs.declared.keyword.Keyword.{Keyword}
use Rattle.script_reader.specs.declared.keyword.Keyword.TheVariants.{Anna, Workers, Factor, Round, Key, Session, Put, Get, Await, Begin, Commit, Abort}

abbrev pub with_version : ℕ → Script → Script
with_version number script = record { version = number; config = script.config; round = script.round; kinds = script.kinds; sessions = script.sessions }

abbrev pub with_workers : ℕ → Script → Script
with_workers number script = record {
  version = script.version;
  config = record { workers = number; factor = script.config.factor; keys = script.config.keys };
  round = script.round;
  kinds = script.kinds;
  sessions = script.sessions;
}

abbrev pub with_factor : ℕ → Script → Script
with_factor number script = record {
  version = script.version;
  config = record { workers = script.config.workers; factor = number; keys = script.config.keys };
  round = script.round;
  kinds = script.kinds;
  sessions = script.sessions;
}

abbrev pub with_round : ℕ → Script → Script
with_round number script = record { version = script.version; config = script.config; round = number; kinds = script.kinds; sessions = script.sessions }

abbrev pub with_key : Statement → Script → Script
with_key statement script = record {
  version = script.version;
  config = record { workers = script.config.workers; factor = script.config.factor; keys = script.config.keys ++ key_said statement ∷ [] };
  round = script.round;
  kinds = script.kinds ++ kind_in statement ∷ [];
  sessions = script.sessions;
}

-- the sessions with one more line in the last
abbrev pub with_line : Line → List SessionPlan → List SessionPlan
with_line line [] = []
with_line line (plan ∷ []) = record { name = plan.name; level = plan.level; after = plan.after; lines = plan.lines ++ line ∷ [] } ∷ []
with_line line (plan ∷ other ∷ plans) = plan ∷ with_line line (other ∷ plans)

abbrev pub with_sessions : List SessionPlan → Script → Script
with_sessions sessions script = record { version = script.version; config = script.config; round = script.round; kinds = script.kinds; sessions = sessions }

-- a session that has no line yet
abbrev pub new_session : List (List ℕ) → Statement → SessionPlan
new_session named statement = record { name = word 0 statement; level = level_in statement; after = after_said named statement.words; lines = [] }

-- the script with a command
abbrev pub with_command : Context → Keyword → List (List ℕ) → Script
with_command context keyword words = with_sessions (with_line (line_said (keys_of context) context.script.kinds context.named keyword words) context.script.sessions) context.script

-- the script with what a line says
abbrev pub script_after : Context → Keyword → List (List ℕ) → Script
script_after context Anna (version ∷ words) = with_version (number_of version) context.script
script_after context Workers (number ∷ words) = with_workers (number_of number) context.script
script_after context Factor (number ∷ words) = with_factor (number_of number) context.script
script_after context Round (number ∷ words) = with_round (number_of number) context.script
script_after context Key words = with_key (record { keyword = Key; words = words }) context.script
script_after context Session words = with_sessions (context.script.sessions ++ new_session context.named (record { keyword = Session; words = words }) ∷ []) context.script
script_after context Put words = with_command context Put words
script_after context Get words = with_command context Get words
script_after context Await words = with_command context Await words
script_after context Begin words = with_command context Begin words
script_after context Commit words = with_command context Commit words
script_after context Abort words = with_command context Abort words
script_after context keyword words = context.script

-- whether a transaction is begun after a line
abbrev pub begun_after : Bool → Keyword → Bool
begun_after begun Begin = true
begun_after begun Commit = false
begun_after begun Abort = false
begun_after begun keyword = begun

-- what the lines say with one more
abbrev pub next_context : Context → Keyword → List (List ℕ) → Context
next_context context keyword words = record {
  named = context.named;
  has_header = true;
  has_workers = context.has_header;
  has_factor = context.has_factor || is_factor keyword;
  has_round = context.has_round || is_round keyword;
  script = script_after context keyword words;
  begun = begun_after context.begun keyword;
}
