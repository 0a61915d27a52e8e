-- A line that is not at fault leaves a valid context.
use Rattle.std.specs.Prelude.{◌≡◌, ℕ, ◌<◌, ◌≤◌, Bool, true, false, IsTrue, IsFalse, ◌&&◌, ◌||◌, not, nat_lt, nat_le, List, [], ◌∷◌, ◌++◌, map, length, codes, Option, Some, None, unwrap_or, Contains}
use Rattle.std.specs.List.{list_any}
use Rattle.std.specs.Option.{option_map_or}
use Rattle.std.specs.Str.{bytes_eq}
use Rattle.std.proofs.Common.{refl, sym, ap, subst, ◌∙◌, arith}
use Rattle.std.proofs.lemmas.Bool.{false≢true, true≢false, both_ways, not-true, not-false, ltb-true, leb-true, leb-false, and_parts, or_parts, false_from_ne_true}
use Rattle.std.proofs.lemmas.List.{map_push, length_push, length-map}
use Rattle.std.proofs.lemmas.List.Elements.{All-nil, All-push}
use Rattle.composed_value.specs.declared.kind.Kind.{Kind}
use Rattle.placement.specs.Config.{IsOneOf, ArePins, IsOwnFactor, placed}
use Rattle.placement.specs.Name.{IsName}
use Rattle.placement.specs.declared.config.KeyPlace.{KeyPlace}
use Rattle.script_reader.specs.Faults.{Context, context_of, keys_of, level_of, commands_of, is_declared, is_causal, is_committed, is_version, may_follow, may_have, suits, is_in_version, lacks_header, lacks_name, repeats, is_unknown, misfits, passes_limit, breaks_transaction, code_of}
use Rattle.script_reader.proofs.FaultsLaws.{header_fine, word_fine, name_fine, twice_fine, unknown_fine, kind_fine, limit_fine, transaction_fine}
use Rattle.script_reader.specs.Lines.{Statement}
use Rattle.script_reader.specs.Said.{is_by_factor, key_numbers, key_said, kind_in, level_in, after_said, pins_said, number_in, line_said}
use Rattle.script_reader.specs.Steps.{next_context, new_session, with_line, with_factor}
use Rattle.script_reader.proofs.TurnLaws.{causal_is, turn_line, turn_push, turn_none}
use Rattle.script_reader.proofs.ValidContext.{AreApart, AreKeys, AreSessions, MayFollow, AreInTurn, IsValidContext, Leads, Stands}
use Rattle.script_reader.proofs.ValidListsLaws.{within_is, own_factor, version_within, are_workers, no_repeat, apart_push, number_within, session_within, name_new, payload_kind, payload_is, is_spelling, replica_contained}
use Rattle.script_reader.proofs.ValidSessionsLaws.{sessions_line, sessions_push, sessions_none}
use Rattle.script_reader.specs.Words.{number_of, is_name, level_said}
use Rattle.script_reader.specs.declared.keyword.Keyword.{Keyword}
use Rattle.script_reader.specs.declared.keyword.Keyword.TheVariants.{Anna, Workers, Factor, Round, Key, Session, Put, Get, Await, Begin, Commit, Abort, End, Unknown}
use Rattle.session_known.specs.Script.{MayName}
use Rattle.session_known.specs.declared.script.Level.{Level}
use Rattle.session_known.specs.declared.script.Level.TheVariants.{Eventual, Committed, Causal}
use Rattle.session_known.specs.declared.script.Line.{Line}
use Rattle.session_known.specs.declared.script.Line.TheVariants as lines
use Rattle.session_known.specs.declared.script.SessionPlan.{SessionPlan}

-- what is read of the codes that a line does not have
record IsFaultless (context : Context) (keyword : Keyword) (words : List (List ℕ)) : Type 0 where
  headed : lacks_header context keyword words ≡ false
  follows : may_follow context keyword ≡ true
  has : may_have keyword words ≡ true
  suited : suits (level_of context) keyword words ≡ true
  versioned : is_in_version context.script.version keyword words ≡ true
  named : lacks_name keyword words ≡ false
  twice : repeats context keyword words ≡ false
  unknown : is_unknown context keyword words ≡ false
  kind : misfits context keyword words ≡ false
  limit : passes_limit context keyword words ≡ false
  transaction : breaks_transaction context keyword ≡ false

-- a line without a code has none of them
faultless : (context : Context) (keyword : Keyword) (words : List (List ℕ)) → code_of context keyword words ≡ None → IsFaultless context keyword words
faultless context keyword words none =
    let all = not-false _ (word_fine context keyword words none) in
    let follows = and_parts (may_follow context keyword) _ all in
    let has = and_parts (may_have keyword words) _ follows.1 in
    let suited = and_parts (suits (level_of context) keyword words) _ has.1 in
    record {
      headed = header_fine context keyword words none;
      follows = follows.0;
      has = has.0;
      suited = suited.0;
      versioned = suited.1;
      named = name_fine context keyword words none;
      twice = twice_fine context keyword words none;
      unknown = unknown_fine context keyword words none;
      kind = kind_fine context keyword words none;
      limit = limit_fine context keyword words none;
      transaction = transaction_fine context keyword words none;
    }

-- where no line stands before, the context is valid
pub start : (named : List (List ℕ)) → IsValidContext (context_of named [])
start named = record {
  version = (omega arith, omega arith);
  header = λ has. absurd (false≢true has);
  workers = λ has. absurd (false≢true has);
  bare = λ no. (omega arith, omega arith, refl);
  round = (omega arith, omega arith);
  keys = record {
    few = omega arith;
    pins = All-nil (λ (key : KeyPlace). ArePins 0 key.pins);
    factors = All-nil (IsOwnFactor 0);
    kinds = refl;
    names = record { named = λ k d lt. absurd (omega arith); different = λ i j d i<j j<. absurd (omega arith) };
  };
  sessions = record {
    names = record { named = λ k d lt. absurd (omega arith); different = λ i j d i<j j<. absurd (omega arith) };
    few = omega arith;
    few_lines = omega arith;
    stand = λ k d lt. absurd (omega arith);
    led = refl;
  };
  in_turn = tt;
}

-- a line after the line of workers
after_workers : (context : Context) (keyword : Keyword) (words : List (List ℕ)) → IsValidContext context → IsOneOf 2 (next_context context keyword words).script.version → context.has_workers ≡ true
    → IsOneOf 8 (next_context context keyword words).script.config.workers × IsOneOf (next_context context keyword words).script.config.workers (next_context context keyword words).script.config.factor
    → IsOneOf 64 (next_context context keyword words).script.round
    → AreKeys (next_context context keyword words).script.config (next_context context keyword words).script.kinds
    → AreSessions (length (next_context context keyword words).script.config.keys) (next_context context keyword words).script.kinds (length (next_context context keyword words).named) (placed (next_context context keyword words).script.config) (next_context context keyword words).begun (next_context context keyword words).script.sessions
    → AreInTurn (next_context context keyword words).script.version (next_context context keyword words).named [] (next_context context keyword words).script.sessions
    → IsValidContext (next_context context keyword words)
after_workers context keyword words valid version has numbers round keys sessions turn = record {
  version = version;
  header = λ _. refl;
  workers = λ _. numbers;
  bare = λ no. absurd (both_ways _ no (valid.header has));
  round = round;
  keys = keys;
  sessions = sessions;
  in_turn = turn;
}

-- the header
step_anna : (context : Context) (words : List (List ℕ)) → IsValidContext context → IsFaultless context Anna words → IsValidContext (next_context context Anna words)
step_anna context [] valid fine = absurd (false≢true fine.has)
step_anna context (version ∷ other ∷ words) valid fine = absurd (false≢true fine.has)
step_anna context (version ∷ []) valid fine =
    let no_header : context.has_header ≡ false = not-true _ fine.follows in
    let no_workers : context.has_workers ≡ false = false_from_ne_true _ (λ has. both_ways _ no_header (valid.header has)) in
    let is : is_version version ≡ true = not-false _ (ap (λ has. not has && not (is_version version)) (sym no_header) ∙ fine.headed) in
    record {
      version = version_within version is;
      header = λ _. refl;
      workers = λ has. absurd (both_ways _ no_header has);
      bare = λ _. valid.bare no_workers;
      round = valid.round;
      keys = valid.keys;
      sessions = valid.sessions;
      in_turn = turn_none (number_of version) context.named context.script.sessions (valid.bare no_workers).1;
    }

-- the number of workers
step_workers : (context : Context) (words : List (List ℕ)) → IsValidContext context → IsFaultless context Workers words → IsValidContext (next_context context Workers words)
step_workers context [] valid fine = absurd (false≢true fine.has)
step_workers context (number ∷ words) valid fine =
    let follows = and_parts context.has_header _ fine.follows in
    let no_workers : context.has_workers ≡ false = not-true _ follows.1 in
    let bare = valid.bare no_workers in
    let within = within_is 1 8 (number_of number) (not-false _ fine.limit) in
    let factor : context.script.config.factor ≡ 1 = bare.2 in
    record {
      version = valid.version;
      header = λ _. refl;
      workers = λ _. (within, (omega arith, omega arith));
      bare = λ no. absurd (both_ways _ no follows.0);
      round = valid.round;
      keys = record { few = valid.keys.few; pins = λ k d lt. absurd (omega arith); factors = λ k d lt. absurd (omega arith); kinds = valid.keys.kinds; names = valid.keys.names };
      sessions = sessions_none _ _ _ _ _ _ _ _ _ bare.1 valid.sessions;
      in_turn = valid.in_turn;
    }

-- what stands before the keys
option_follows : (context : Context) → (context.has_workers && (nat_le (length context.script.config.keys) 0 && nat_le (length context.script.sessions) 0)) ≡ true → (context.has_workers ≡ true) × (length context.script.sessions ≤ 0)
option_follows context follows =
    let has = and_parts context.has_workers _ follows in
    let none = and_parts (nat_le (length context.script.config.keys) 0) _ has.1 in
    (has.0, leb-true _ _ none.1)

-- the replication factor
step_factor : (context : Context) (words : List (List ℕ)) → IsValidContext context → IsFaultless context Factor words → IsValidContext (next_context context Factor words)
step_factor context [] valid fine = absurd (false≢true fine.has)
step_factor context (number ∷ words) valid fine =
    let follows = option_follows context fine.follows in
    let within = within_is 1 context.script.config.workers (number_of number) (not-false _ fine.limit) in
    let keys : AreKeys (with_factor (number_of number) context.script).config context.script.kinds = record { few = valid.keys.few; pins = valid.keys.pins; factors = valid.keys.factors; kinds = valid.keys.kinds; names = valid.keys.names } in
    after_workers context Factor (number ∷ words) valid valid.version follows.0 ((valid.workers follows.0).0, within) valid.round keys (sessions_none _ _ _ _ _ _ _ _ _ follows.1 valid.sessions) valid.in_turn

-- the requests between rounds
step_round : (context : Context) (words : List (List ℕ)) → IsValidContext context → IsFaultless context Round words → IsValidContext (next_context context Round words)
step_round context [] valid fine = absurd (false≢true fine.has)
step_round context (number ∷ words) valid fine =
    let follows = option_follows context fine.follows in
    after_workers context Round (number ∷ words) valid valid.version follows.0 (valid.workers follows.0) (within_is 1 64 (number_of number) (not-false _ fine.limit)) valid.keys valid.sessions valid.in_turn

-- the keys of a config with one more
keys_push : (workers factor : ℕ) (keys : List KeyPlace) (of_keys : List Kind) (key : KeyPlace) (kind : Kind) → AreKeys (record { workers = workers; factor = factor; keys = keys }) of_keys → length keys < 128 → ArePins workers key.pins → IsOwnFactor workers key → IsName key.name → list_any (bytes_eq key.name) (map (λ key. key.name) keys) ≡ false → AreKeys (record { workers = workers; factor = factor; keys = keys ++ key ∷ [] }) (of_keys ++ kind ∷ [])
keys_push workers factor keys of_keys key kind are room pins own is_name new = record {
  few = omega (arith, length_push keys key);
  pins = All-push (λ key. ArePins workers key.pins) keys key are.pins pins;
  factors = All-push (IsOwnFactor workers) keys key are.factors own;
  kinds = let kinds = are.kinds in omega (arith, length_push keys key, length_push of_keys kind);
  names = subst AreApart (sym (map_push (λ key. key.name) keys key)) (apart_push (map (λ key. key.name) keys) key.name are.names is_name new);
}

-- a key
step_key : (context : Context) (words : List (List ℕ)) → IsValidContext context → IsFaultless context Key words → IsValidContext (next_context context Key words)
step_key context [] valid fine = absurd (false≢true fine.has)
step_key context (name ∷ words) valid fine =
    let follows = and_parts context.has_workers _ fine.follows in
    let twice = or_parts (is_declared context name) _ fine.twice in
    let config = context.script.config in
    let pins : ArePins config.workers (pins_said (name ∷ words)) = record { are_workers = are_workers config.workers (pins_said (name ∷ words)) fine.unknown; different = no_repeat (pins_said (name ∷ words)) twice.1 } in
    let limit = or_parts (nat_le 128 (length config.keys)) _ fine.limit in
    let statement : Statement = record { keyword = Key; words = name ∷ words } in
    let own : IsOwnFactor config.workers (key_said statement) = own_factor config.workers (is_by_factor (name ∷ words)) (key_numbers (name ∷ words)) limit.1 in
    let keys = keys_push config.workers config.factor config.keys context.script.kinds (key_said statement) (kind_in statement) valid.keys (leb-false _ _ limit.0) pins own (is_spelling 32 name (not-false _ fine.named)) (name_new (keys_of context) name twice.0) in
    after_workers context Key (name ∷ words) valid valid.version follows.0 (valid.workers follows.0) valid.round keys (sessions_none _ _ _ _ _ _ _ _ _ (leb-true _ _ follows.1) valid.sessions) valid.in_turn

-- a level that is said and passes the test of causal ones
causal_said : (said : Option Level) → option_map_or is_causal said false ≡ true → unwrap_or said Eventual ≡ Causal
causal_said None is = absurd (false≢true is)
causal_said (Some level) is = causal_is level is

-- a version is the second where it is not before that
second_version : (version : ℕ) → IsOneOf 2 version → nat_le 2 version ≡ true → version ≡ 2
second_version version within least = omega (arith, within.1, leb-true 2 version least)

-- a session comes after none, or after a causal one before it
plan_follows : (context : Context) (words : List (List ℕ)) → IsOneOf 2 context.script.version → IsFaultless context Session words → MayFollow context.script.version context.named context.script.sessions (level_in (record { keyword = Session; words = words })) (after_said context.named words)
plan_follows context [] version fine = absurd (false≢true fine.has)
plan_follows context (name ∷ []) version fine = absurd (false≢true fine.has)
plan_follows context (name ∷ level ∷ []) version fine = tt
plan_follows context (name ∷ level ∷ by ∷ []) version fine = absurd (false≢true fine.has)
plan_follows context (name ∷ level ∷ by ∷ other ∷ []) version fine = record {
  version_is = second_version context.script.version version fine.versioned;
  causal = causal_said (level_said level) (and_parts (bytes_eq by (codes "after")) _ fine.has).1;
  other = other;
  number_is = refl;
  is_there = not-false _ fine.unknown;
}
plan_follows context (name ∷ level ∷ by ∷ other ∷ next ∷ words) version fine = absurd (false≢true fine.has)

-- a session
step_session : (context : Context) (words : List (List ℕ)) → IsValidContext context → IsFaultless context Session words → IsValidContext (next_context context Session words)
step_session context [] valid fine = absurd (false≢true fine.has)
step_session context (name ∷ words) valid fine =
    let plan : SessionPlan = new_session context.named (record { keyword = Session; words = name ∷ words }) in
    after_workers context Session (name ∷ words) valid valid.version fine.follows (valid.workers fine.follows) valid.round valid.keys
    (sessions_push _ _ _ _ _ context.script.sessions plan valid.sessions fine.transaction refl (leb-false _ _ fine.limit) (is_spelling 32 name (and_parts (is_name name) _ (not-false _ fine.named)).0) fine.twice)
    (turn_push context.script.version context.named [] context.script.sessions plan valid.in_turn (plan_follows context (name ∷ words) valid.version fine))

-- the end
step_end : (context : Context) (words : List (List ℕ)) → IsValidContext context → IsFaultless context End words → IsValidContext (next_context context End words)
step_end context words valid fine = after_workers context End words valid valid.version fine.follows (valid.workers fine.follows) valid.round valid.keys valid.sessions valid.in_turn

-- a command
command_follows : (context : Context) → (context.has_workers && (true && nat_lt 0 (length context.script.sessions))) ≡ true → (context.has_workers ≡ true) × (0 < length context.script.sessions)
command_follows context follows =
    let has = and_parts context.has_workers _ follows in
    (has.0, ltb-true _ _ has.1)

-- a line that a session takes
takes_line : (context : Context) (after : Bool) (line : Line) → IsValidContext context → 0 < length context.script.sessions → nat_le 4096 (commands_of context) ≡ false
    → Stands (length context.script.config.keys) context.script.kinds (length context.named) (placed context.script.config) (level_of context) line → Leads context.begun (line ∷ []) after
    → AreSessions (length context.script.config.keys) context.script.kinds (length context.named) (placed context.script.config) after (with_line line context.script.sessions)
takes_line context after line valid some room stands leads = sessions_line _ _ _ _ context.begun after context.script.sessions line valid.sessions some (leb-false _ _ room) stands leads

-- a name of a declared key has the number of a key
key_within : (context : Context) (key : List ℕ) → is_declared context key ≡ true → IsOneOf (length context.script.config.keys) (number_in (keys_of context) key)
key_within context key declared = subst (λ n. IsOneOf n (number_in (keys_of context) key)) (length-map context.script.config.keys (λ (key : KeyPlace). key.name)) (number_within (keys_of context) key declared)

-- where a payload is said or an amount is too great, and none is too great, a payload is said
payload_said_within : (said great full : Bool) → (not said && not great) ≡ false → (great || full) ≡ false → (said ≡ true) × (full ≡ false)
payload_said_within true great full fits within = (refl, (or_parts great full within).1)
payload_said_within false true full fits within = absurd cc
payload_said_within false false full fits within = absurd cc

-- a put
step_put : (context : Context) (words : List (List ℕ)) → IsValidContext context → IsFaultless context Put words → IsValidContext (next_context context Put words)
step_put context [] valid fine = absurd (false≢true fine.has)
step_put context (key ∷ words) valid fine =
    let follows = command_follows context fine.follows in
    let within = key_within context key (not-false _ fine.unknown) in
    let said = payload_said_within _ _ _ fine.kind fine.limit in
    let payload = payload_is (keys_of context) context.script.kinds key words said.0 in
    let kind = payload_kind (keys_of context) context.script.kinds key words said.0 in
    after_workers context Put (key ∷ words) valid valid.version follows.0 (valid.workers follows.0) valid.round valid.keys
    (takes_line context context.begun (line_said (keys_of context) context.script.kinds context.named Put (key ∷ words)) valid follows.1 said.1 (within, payload, kind) refl) (turn_line context.script.version context.named (line_said (keys_of context) context.script.kinds context.named Put (key ∷ words)) [] context.script.sessions valid.in_turn)

-- a session that is not causal may name a replica
may_name : (level : Level) (replicas : List ℕ) (worker : ℕ) → not (is_causal level) ≡ true → Contains replicas worker → MayName level replicas (Some worker)
may_name Eventual replicas worker other has = has
may_name Committed replicas worker other has = has
may_name Causal replicas worker other has = absurd (false≢true other)

-- a get
step_get : (context : Context) (words : List (List ℕ)) → IsValidContext context → IsFaultless context Get words → IsValidContext (next_context context Get words)
step_get context [] valid fine = absurd (false≢true fine.has)
step_get context (key ∷ []) valid fine =
    let follows = command_follows context fine.follows in
    let within = key_within context key (not-false _ fine.unknown) in
    after_workers context Get (key ∷ []) valid valid.version follows.0 (valid.workers follows.0) valid.round valid.keys
    (takes_line context context.begun (line_said (keys_of context) context.script.kinds context.named Get (key ∷ [])) valid follows.1 fine.limit (within, tt) refl) (turn_line context.script.version context.named (line_said (keys_of context) context.script.kinds context.named Get (key ∷ [])) [] context.script.sessions valid.in_turn)
step_get context (key ∷ worker ∷ words) valid fine =
    let follows = command_follows context fine.follows in
    let known = and_parts (is_declared context key) _ (not-false _ fine.unknown) in
    let within = key_within context key known.0 in
    let replica = replica_contained (keys_of context) key (placed context.script.config) (number_of worker) known.1 in
    after_workers context Get (key ∷ worker ∷ words) valid valid.version follows.0 (valid.workers follows.0) valid.round valid.keys
    (takes_line context context.begun (line_said (keys_of context) context.script.kinds context.named Get (key ∷ worker ∷ words)) valid follows.1 fine.limit (within, may_name (level_of context) _ (number_of worker) fine.suited replica) refl) (turn_line context.script.version context.named (line_said (keys_of context) context.script.kinds context.named Get (key ∷ worker ∷ words)) [] context.script.sessions valid.in_turn)

-- an await
step_await : (context : Context) (words : List (List ℕ)) → IsValidContext context → IsFaultless context Await words → IsValidContext (next_context context Await words)
step_await context [] valid fine = absurd (false≢true fine.has)
step_await context (key ∷ []) valid fine = absurd (false≢true fine.has)
step_await context (key ∷ session ∷ []) valid fine = absurd (false≢true fine.has)
step_await context (key ∷ session ∷ count ∷ words) valid fine =
    let follows = command_follows context fine.follows in
    let known = and_parts (is_declared context key) _ (not-false _ fine.unknown) in
    after_workers context Await (key ∷ session ∷ count ∷ words) valid valid.version follows.0 (valid.workers follows.0) valid.round valid.keys
    (takes_line context context.begun (line_said (keys_of context) context.script.kinds context.named Await (key ∷ session ∷ count ∷ words)) valid follows.1 fine.limit (key_within context key known.0, session_within context.named session known.1, causal_is (level_of context) fine.suited) refl) (turn_line context.script.version context.named (line_said (keys_of context) context.script.kinds context.named Await (key ∷ session ∷ count ∷ words)) [] context.script.sessions valid.in_turn)

-- a level that passes the test of committed ones
committed_is : (level : Level) → not (is_committed level) ≡ false → level ≡ Committed
committed_is Eventual is = absurd (true≢false is)
committed_is Committed is = refl
committed_is Causal is = absurd (true≢false is)

-- the begin of a transaction
step_begin : (context : Context) (words : List (List ℕ)) → IsValidContext context → IsFaultless context Begin words → IsValidContext (next_context context Begin words)
step_begin context words valid fine =
    let follows = command_follows context fine.follows in
    let held = or_parts (not (is_committed (level_of context))) _ fine.transaction in
    after_workers context Begin words valid valid.version follows.0 (valid.workers follows.0) valid.round valid.keys
    (takes_line context true lines.Begin valid follows.1 fine.limit (committed_is (level_of context) held.0) (held.1, refl)) (turn_line context.script.version context.named lines.Begin [] context.script.sessions valid.in_turn)

-- the commit of a transaction
step_commit : (context : Context) (words : List (List ℕ)) → IsValidContext context → IsFaultless context Commit words → IsValidContext (next_context context Commit words)
step_commit context words valid fine =
    let follows = command_follows context fine.follows in
    let held = or_parts (not (is_committed (level_of context))) _ fine.transaction in
    after_workers context Commit words valid valid.version follows.0 (valid.workers follows.0) valid.round valid.keys
    (takes_line context false lines.Commit valid follows.1 fine.limit (committed_is (level_of context) held.0) (not-false _ held.1, refl)) (turn_line context.script.version context.named lines.Commit [] context.script.sessions valid.in_turn)

-- the abort of a transaction
step_abort : (context : Context) (words : List (List ℕ)) → IsValidContext context → IsFaultless context Abort words → IsValidContext (next_context context Abort words)
step_abort context words valid fine =
    let follows = command_follows context fine.follows in
    let held = or_parts (not (is_committed (level_of context))) _ fine.transaction in
    after_workers context Abort words valid valid.version follows.0 (valid.workers follows.0) valid.round valid.keys
    (takes_line context false lines.Abort valid follows.1 fine.limit (committed_is (level_of context) held.0) (not-false _ held.1, refl)) (turn_line context.script.version context.named lines.Abort [] context.script.sessions valid.in_turn)

-- a line without faults, by its first word
step_fine : (context : Context) (keyword : Keyword) (words : List (List ℕ)) → IsValidContext context → IsFaultless context keyword words → IsValidContext (next_context context keyword words)
step_fine context Anna words valid fine = step_anna context words valid fine
step_fine context Workers words valid fine = step_workers context words valid fine
step_fine context Factor words valid fine = step_factor context words valid fine
step_fine context Round words valid fine = step_round context words valid fine
step_fine context Key words valid fine = step_key context words valid fine
step_fine context Session words valid fine = step_session context words valid fine
step_fine context Put words valid fine = step_put context words valid fine
step_fine context Get words valid fine = step_get context words valid fine
step_fine context Await words valid fine = step_await context words valid fine
step_fine context Begin words valid fine = step_begin context words valid fine
step_fine context Commit words valid fine = step_commit context words valid fine
step_fine context Abort words valid fine = step_abort context words valid fine
step_fine context End words valid fine = step_end context words valid fine
step_fine context Unknown words valid fine = absurd (false≢true (and_parts context.has_workers _ fine.follows).1)

-- A line that is not at fault leaves a valid context.
pub step : (context : Context) (keyword : Keyword) (words : List (List ℕ)) → IsValidContext context → code_of context keyword words ≡ None → IsValidContext (next_context context keyword words)
step context keyword words valid none = step_fine context keyword words valid (faultless context keyword words none)

-- after an end line that is not at fault there are workers, and no transaction is begun
pub ended : (context : Context) (words : List (List ℕ)) → IsValidContext context → code_of context End words ≡ None → IsTrue (next_context context End words).has_workers × IsFalse (next_context context End words).begun
ended context words valid none =
    let fine = faultless context End words none in
    (valid.header fine.follows, fine.transaction)
