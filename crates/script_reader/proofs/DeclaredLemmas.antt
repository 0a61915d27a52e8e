-- The lines that declare: what the reader keeps after each, and which fault a line has.
use Rattle.std.proofs.Common.{◌≡◌, ℕ, ◌+◌, ◌<◌, ◌≤◌, Bool, true, false, not, cond, nat_le, ◌||◌, ◌&&◌, List, [], ◌∷◌, ◌++◌, map, length, drop, slice_index_or, Option, Some, None, is_some, unwrap_or, IfSome, Result, Ok, Err, MatchResult, MatchOption, All, Vec, Global, refl, sym, ap, subst, ◌∙◌, arith}
use Rattle.std.specs.List.{list_any, sum_by}
use Rattle.std.specs.Option.{option_map, option_map_or}
use Rattle.std.specs.Str.{bytes_eq}
use Rattle.std.proofs.lemmas.Bool.{and_parts, or_parts, not-true, false≢true, both_ways}
use Rattle.std.proofs.lemmas.Bool.Decides.{nat_tests}
use Rattle.std.proofs.lemmas.List.{length-append, length_push, map_push}
use Rattle.std.proofs.lemmas.List.Elements.{All-nil, All-same, All-push, All-weaker}
use Rattle.std.proofs.lemmas.List.Folds.{list_any-append}
use Rattle.std.proofs.lemmas.Option.{MatchOption-at_some, MatchOption-at_none}
use Rattle.composed_value.specs.declared.kind.Kind.{Kind}
use Rattle.composed_value.specs.declared.kind.Kind.TheVariants as kinds_of
use Rattle.placement.specs.Config.{ArePins, IsOwnFactor, IsOneOf, IsPlacement, placed, replicas_on}
use Rattle.placement.proofs.ConfigLemmas.{placement_is}
use Rattle.placement.specs.Ring.{ring_of}
use Rattle.placement.specs.declared.config.Config.{Config}
use Rattle.placement.specs.declared.config.KeyPlace.{KeyPlace}
use Rattle.session_known.specs.declared.script.Level.{Level}
use Rattle.session_known.specs.declared.script.Level.TheVariants.{Eventual}
use Rattle.session_known.specs.declared.script.Line.{Line}
use Rattle.session_known.specs.declared.script.SessionPlan.{SessionPlan}
use Rattle.script_reader.specs.Entries.{AreKeyWords, AreSessionWords}
use Rattle.script_reader.specs.Faults.{Context, level_of, sessions_of, has_causal, lacks_name, is_unknown, may_follow, may_have, suits, is_in_version, is_declared, has_repeat, is_within, code_of}
use Rattle.script_reader.proofs.FaultsLaws.{code_number, code_name, code_twice, code_unknown, code_limit, code_transaction, code_none}
use Rattle.script_reader.specs.Reader.{so_far, plans_of, begun_of, AreKept, IsKept, SuitsPlace, IsFaultOf, IsNameFault, HasRead, Reads, HasOpened}
use Rattle.script_reader.specs.Said.{place_of, with_name, session_number, predecessor_in, after_said, key_numbers, pins_by, factor_by, pins_said, factor_said}
use Rattle.script_reader.proofs.ValidListsLaws.{within_is, own_factor, are_workers, no_repeat, name_new}
use Rattle.script_reader.specs.Words.{number_said, is_number, has_non_number, number_of, AreNumbers, is_name, level_said}
use Rattle.script_reader.specs.declared.code.Code.{Code}
use Rattle.script_reader.specs.declared.code.Code.TheVariants as codes_of
use Rattle.script_reader.specs.declared.keyword.Keyword.{Keyword}
use Rattle.script_reader.specs.declared.keyword.Keyword.TheVariants as keywords
use Rattle.script_reader.specs.declared.reader.LineFault.{LineFault}
use Rattle.script_reader.specs.declared.reader.LineFault.TheVariants as faults
use Rattle.script_reader.specs.declared.reader.Reader.{Reader}
use Rattle.script_reader.specs.declared.reader.Sessions.{Sessions}
use Rattle.script_reader.proofs.PinLemmas.{either_first}

-- ---- tests

first_held : (a b c : Bool) → not (a && (b && c)) ≡ false → a ≡ true
first_held true b c is = refl
first_held false b c is = absurd cc

-- a line that may stand may follow those before it
pub follows : (context : Context) (keyword : Keyword) (words : List (List ℕ)) → SuitsPlace context keyword words → may_follow context keyword ≡ true
follows context keyword words stands = first_held (may_follow context keyword) (may_have keyword words) (suits (level_of context) keyword words && is_in_version context.script.version keyword words) stands.word

or_false : (a : Bool) → a ≡ (a || false)
or_false true = refl
or_false false = refl

or_true : (a : Bool) → true ≡ (a || true)
or_true true = refl
or_true false = refl

-- one of two tests holds, or neither
pub either_second : (a b : Bool) → b ≡ true → (a || b) ≡ true
either_second true b is = refl
either_second false b is = is

pub neither : (a b : Bool) → a ≡ false → b ≡ false → (a || b) ≡ false
neither true b first second = absurd cc
neither false b first second = second

pub at_most_is : {least n : ℕ} → least ≤ n → nat_le least n ≡ true
at_most_is is = grind (arith, nat_tests)

at_least_is : {least n : ℕ} → n < least → nat_le least n ≡ false
at_least_is is = grind (arith, nat_tests)

any_mapped : {X Y : Type 0} (test : Y → Bool) (f : X → Y) (items : List X) → list_any test (map f items) ≡ list_any (λ x. test (f x)) items
any_mapped test f [] = refl
any_mapped test f (item ∷ items) = ap (λ rest. test (f item) || rest) (any_mapped test f items)

no_sessions : (sessions : Option Sessions) → nat_le (length (plans_of sessions)) 0 ≡ true → sessions ≡ None
no_sessions None is = refl
no_sessions (Some sessions) is = absurd (grind (arith, nat_tests, length-append sessions.done.items (sessions.last ∷ [])))

number_is : (word : List ℕ) (n : ℕ) → number_said word ≡ Some n → number_of word ≡ n
number_is word n is = ap (λ said. unwrap_or said 0) is

is_number_is : (word : List ℕ) (n : ℕ) → number_said word ≡ Some n → not (is_number word) ≡ false
is_number_is word n is = ap (λ said. not (is_some said)) is

no_number : (word : List ℕ) → number_said word ≡ None → not (is_number word) ≡ true
no_number word is = ap (λ said. not (is_some said)) is

not_within : (least most n : ℕ) (word : List ℕ) → number_said word ≡ Some n → is_within least most n ≡ false → not (is_within least most (number_of word)) ≡ true
not_within least most n word is outside = ap (λ m. not (is_within least most m)) (number_is word n is) ∙ ap not outside

lies_within : (least most n : ℕ) (word : List ℕ) → number_said word ≡ Some n → is_within least most n ≡ true → not (is_within least most (number_of word)) ≡ false
lies_within least most n word is inside = ap (λ m. not (is_within least most m)) (number_is word n is) ∙ ap not inside

-- ---- workers

pub workers_number : (context : Context) (word : List ℕ) → SuitsPlace context keywords.Workers (word ∷ []) → number_said word ≡ None → code_of context keywords.Workers (word ∷ []) ≡ Some codes_of.Number
workers_number context word stands none = code_number _ _ _ stands.header stands.word (no_number word none)

pub workers_limit : (context : Context) (word : List ℕ) (n : ℕ) → SuitsPlace context keywords.Workers (word ∷ []) → number_said word ≡ Some n → is_within 1 8 n ≡ false → code_of context keywords.Workers (word ∷ []) ≡ Some codes_of.Limit
workers_limit context word n stands is outside = code_limit _ _ _ stands.header stands.word (is_number_is word n is) refl refl refl refl (not_within 1 8 n word is outside)

-- no keys are nowhere
placed_none : (config : Config) → config.keys ≡ [] → placed config ≡ []
unfolding placed
placed_none config none = ap (map (replicas_on (ring_of config.workers) config)) none

kept_workers : (config : Config) (n : ℕ) (sessions : Option Sessions) → config.keys ≡ [] → AreKept config sessions → AreKept (record { workers = n; factor = config.factor; keys = config.keys }) sessions
kept_workers config n None none kept = tt
kept_workers config n (Some sessions) none kept = (kept.0 ∙ placed_none config none ∙ sym (placed_none (record { workers = n; factor = config.factor; keys = config.keys }) none), kept.1, kept.2)

pub workers_read : (reader : Reader) (word : List ℕ) (n : ℕ) → IsKept reader → SuitsPlace (so_far reader) keywords.Workers (word ∷ []) → number_said word ≡ Some n → is_within 1 8 n ≡ true
    → HasRead reader (record reader { has_workers = true; config = record { workers = n; factor = reader.config.factor; keys = reader.config.keys } }) keywords.Workers (word ∷ [])
workers_read reader word n kept stands is inside =
    let follow = and_parts reader.has_header (not reader.has_workers) (follows (so_far reader) keywords.Workers (word ∷ []) stands) in
    let fresh = kept.fresh (not-true reader.has_workers follow.1) in
    let bounds = within_is 1 8 n inside in
    record {
      kept = record {
        headed = λ _. follow.0;
        fresh = λ wrong. absurd cc;
        valid = λ _. record {
          workers_some = bounds.0;
          workers_most = bounds.1;
          factor_some = omega (arith, fresh.0);
          factor_most = omega (arith, fresh.0, bounds.0);
          keys_most = kept.few_keys;
          pins = All-same (λ key. ArePins n key.pins) reader.config.keys [] fresh.1 (All-nil _);
          factors = All-same (IsOwnFactor n) reader.config.keys [] fresh.1 (All-nil _);
        };
        names = kept.names;
        kinds = kept.kinds;
        few_keys = kept.few_keys;
        sessions = kept_workers reader.config n reader.sessions fresh.1 kept.sessions;
      };
      faultless = code_none _ _ _ stands.header stands.word (is_number_is word n is) refl refl refl refl (lies_within 1 8 n word is inside) refl;
      added = λ i. record {
        named = reader.named;
        has_header = follow.0 i;
        has_workers = sym follow.0 i;
        has_factor = or_false reader.has_factor i;
        has_round = or_false reader.has_round i;
        script = record {
          version = reader.version;
          config = record { workers = sym (number_is word n is) i; factor = reader.config.factor; keys = reader.config.keys };
          round = reader.round;
          kinds = reader.kinds.items;
          sessions = plans_of reader.sessions;
        };
        begun = begun_of reader.sessions;
      };
    }

-- ---- factor

pub factor_number : (context : Context) (word : List ℕ) → SuitsPlace context keywords.Factor (word ∷ []) → number_said word ≡ None → code_of context keywords.Factor (word ∷ []) ≡ Some codes_of.Number
factor_number context word stands none = code_number _ _ _ stands.header stands.word (no_number word none)

pub factor_twice : (context : Context) (word : List ℕ) (n : ℕ) → SuitsPlace context keywords.Factor (word ∷ []) → number_said word ≡ Some n → context.has_factor ≡ true → code_of context keywords.Factor (word ∷ []) ≡ Some codes_of.Twice
factor_twice context word n stands is twice = code_twice _ _ _ stands.header stands.word (is_number_is word n is) refl twice

pub factor_limit : (context : Context) (word : List ℕ) (n : ℕ) → SuitsPlace context keywords.Factor (word ∷ []) → number_said word ≡ Some n → context.has_factor ≡ false → is_within 1 context.script.config.workers n ≡ false → code_of context keywords.Factor (word ∷ []) ≡ Some codes_of.Limit
factor_limit context word n stands is once outside = code_limit _ _ _ stands.header stands.word (is_number_is word n is) refl once refl refl (not_within 1 context.script.config.workers n word is outside)

pub factor_read : (reader : Reader) (word : List ℕ) (n : ℕ) → IsKept reader → SuitsPlace (so_far reader) keywords.Factor (word ∷ []) → number_said word ≡ Some n → reader.has_factor ≡ false → is_within 1 reader.config.workers n ≡ true
    → HasRead reader (record reader { has_factor = true; config = record { workers = reader.config.workers; factor = n; keys = reader.config.keys } }) keywords.Factor (word ∷ [])
factor_read reader word n kept stands is once inside =
    let follow = and_parts reader.has_workers (nat_le (length reader.config.keys) 0 && nat_le (length (plans_of reader.sessions)) 0) (follows (so_far reader) keywords.Factor (word ∷ []) stands) in
    let none = no_sessions reader.sessions (and_parts (nat_le (length reader.config.keys) 0) (nat_le (length (plans_of reader.sessions)) 0) follow.1).1 in
    let headed = kept.headed follow.0 in
    let valid = kept.valid follow.0 in
    let bounds = within_is 1 reader.config.workers n inside in
    record {
      kept = record {
        headed = kept.headed;
        fresh = λ wrong. absurd cc;
        valid = λ _. record {
          workers_some = valid.workers_some;
          workers_most = valid.workers_most;
          factor_some = bounds.0;
          factor_most = bounds.1;
          keys_most = valid.keys_most;
          pins = valid.pins;
          factors = valid.factors;
        };
        names = kept.names;
        kinds = kept.kinds;
        few_keys = kept.few_keys;
        sessions = subst (AreKept (record { workers = reader.config.workers; factor = n; keys = reader.config.keys })) (sym none) tt;
      };
      faultless = code_none _ _ _ stands.header stands.word (is_number_is word n is) refl once refl refl (lies_within 1 reader.config.workers n word is inside) refl;
      added = λ i. record {
        named = reader.named;
        has_header = headed i;
        has_workers = (follow.0 ∙ sym headed) i;
        has_factor = or_true reader.has_factor i;
        has_round = or_false reader.has_round i;
        script = record {
          version = reader.version;
          config = record { workers = reader.config.workers; factor = sym (number_is word n is) i; keys = reader.config.keys };
          round = reader.round;
          kinds = reader.kinds.items;
          sessions = plans_of reader.sessions;
        };
        begun = begun_of reader.sessions;
      };
    }

-- ---- round

pub round_number : (context : Context) (word : List ℕ) → SuitsPlace context keywords.Round (word ∷ []) → number_said word ≡ None → code_of context keywords.Round (word ∷ []) ≡ Some codes_of.Number
round_number context word stands none = code_number _ _ _ stands.header stands.word (no_number word none)

pub round_twice : (context : Context) (word : List ℕ) (n : ℕ) → SuitsPlace context keywords.Round (word ∷ []) → number_said word ≡ Some n → context.has_round ≡ true → code_of context keywords.Round (word ∷ []) ≡ Some codes_of.Twice
round_twice context word n stands is twice = code_twice _ _ _ stands.header stands.word (is_number_is word n is) refl twice

pub round_limit : (context : Context) (word : List ℕ) (n : ℕ) → SuitsPlace context keywords.Round (word ∷ []) → number_said word ≡ Some n → context.has_round ≡ false → is_within 1 64 n ≡ false → code_of context keywords.Round (word ∷ []) ≡ Some codes_of.Limit
round_limit context word n stands is once outside = code_limit _ _ _ stands.header stands.word (is_number_is word n is) refl once refl refl (not_within 1 64 n word is outside)

pub round_read : (reader : Reader) (word : List ℕ) (n : ℕ) → IsKept reader → SuitsPlace (so_far reader) keywords.Round (word ∷ []) → number_said word ≡ Some n → reader.has_round ≡ false → is_within 1 64 n ≡ true
    → HasRead reader (record reader { has_round = true; round = n }) keywords.Round (word ∷ [])
round_read reader word n kept stands is once inside =
    let follow = and_parts reader.has_workers (nat_le (length reader.config.keys) 0 && nat_le (length (plans_of reader.sessions)) 0) (follows (so_far reader) keywords.Round (word ∷ []) stands) in
    let headed = kept.headed follow.0 in
    record {
      kept = record { headed = kept.headed; fresh = kept.fresh; valid = kept.valid; names = kept.names; kinds = kept.kinds; few_keys = kept.few_keys; sessions = kept.sessions };
      faultless = code_none _ _ _ stands.header stands.word (is_number_is word n is) refl once refl refl (lies_within 1 64 n word is inside) refl;
      added = λ i. record {
        named = reader.named;
        has_header = headed i;
        has_workers = (follow.0 ∙ sym headed) i;
        has_factor = or_false reader.has_factor i;
        has_round = or_true reader.has_round i;
        script = record {
          version = reader.version;
          config = reader.config;
          round = sym (number_is word n is) i;
          kinds = reader.kinds.items;
          sessions = plans_of reader.sessions;
        };
        begun = begun_of reader.sessions;
      };
    }

-- ---- names

-- a fault of a name is one of its line, where the line has no fault before it
pub name_fault : (word : List ℕ) (code : Option Code) (fault : LineFault) → IsNameFault word fault → (is_name word ≡ false → code ≡ Some codes_of.Name) → IsFaultOf code fault
name_fault word code (faults.Code codes_of.Name) is gives = gives is
name_fault word code (faults.Code why) is gives = absurd is
name_fault word code faults.NoMemory is gives = absurd is

-- ---- sessions

-- what holds of the name and the words after it holds of the words
at_session : (P : List (List ℕ) → Type 0) (words : List (List ℕ)) (name : List ℕ) (level : Level) (after : Option (List ℕ)) → AreSessionWords words name level after
    → ((rest : List (List ℕ)) → AreSessionWords (name ∷ rest) name level after → P (name ∷ rest)) → P words
at_session P [] name level after are holds = absurd (false≢true are.may_stand)
at_session P (first ∷ rest) name level after are holds =
    let named : AreSessionWords (name ∷ rest) name level after = subst (λ (n : List ℕ). AreSessionWords (n ∷ rest) name level after) are.name_is are in
    subst (λ (n : List ℕ). P (n ∷ rest)) (sym are.name_is) (holds rest named)

-- the session that one comes after is among those so far and causal, where one is named
abbrev pub HasPredecessor : Context → Option (List ℕ) → Bool → Type 0
HasPredecessor context after lacks = option_map_or (λ other. not (has_causal context.script.sessions other)) after false ≡ lacks

-- the names of a session's line are names
pub record AreNames (name : List ℕ) (after : Option (List ℕ)) : Type 0 where
  pub own : is_name name ≡ true
  pub other : option_map_or is_name after true ≡ true

-- so the line lacks none
names_fine : (name : List ℕ) (rest : List (List ℕ)) (level : Level) (after : Option (List ℕ)) → AreSessionWords (name ∷ rest) name level after → AreNames name after → lacks_name keywords.Session (name ∷ rest) ≡ false
names_fine name rest level after are names = λ i. not (names.own i && (ap (λ other. option_map_or is_name other true) are.after_is ∙ names.other) i)

-- and the line's test of the session that it comes after is that of its name
predecessor_is : (context : Context) (name : List ℕ) (rest : List (List ℕ)) (level : Level) (after : Option (List ℕ)) (lacks : Bool) → AreSessionWords (name ∷ rest) name level after → HasPredecessor context after lacks → is_unknown context keywords.Session (name ∷ rest) ≡ lacks
predecessor_is context name rest level after lacks are has = ap (λ other. option_map_or (λ other. not (has_causal context.script.sessions other)) other false) are.after_is ∙ has

-- what is asked of a line that begins a session
module _ (context : Context) (words : List (List ℕ)) (name : List ℕ) (level : Level) (after : Option (List ℕ)) (are : AreSessionWords words name level after) (stands : SuitsPlace context keywords.Session words) where
  abbrev Has : Code → List (List ℕ) → Type 0
  Has code words = SuitsPlace context keywords.Session words → code_of context keywords.Session words ≡ Some code

  pub session_name : is_name name ≡ false → code_of context keywords.Session words ≡ Some codes_of.Name
  session_name unnamed =
      at_session (Has codes_of.Name) words name level after are
      (λ rest are stands. code_name _ _ _ stands.header stands.word refl (ap (λ named. not (named && option_map_or is_name (predecessor_in (name ∷ rest)) true)) unnamed)) stands

  pub session_other_name : is_name name ≡ true → option_map_or is_name after true ≡ false → code_of context keywords.Session words ≡ Some codes_of.Name
  session_other_name named unnamed =
      at_session (Has codes_of.Name) words name level after are
      (λ rest are stands. code_name _ _ _ stands.header stands.word refl (λ i. not (named i && (ap (λ other. option_map_or is_name other true) are.after_is ∙ unnamed) i))) stands

  pub session_twice : AreNames name after → list_any (bytes_eq name) (sessions_of context) ≡ true → code_of context keywords.Session words ≡ Some codes_of.Twice
  session_twice names twice =
      at_session (Has codes_of.Twice) words name level after are
      (λ rest are stands. code_twice _ _ _ stands.header stands.word refl (names_fine name rest level after are names) twice) stands

  pub session_unknown : AreNames name after → list_any (bytes_eq name) (sessions_of context) ≡ false → HasPredecessor context after true → code_of context keywords.Session words ≡ Some codes_of.Unknown
  session_unknown names once lacks =
      at_session (Has codes_of.Unknown) words name level after are
      (λ rest are stands. code_unknown _ _ _ stands.header stands.word refl (names_fine name rest level after are names) once (predecessor_is context name rest level after true are lacks)) stands

  pub session_limit : AreNames name after → list_any (bytes_eq name) (sessions_of context) ≡ false → HasPredecessor context after false → 16 ≤ length context.script.sessions → code_of context keywords.Session words ≡ Some codes_of.Limit
  session_limit names once has many =
      at_session (Has codes_of.Limit) words name level after are
      (λ rest are stands. code_limit _ _ _ stands.header stands.word refl (names_fine name rest level after are names) once (predecessor_is context name rest level after false are has) refl (at_most_is many)) stands

  pub session_begun : AreNames name after → list_any (bytes_eq name) (sessions_of context) ≡ false → HasPredecessor context after false → length context.script.sessions < 16 → context.begun ≡ true → code_of context keywords.Session words ≡ Some codes_of.Transaction
  session_begun names once has few begun =
      at_session (Has codes_of.Transaction) words name level after are
      (λ rest are stands. code_transaction _ _ _ stands.header stands.word refl (names_fine name rest level after are names) once (predecessor_is context name rest level after false are has) refl (at_least_is few) begun) stands

-- a session is begun after the line of workers
pub session_follows : (context : Context) (words : List (List ℕ)) → SuitsPlace context keywords.Session words → context.has_workers ≡ true
session_follows context words stands = follows context keywords.Session words stands

-- what the plan of a session has of its line
pub record IsPlanOf (named : List (List ℕ)) (name : List ℕ) (after : Option (List ℕ)) (plan : SessionPlan) : Type 0 where
  pub name_is : plan.name ≡ name
  pub after_is : plan.after ≡ option_map (session_number named) after
  pub empty : plan.lines ≡ []

pub session_read : (old new : Reader) (words : List (List ℕ)) (name : List ℕ) (after : Option (List ℕ)) (plan : SessionPlan) → IsKept old → AreSessionWords words name plan.level after → SuitsPlace (so_far old) keywords.Session words
    → AreNames name after → list_any (bytes_eq name) (sessions_of (so_far old)) ≡ false → HasPredecessor (so_far old) after false → length (plans_of old.sessions) < 16 → begun_of old.sessions ≡ false
    → IsPlanOf old.named name after plan → HasOpened old new plan → HasRead old new keywords.Session words
session_read old new words name after plan kept are stands names once has_other few ended is opened =
    at_session (λ words. SuitsPlace (so_far old) keywords.Session words → HasRead old new keywords.Session words) words name plan.level after are
    (λ rest are stands.
    let has : old.has_workers ≡ true = session_follows (so_far old) (name ∷ rest) stands in
    let headed : old.has_header ≡ true = kept.headed has in
    let level_is : plan.level ≡ unwrap_or (level_said (slice_index_or (name ∷ rest) 1 [])) Eventual = sym (ap (λ said. unwrap_or said Eventual) are.level_is) in
    let after_is : plan.after ≡ after_said old.named (name ∷ rest) = is.after_is ∙ ap (option_map (session_number old.named)) (sym are.after_is) in
    record {
      kept = opened.kept;
      faultless = code_none _ _ _ stands.header stands.word refl (names_fine name rest plan.level after are names) once (predecessor_is (so_far old) name rest plan.level after false are has_other) refl (at_least_is few) ended;
      added = opened.added ∙ (λ i. record {
        named = old.named;
        has_header = headed i;
        has_workers = (has ∙ sym headed) i;
        has_factor = or_false old.has_factor i;
        has_round = or_false old.has_round i;
        script = record {
          version = old.version;
          config = old.config;
          round = old.round;
          kinds = old.kinds.items;
          sessions = plans_of old.sessions ++ record { name = is.name_is i; level = level_is i; after = after_is i; lines = is.empty i } ∷ [];
        };
        begun = begun_of old.sessions;
      });
    })
    stands

-- what is told of a session's line
pub session_told : (old new : Reader) (result : Result (Unit {0}) LineFault) (words : List (List ℕ)) (name : List ℕ) (after : Option (List ℕ)) (plan : SessionPlan) → IsKept old → AreSessionWords words name plan.level after → SuitsPlace (so_far old) keywords.Session words
    → AreNames name after → list_any (bytes_eq name) (sessions_of (so_far old)) ≡ false → HasPredecessor (so_far old) after false → length (plans_of old.sessions) < 16 → begun_of old.sessions ≡ false
    → IsPlanOf old.named name after plan → MatchResult result (λ _. HasOpened old new plan) (λ fault. fault ≡ faults.NoMemory) → Reads old result new keywords.Session words
session_told old new (Ok _) words name after plan kept are stands names once has few ended is opened = session_read old new words name after plan kept are stands names once has few ended is opened
session_told old new (Err fault) words name after plan kept are stands names once has few ended is why = subst (IsFaultOf (code_of (so_far old) keywords.Session words)) (sym why) tt

-- the first session
pub opened_first : (reader : Reader) (plan : SessionPlan) (placement : List (List ℕ)) (done : Vec SessionPlan Global) → IsKept reader → reader.has_workers ≡ true → plan.lines ≡ [] → reader.sessions ≡ None → IsPlacement reader.config placement → done.items ≡ []
    → HasOpened reader (record reader { sessions = Some (record { placement = placement; done = done; last = plan; commands = 0; begun = false }) }) plan
opened_first reader plan placement done kept has empty first placed_is none = record {
  kept = record {
    headed = kept.headed;
    fresh = kept.fresh;
    valid = kept.valid;
    names = kept.names;
    kinds = kept.kinds;
    few_keys = kept.few_keys;
    sessions = (
      placement_is reader.config placement placed_is,
      sym (ap (λ plans. sum_by (λ (plan : SessionPlan). length plan.lines) (plans ++ plan ∷ [])) none ∙ ap (λ (lines : List Line). 0 + length lines) empty),
      omega (arith, ap length none),
    );
  };
  added = λ i. record {
    named = reader.named;
    has_header = reader.has_header;
    has_workers = reader.has_workers;
    has_factor = reader.has_factor;
    has_round = reader.has_round;
    script = record {
      version = reader.version;
      config = reader.config;
      round = reader.round;
      kinds = reader.kinds.items;
      sessions = (none ∙ sym (ap plans_of first)) i ++ plan ∷ [];
    };
    begun = sym (ap begun_of first) i;
  };
}

-- a session that passes a test among those so far: one before the last, or the last
among_sessions : (test : SessionPlan → Bool) (sessions : Option Sessions) (own : Sessions) → sessions ≡ Some own → list_any test (plans_of sessions) ≡ (list_any test own.done.items || test own.last)
among_sessions test sessions own is =
    ap (λ sessions. list_any test (plans_of sessions)) is
    ∙ list_any-append test own.done.items (own.last ∷ [])
    ∙ ap (λ last. list_any test own.done.items || last) (sym (or_false (test own.last)))

-- a session before the last passes
pub session_met : (test : SessionPlan → Bool) (sessions : Option Sessions) (own : Sessions) (met : Bool) → met ≡ list_any test own.done.items → sessions ≡ Some own → met ≡ true → met ≡ list_any test (plans_of sessions)
session_met test sessions own met is own_is there =
    there ∙ sym (either_first (list_any test own.done.items) (test own.last) (sym is ∙ there)) ∙ sym (among_sessions test sessions own own_is)

-- the last session passes, or none
pub session_last : (test : SessionPlan → Bool) (sessions : Option Sessions) (own : Sessions) (met last : Bool) → met ≡ list_any test own.done.items → sessions ≡ Some own → met ≡ false → last ≡ test own.last → last ≡ list_any test (plans_of sessions)
session_last test sessions own met last is own_is missing last_is =
    last_is ∙ ap (λ before. before || test own.last) (sym missing ∙ is) ∙ sym (among_sessions test sessions own own_is)

-- a session of the name among those so far
pub named_among : (sessions : Option Sessions) (name : List ℕ) → list_any (λ plan. bytes_eq name plan.name) (plans_of sessions) ≡ list_any (bytes_eq name) (map (λ plan. plan.name) (plans_of sessions))
named_among sessions name = sym (any_mapped (bytes_eq name) (λ (plan : SessionPlan). plan.name) (plans_of sessions))

-- ---- keys

-- what holds of the name and the words after it holds of the words
at_key : (P : List (List ℕ) → Type 0) (words : List (List ℕ)) (name : List ℕ) (kind : Kind) (by_factor : Bool) (numbers : List (List ℕ)) → AreKeyWords words name kind by_factor numbers
    → ((rest : List (List ℕ)) → AreKeyWords (name ∷ rest) name kind by_factor numbers → P (name ∷ rest)) → P words
at_key P [] name kind by_factor numbers are holds = absurd (false≢true are.may_stand)
at_key P (first ∷ rest) name kind by_factor numbers are holds =
    let named : AreKeyWords (name ∷ rest) name kind by_factor numbers = subst (λ (n : List ℕ). AreKeyWords (n ∷ rest) name kind by_factor numbers) are.name_is are in
    subst (λ (n : List ℕ). P (n ∷ rest)) (sym are.name_is) (holds rest named)

-- what the words of a key say
record SaysKey (words : List (List ℕ)) (pins : List ℕ) (factor : Option ℕ) : Type 0 where
  fine : has_non_number (drop 3 words) ≡ false
  pins_are : pins_said words ≡ pins
  factor_is : factor_said words ≡ factor

-- the numbers that a key's words write, as pins or as a factor
pub record AreKeyNumbers (by_factor : Bool) (words : List (List ℕ)) (pins : List ℕ) (factor : Option ℕ) : Type 0 where
  pub numbers : List ℕ
  pub read : AreNumbers words numbers
  pub pins_are : pins ≡ pins_by by_factor numbers
  pub factor_is : factor ≡ factor_by by_factor numbers

-- what was told of the numbers
pub numbers_say : (by_factor : Bool) (words : List (List ℕ)) (numbers slice pins : List ℕ) (factor : Option ℕ) → AreNumbers words numbers → slice ≡ numbers → pins ≡ pins_by by_factor slice → factor ≡ factor_by by_factor slice → AreKeyNumbers by_factor words pins factor
numbers_say by_factor words numbers slice pins factor read same pins_are factor_is = record {
  numbers = numbers;
  read = read;
  pins_are = pins_are ∙ ap (pins_by by_factor) same;
  factor_is = factor_is ∙ ap (factor_by by_factor) same;
}

says_key : (words : List (List ℕ)) (name : List ℕ) (kind : Kind) (by_factor : Bool) (numbers : List (List ℕ)) (pins : List ℕ) (factor : Option ℕ) → AreKeyWords words name kind by_factor numbers → AreKeyNumbers by_factor numbers pins factor → SaysKey words pins factor
says_key words name kind by_factor numbers pins factor are say =
    let same : key_numbers words ≡ say.numbers = ap (map number_of) are.numbers_are ∙ sym say.read.numbers_are in
    record {
      fine = ap has_non_number are.numbers_are ∙ say.read.each;
      pins_are = (λ i. pins_by (are.by_is i) (same i)) ∙ sym say.pins_are;
      factor_is = (λ i. factor_by (are.by_is i) (same i)) ∙ sym say.factor_is;
    }

pub key_number : (context : Context) (words : List (List ℕ)) (name : List ℕ) (kind : Kind) (by_factor : Bool) (numbers : List (List ℕ)) → AreKeyWords words name kind by_factor numbers → SuitsPlace context keywords.Key words → has_non_number numbers ≡ true → code_of context keywords.Key words ≡ Some codes_of.Number
key_number context words name kind by_factor numbers are stands lacking = code_number _ _ _ stands.header stands.word (ap has_non_number are.numbers_are ∙ lacking)

pub key_name : (context : Context) (words : List (List ℕ)) (name : List ℕ) (kind : Kind) (by_factor : Bool) (numbers : List (List ℕ)) (found : List ℕ) → AreKeyWords words name kind by_factor numbers → SuitsPlace context keywords.Key words → AreNumbers numbers found → is_name name ≡ false → code_of context keywords.Key words ≡ Some codes_of.Name
key_name context words name kind by_factor numbers found are stands read unnamed =
    at_key (λ words. SuitsPlace context keywords.Key words → code_of context keywords.Key words ≡ Some codes_of.Name) words name kind by_factor numbers are
    (λ rest are stands. code_name _ _ _ stands.header stands.word (ap has_non_number are.numbers_are ∙ read.each) (ap not unnamed)) stands

pub key_twice : (context : Context) (words : List (List ℕ)) (name : List ℕ) (kind : Kind) (by_factor : Bool) (numbers : List (List ℕ)) (pins : List ℕ) (factor : Option ℕ) → AreKeyWords words name kind by_factor numbers → SuitsPlace context keywords.Key words → AreKeyNumbers by_factor numbers pins factor → is_name name ≡ true
    → (is_declared context name || has_repeat pins) ≡ true → code_of context keywords.Key words ≡ Some codes_of.Twice
key_twice context words name kind by_factor numbers pins factor are stands say named twice =
    at_key (λ words. SuitsPlace context keywords.Key words → code_of context keywords.Key words ≡ Some codes_of.Twice) words name kind by_factor numbers are
    (λ rest are stands.
    let says = says_key (name ∷ rest) name kind by_factor numbers pins factor are say in
    code_twice _ _ _ stands.header stands.word says.fine (ap not named) (ap (λ said. is_declared context name || has_repeat said) says.pins_are ∙ twice)) stands

pub key_unknown : (context : Context) (words : List (List ℕ)) (name : List ℕ) (kind : Kind) (by_factor : Bool) (numbers : List (List ℕ)) (pins : List ℕ) (factor : Option ℕ) → AreKeyWords words name kind by_factor numbers → SuitsPlace context keywords.Key words → AreKeyNumbers by_factor numbers pins factor → is_name name ≡ true
    → (is_declared context name || has_repeat pins) ≡ false → list_any (λ pin. not (is_within 1 context.script.config.workers pin)) pins ≡ true → code_of context keywords.Key words ≡ Some codes_of.Unknown
key_unknown context words name kind by_factor numbers pins factor are stands say named once unknown =
    at_key (λ words. SuitsPlace context keywords.Key words → code_of context keywords.Key words ≡ Some codes_of.Unknown) words name kind by_factor numbers are
    (λ rest are stands.
    let says = says_key (name ∷ rest) name kind by_factor numbers pins factor are say in
    code_unknown _ _ _ stands.header stands.word says.fine (ap not named)
    (ap (λ said. is_declared context name || has_repeat said) says.pins_are ∙ once)
    (ap (list_any (λ pin. not (is_within 1 context.script.config.workers pin))) says.pins_are ∙ unknown)) stands

pub key_limit : (context : Context) (words : List (List ℕ)) (name : List ℕ) (kind : Kind) (by_factor : Bool) (numbers : List (List ℕ)) (pins : List ℕ) (factor : Option ℕ) → AreKeyWords words name kind by_factor numbers → SuitsPlace context keywords.Key words → AreKeyNumbers by_factor numbers pins factor → is_name name ≡ true
    → (is_declared context name || has_repeat pins) ≡ false → list_any (λ pin. not (is_within 1 context.script.config.workers pin)) pins ≡ false
    → (nat_le 128 (length context.script.config.keys) || option_map_or (λ factor. not (is_within 1 context.script.config.workers factor)) factor false) ≡ true → code_of context keywords.Key words ≡ Some codes_of.Limit
key_limit context words name kind by_factor numbers pins factor are stands say named once known outside =
    at_key (λ words. SuitsPlace context keywords.Key words → code_of context keywords.Key words ≡ Some codes_of.Limit) words name kind by_factor numbers are
    (λ rest are stands.
    let says = says_key (name ∷ rest) name kind by_factor numbers pins factor are say in
    code_limit _ _ _ stands.header stands.word says.fine (ap not named)
    (ap (λ said. is_declared context name || has_repeat said) says.pins_are ∙ once)
    (ap (list_any (λ pin. not (is_within 1 context.script.config.workers pin))) says.pins_are ∙ known) refl
    (ap (λ factor. nat_le 128 (length context.script.config.keys) || option_map_or (λ factor. not (is_within 1 context.script.config.workers factor)) factor false) says.factor_is ∙ outside)) stands

-- a new name is put last
named_last : (names : List (List ℕ)) (name : List ℕ) → is_some (place_of names name) ≡ false → with_name names name ≡ names ++ name ∷ []
named_last names name new = ap (λ t. cond t names (names ++ name ∷ [])) (name_new names name new)

-- a name has its place among those of the keys
pub declared_is : (reader : Reader) (name : List ℕ) → IsKept reader → is_declared (so_far reader) name ≡ is_some (place_of reader.keys name)
declared_is reader name kept = ap (λ names. is_some (place_of names name)) (sym kept.names)

pub key_read : (reader : Reader) (words : List (List ℕ)) (name : List ℕ) (kind : Kind) (by_factor : Bool) (number_words : List (List ℕ)) (pins : List ℕ) (factor : Option ℕ) (names : List (List ℕ)) (kinds : Vec Kind Global) (keys : List KeyPlace) (key : KeyPlace)
    → IsKept reader → AreKeyWords words name kind by_factor number_words → SuitsPlace (so_far reader) keywords.Key words → AreKeyNumbers by_factor number_words pins factor → is_name name ≡ true
    → (is_declared (so_far reader) name || has_repeat pins) ≡ false → list_any (λ pin. not (is_within 1 reader.config.workers pin)) pins ≡ false → length reader.config.keys < 128 → option_map_or (λ factor. not (is_within 1 reader.config.workers factor)) factor false ≡ false
    → names ≡ with_name reader.keys name → kinds.items ≡ reader.kinds.items ++ kind ∷ [] → keys ≡ reader.config.keys ++ key ∷ [] → key.name ≡ name → key.pins ≡ pins → key.factor ≡ factor
    → HasRead reader (record reader { config = record { workers = reader.config.workers; factor = reader.config.factor; keys = keys }; keys = names; kinds = kinds }) keywords.Key words
key_read reader words name kind by_factor number_words pins factor names kinds keys key kept are stands say named once known few inside names_are kinds_are keys_are name_is pins_are factor_is =
    let config : Config = record { workers = reader.config.workers; factor = reader.config.factor; keys = keys } in
    let new : Reader = record reader { config = config; keys = names; kinds = kinds } in
    at_key (λ words. SuitsPlace (so_far reader) keywords.Key words → HasRead reader new keywords.Key words) words name kind by_factor number_words are
    (λ rest are stands.
    let follow = and_parts reader.has_workers (nat_le (length (plans_of reader.sessions)) 0) (follows (so_far reader) keywords.Key (name ∷ rest) stands) in
    let has = follow.0 in
    let none = no_sessions reader.sessions follow.1 in
    let headed = kept.headed has in
    let valid = kept.valid has in
    let says = says_key (name ∷ rest) name kind by_factor number_words pins factor are say in
    let apart = or_parts (is_declared (so_far reader) name) (has_repeat pins) once in
    let own : ArePins reader.config.workers key.pins = subst (ArePins reader.config.workers) (sym pins_are) (record { are_workers = are_workers reader.config.workers pins known; different = no_repeat pins apart.1 }) in
    let numbers = say.numbers in
    let by : pins ≡ pins_by by_factor numbers = say.pins_are in
    let at_factor : option_map_or (λ factor. not (is_within 1 reader.config.workers factor)) (factor_by by_factor numbers) false ≡ false = ap (λ factor. option_map_or (λ factor. not (is_within 1 reader.config.workers factor)) factor false) (sym say.factor_is) ∙ inside in
    let own_one : IsOwnFactor reader.config.workers key =
    subst (λ (place : Option ℕ × List ℕ). IfSome place.0 (λ factor. IsOneOf reader.config.workers factor × (place.1 ≡ []))) (λ i. (sym (factor_is ∙ say.factor_is) i, sym (pins_are ∙ by) i)) (own_factor reader.config.workers by_factor numbers at_factor) in
    let new_name : is_some (place_of reader.keys name) ≡ false = sym (declared_is reader name kept) ∙ apart.0 in
    let most : length keys ≤ 128 = omega (arith, ap length keys_are, length_push reader.config.keys key) in
    let counted : length kinds.items ≡ length keys = omega (arith, ap length keys_are, length_push reader.config.keys key, ap length kinds_are, length_push reader.kinds.items kind, kept.kinds) in
    record {
      kept = record {
        headed = kept.headed;
        fresh = λ no. absurd (both_ways _ no has);
        valid = λ _. record {
          workers_some = valid.workers_some;
          workers_most = valid.workers_most;
          factor_some = valid.factor_some;
          factor_most = valid.factor_most;
          keys_most = most;
          pins = All-same (λ key. ArePins reader.config.workers key.pins) keys (reader.config.keys ++ key ∷ []) keys_are (All-push (λ key. ArePins reader.config.workers key.pins) reader.config.keys key valid.pins own);
          factors = All-same (IsOwnFactor reader.config.workers) keys (reader.config.keys ++ key ∷ []) keys_are (All-push (IsOwnFactor reader.config.workers) reader.config.keys key valid.factors own_one);
        };
        names = names_are ∙ named_last reader.keys name new_name ∙ (λ i. kept.names i ++ sym name_is i ∷ []) ∙ sym (map_push (λ (key : KeyPlace). key.name) reader.config.keys key) ∙ ap (map (λ (key : KeyPlace). key.name)) (sym keys_are);
        kinds = counted;
        few_keys = most;
        sessions = subst (AreKept config) (sym none) tt;
      };
      faultless = code_none _ _ _ stands.header stands.word says.fine (ap not named)
          (ap (λ said. is_declared (so_far reader) name || has_repeat said) says.pins_are ∙ once)
          (ap (list_any (λ pin. not (is_within 1 reader.config.workers pin))) says.pins_are ∙ known) refl
          (neither _ _ (at_least_is few) (ap (λ factor. option_map_or (λ factor. not (is_within 1 reader.config.workers factor)) factor false) says.factor_is ∙ inside)) refl;
      added = λ i. record {
        named = reader.named;
        has_header = headed i;
        has_workers = (has ∙ sym headed) i;
        has_factor = or_false reader.has_factor i;
        has_round = or_false reader.has_round i;
        script = record {
          version = reader.version;
          config = record {
            workers = reader.config.workers;
            factor = reader.config.factor;
            keys = (keys_are ∙ (λ j. reader.config.keys ++ record { name = name_is j; pins = (pins_are ∙ sym says.pins_are) j; factor = (factor_is ∙ sym says.factor_is) j } ∷ [])) i;
          };
          round = reader.round;
          kinds = (kinds_are ∙ ap (λ k. reader.kinds.items ++ k ∷ []) (sym (ap (λ said. unwrap_or said kinds_of.Max) are.kind_is))) i;
          sessions = plans_of reader.sessions;
        };
        begun = begun_of reader.sessions;
      };
    })
    stands

-- workers are at most eight
most_workers : (reader : Reader) (has : Bool) → reader.has_workers ≡ has → IsKept reader → reader.config.workers ≤ 8
most_workers reader true is kept = (kept.valid is).workers_most
most_workers reader false is kept = omega (arith, (kept.fresh is).2)

-- so each number of a worker is
pub few_workers : (reader : Reader) (numbers : List ℕ) → IsKept reader → list_any (λ pin. not (is_within 1 reader.config.workers pin)) numbers ≡ false → All (λ n. n ≤ 8) numbers
few_workers reader numbers kept known =
    let most = most_workers reader reader.has_workers refl kept in
    All-weaker (IsOneOf reader.config.workers) (λ n. n ≤ 8) (λ n is. omega (arith, is.1, most)) numbers (are_workers reader.config.workers numbers known)

-- the numbers that the pins write
pub numbers_read : (pins : List (List ℕ)) (found : Option (Vec ℕ Global)) (numbers : Vec ℕ Global) → found ≡ Some numbers → MatchOption found (has_non_number pins ≡ true) (λ numbers. AreNumbers pins numbers.items) → AreNumbers pins numbers.items
numbers_read pins found numbers is matched = MatchOption-at_some (has_non_number pins ≡ true) (λ numbers. AreNumbers pins numbers.items) numbers is matched

pub numbers_unread : (pins : List (List ℕ)) (found : Option (Vec ℕ Global)) → found ≡ None → MatchOption found (has_non_number pins ≡ true) (λ numbers. AreNumbers pins numbers.items) → has_non_number pins ≡ true
numbers_unread pins found is matched = MatchOption-at_none (has_non_number pins ≡ true) (λ numbers. AreNumbers pins numbers.items) is matched

-- what is told of the pins' workers
pub workers_told : (workers : ℕ) (numbers slice : List ℕ) (told is : Bool) → told ≡ not (list_any (λ n. not (is_within 1 workers n)) slice) → slice ≡ numbers → told ≡ is → not (list_any (λ n. not (is_within 1 workers n)) numbers) ≡ is
workers_told workers numbers slice told is says same is_told = ap (λ numbers. not (list_any (λ n. not (is_within 1 workers n)) numbers)) (sym same) ∙ sym says ∙ is_told
