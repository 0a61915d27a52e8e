-- What reading a line needs: the last session, where a command stands, what it adds, why it is at fault, and where a line may stand.
use Rattle.std.proofs.Common.{◌≡◌, ◌≢◌, ◌⊎◌, ℕ, ◌+◌, ◌^◌, ◌<◌, ◌≤◌, ◌==◌, Bool, true, false, not, ◌&&◌, ◌||◌, nat_lt, nat_le, List, [], ◌∷◌, ◌++◌, map, length, Option, None, Some, is_some, unwrap_or, cond, codes, slice_get, slice_index_or, get_or, Result, Ok, Err, MatchResult, MatchOption, refl, sym, ap, ◌∙◌, subst, inl, inr, arith, sum_by}
use Rattle.std.specs.List.{All, list_any, flat_map, range_with_len}
use Rattle.std.specs.Option.{option_map, option_map_or, option_and_then}
use Rattle.std.specs.Str.{bytes_eq}
use Rattle.std.proofs.lemmas.Bool.{eqb-true, not-false}
use Rattle.std.proofs.lemmas.Bool.Decides.{nat_tests}
use Rattle.std.proofs.lemmas.List.{length-map, length-append, get_or-map}
use Rattle.std.proofs.lemmas.List.Concat.{flat_map-cons}
use Rattle.std.proofs.lemmas.List.Elements.{All-nil, All-cons, All-head, All-tail, All-append, All-map, All-take, All-filter, All-get_or, All-same}
use Rattle.std.proofs.lemmas.List.Folds.{Any-from_list_any}
use Rattle.std.proofs.lemmas.List.FromFn.{get_or-range_with_len, length-range_with_len}
use Rattle.std.proofs.lemmas.List.Sorted.{All-permutation}
use Rattle.std.proofs.lemmas.List.Sums.{sum_by_push}
use Rattle.std.proofs.lemmas.Slice.Eq.{bytes_eq-Decides}
use Rattle.composed_value.specs.declared.kind.Kind.{Kind}
use Rattle.composed_value.specs.declared.kind.Kind.TheVariants as kinds
use Rattle.composed_value.specs.declared.payload.Payload.{Payload}
use Rattle.composed_value.specs.declared.payload.Payload.TheVariants as payloads
use Rattle.placement.specs.Config.{IsOneOf, ArePins, IsValidConfig, IsRing, factor_of, pinned_or, replicas_on, placed}
use Rattle.placement.proofs.ConfigLemmas.{is_placement}
use Rattle.placement.specs.Hash.{hash_of}
use Rattle.placement.specs.Ring.{point_of, points_of, round, workers_met, walked}
use Rattle.placement.specs.declared.config.Config.{Config}
use Rattle.placement.specs.declared.config.KeyPlace.{KeyPlace}
use Rattle.placement.specs.declared.ring.Point.{Point}
use Rattle.session_known.specs.declared.script.Line.{Line}
use Rattle.session_known.specs.declared.script.SessionPlan.{SessionPlan}
use Rattle.script_reader.specs.Entries.{Shows}
use Rattle.script_reader.specs.Faults.{Context, code_of, keys_of, level_of, last_level, commands_of, is_committed, is_declared, is_replica, is_version, is_in_version, kind_of_key, has_great_amount, may_follow, may_have, suits, lacks_word, lacks_number, lacks_name, repeats, is_unknown, misfits, passes_limit, breaks_transaction}
use Rattle.script_reader.proofs.FaultsLaws.{code_kind, code_limit, code_transaction, code_none}
use Rattle.script_reader.specs.Keywords.{is_factor, is_round}
use Rattle.script_reader.specs.Reader.{so_far, plans_of, begun_of, with_added, begun_after_line, AreKept, IsKept, SuitsPlace, IsFaultOf, HasRead, HasAdded, Reads, IsKeyAt, MayBound, IsBoundFault}
use Rattle.script_reader.specs.Said.{place_of, number_in, payload_for, line_said}
use Rattle.script_reader.specs.Steps.{next_context, with_line, with_sessions, with_version, with_command, script_after, begun_after}
use Rattle.script_reader.specs.Words.{is_amount_too_great, is_name, is_payload_too_great, number_of, number_said, payload_said, sign_said}
use Rattle.script_reader.specs.declared.code.Code.{Code}
use Rattle.script_reader.specs.declared.code.Code.TheVariants as codes_of
use Rattle.script_reader.specs.declared.entry.Entry.{Entry}
use Rattle.script_reader.specs.declared.keyword.Keyword.{Keyword}
use Rattle.script_reader.specs.declared.keyword.Keyword.TheVariants as keywords
use Rattle.script_reader.specs.declared.reader.LineFault.{LineFault}
use Rattle.script_reader.specs.declared.reader.LineFault.TheVariants as faults
use Rattle.script_reader.specs.declared.reader.Reader.{Reader}
use Rattle.script_reader.specs.declared.reader.Sessions.{Sessions}

-- ---- the last session

pub level_last : (plans : List SessionPlan) (plan : SessionPlan) → last_level (plans ++ plan ∷ []) ≡ plan.level
level_last [] plan = refl
level_last (first ∷ []) plan = refl
level_last (first ∷ second ∷ plans) plan = level_last (second ∷ plans) plan

-- a line more changes the last session alone
line_last : (line : Line) (plans : List SessionPlan) (plan : SessionPlan) → with_line line (plans ++ plan ∷ []) ≡ plans ++ with_line line (plan ∷ [])
line_last line [] plan = refl
line_last line (first ∷ []) plan = refl
line_last line (first ∷ second ∷ plans) plan = ap (λ more. first ∷ more) (line_last line (second ∷ plans) plan)

-- what a reader holds, but for its sessions
abbrev with_plans : Reader → List SessionPlan → Bool → Context
with_plans reader plans begun = record {
  named = reader.named;
  has_header = reader.has_header;
  has_workers = reader.has_workers;
  has_factor = reader.has_factor;
  has_round = reader.has_round;
  script = record { version = reader.version; config = reader.config; round = reader.round; kinds = reader.kinds.items; sessions = plans };
  begun = begun;
}

-- a reader with other sessions
abbrev pub with_state : Reader → Sessions → Reader
with_state reader sessions = record {
  named = reader.named;
  has_header = reader.has_header;
  version = reader.version;
  has_workers = reader.has_workers;
  has_factor = reader.has_factor;
  has_round = reader.has_round;
  config = reader.config;
  round = reader.round;
  keys = reader.keys;
  kinds = reader.kinds;
  sessions = Some sessions;
}

-- there is a line more
one_more : (line : Line) (done : List SessionPlan) (last : SessionPlan) (commands : ℕ) → commands ≡ sum_by (λ plan. length plan.lines) (done ++ last ∷ []) → commands + 1 ≡ sum_by (λ plan. length plan.lines) (done ++ record { name = last.name; level = last.level; after = last.after; lines = last.lines ++ line ∷ [] } ∷ [])
one_more line done last commands is =
    let f : SessionPlan → ℕ = λ plan. length plan.lines in
    let more : SessionPlan = record { name = last.name; level = last.level; after = last.after; lines = last.lines ++ line ∷ [] } in
    omega (arith, sum_by_push f done last, sum_by_push f done more, length-append last.lines (line ∷ []))

-- a command that is added to the last session
pub has_added : (old : Reader) (before now : Sessions) (line : Line) → IsKept old → old.sessions ≡ Some before → now ≡ with_added before line → HasAdded old (with_state old now) line
has_added old before now line kept was is =
    let sessions : AreKept old.config (Some before) = subst (AreKept old.config) was kept.sessions in
    subst (λ (sessions : Sessions). HasAdded old (with_state old sessions) line) (sym is) (record {
      kept = record {
        headed = kept.headed;
        fresh = kept.fresh;
        valid = kept.valid;
        names = kept.names;
        kinds = kept.kinds;
        few_keys = kept.few_keys;
        sessions = (sessions.0, one_more line before.done.items before.last before.commands sessions.1, sessions.2);
      };
      added = ap (λ plans. with_plans old plans (begun_after_line before.begun line)) (sym (line_last line before.done.items before.last))
          ∙ ap (λ (sessions : Option Sessions). with_plans old (with_line line (plans_of sessions)) (begun_after_line (begun_of sessions) line)) (sym was);
    })

-- ---- where a command stands

-- after the number of workers, in a session
pub record IsInSession (context : Context) : Type 0 where
  pub workers : context.has_workers ≡ true
  pub some : nat_lt 0 (length context.script.sessions) ≡ true

all_three : (workers some rest : Bool) → not ((workers && some) && rest) ≡ false → (workers ≡ true) × (some ≡ true) × (rest ≡ true)
all_three true true true is = (refl, refl, refl)
all_three true true false is = absurd cc
all_three true false rest is = absurd cc
all_three false some rest is = absurd cc

-- a command that may stand is in a session
pub in_session : (context : Context) (rest : Bool) → not ((context.has_workers && nat_lt 0 (length context.script.sessions)) && rest) ≡ false → IsInSession context
in_session context rest is =
    let all = all_three context.has_workers (nat_lt 0 (length context.script.sessions)) rest is in
    record { workers = all.0; some = all.1 }

-- ---- a command that was read

-- A line is a command without a fault, and says this line of a session.
pub record SaysLine (context : Context) (keyword : Keyword) (words : List (List ℕ)) (line : Line) : Type 0 where
  pub factor : is_factor keyword ≡ false
  pub round : is_round keyword ≡ false
  pub script : script_after context keyword words ≡ with_command context keyword words
  pub said : line_said (keys_of context) context.script.kinds context.named keyword words ≡ line
  pub begun : begun_after context.begun keyword ≡ begun_after_line context.begun line
  pub faultless : code_of context keyword words ≡ None

or_false : (b c : Bool) → c ≡ false → b ≡ (b || c)
or_false true c none = refl
or_false false c none = sym none

-- what is seen with a line more is what the command says
added_is_after : (old : Reader) (keyword : Keyword) (words : List (List ℕ)) (line : Line) → IsKept old → IsInSession (so_far old) → SaysLine (so_far old) keyword words line
    → record {
      named = old.named;
      has_header = old.has_header;
      has_workers = old.has_workers;
      has_factor = old.has_factor;
      has_round = old.has_round;
      script = with_sessions (with_line line (so_far old).script.sessions) (so_far old).script;
      begun = begun_after_line (so_far old).begun line;
    } ≡ next_context (so_far old) keyword words
added_is_after old keyword words line kept stands says =
    let header : old.has_header ≡ true = kept.headed stands.workers in
    let workers : old.has_workers ≡ old.has_header = stands.workers ∙ sym header in
    let factor : old.has_factor ≡ (old.has_factor || is_factor keyword) = or_false old.has_factor (is_factor keyword) says.factor in
    let round : old.has_round ≡ (old.has_round || is_round keyword) = or_false old.has_round (is_round keyword) says.round in
    let script : with_sessions (with_line line (so_far old).script.sessions) (so_far old).script ≡ script_after (so_far old) keyword words =
    ap (λ (line : Line). with_sessions (with_line line (so_far old).script.sessions) (so_far old).script) (sym says.said) ∙ sym says.script in
    let begun : begun_after_line (so_far old).begun line ≡ begun_after (so_far old).begun keyword = sym says.begun in
    λ i. record { named = old.named; has_header = header i; has_workers = workers i; has_factor = factor i; has_round = round i; script = script i; begun = begun i }

-- a command that was added, or for which there was no memory
pub command_read : (old new : Reader) (result : Result (Unit {0}) LineFault) (keyword : Keyword) (words : List (List ℕ)) (line : Line) → IsKept old → IsInSession (so_far old) → SaysLine (so_far old) keyword words line
    → MatchResult result (λ _. HasAdded old new line) (λ fault. fault ≡ faults.NoMemory) → Reads old result new keyword words
command_read old new (Ok _) keyword words line kept stands says added = record { kept = added.kept; faultless = says.faultless; added = added.added ∙ added_is_after old keyword words line kept stands says }
command_read old new (Err (faults.Code why)) keyword words line kept stands says full = absurd cc
command_read old new (Err faults.NoMemory) keyword words line kept stands says full = tt

-- ---- what tests say

pub holds_not : (b : Bool) → false ≡ not b → b ≡ true
holds_not true is = refl
holds_not false is = absurd cc

pub fails_not : (b : Bool) → true ≡ not b → b ≡ false
fails_not true is = absurd cc
fails_not false is = refl

-- ---- keys

found_declared : (context : Context) (key : List ℕ) (place : ℕ) (kind : Kind) → IsKeyAt context key place kind → is_declared context key ≡ true
found_declared context key place kind found = ap is_some found.place_is

pub found_number : (context : Context) (key : List ℕ) (place : ℕ) (kind : Kind) → IsKeyAt context key place kind → number_in (keys_of context) key ≡ place + 1
found_number context key place kind found = ap (λ p. unwrap_or p 0 + 1) found.place_is

found_kind : (context : Context) (key : List ℕ) (place : ℕ) (kind : Kind) → IsKeyAt context key place kind → kind_of_key context key ≡ Some kind
found_kind context key place kind found = ap (option_and_then (λ p. slice_get context.script.kinds p)) found.place_is ∙ found.kind_is

found_payload : (context : Context) (key : List ℕ) (words : List (List ℕ)) (place : ℕ) (kind : Kind) → IsKeyAt context key place kind → payload_for (keys_of context) context.script.kinds key words ≡ payload_said kind words
found_payload context key words place kind found = ap (option_and_then (λ kind. payload_said kind words)) (found_kind context key place kind found)

found_replica : (context : Context) (key : List ℕ) (place worker : ℕ) (kind : Kind) → IsKeyAt context key place kind → is_replica context key worker ≡ list_any (λ replica. replica == worker) (slice_index_or (placed context.script.config) place [])
found_replica context key place worker kind found = ap (λ p. list_any (λ replica. replica == worker) (option_map_or (λ place. slice_index_or (placed context.script.config) place []) p [])) found.place_is

-- a put lacks a number where its payload's number says too much
pub too_much_is : (context : Context) (key : List ℕ) (words : List (List ℕ)) (found : Option (ℕ × Kind)) → MatchOption found (place_of (keys_of context) key ≡ None) (λ found. IsKeyAt context key found.0 found.1)
    → option_map_or (λ found. is_payload_too_great found.1 words) found false ≡ lacks_number context keywords.Put (key ∷ words)
too_much_is context key words None none = sym (ap (λ p. option_map_or (λ kind. is_payload_too_great kind words) (option_and_then (λ p. slice_get context.script.kinds p) p) false) none)
too_much_is context key words (Some found) is = sym (ap (λ kind. option_map_or (λ kind. is_payload_too_great kind words) kind false) (found_kind context key found.0 found.1 is))

-- so where that does not, the put lacks none
pub not_too_much : (context : Context) (key : List ℕ) (words : List (List ℕ)) (found : Option (ℕ × Kind)) (says : Bool) → MatchOption found (place_of (keys_of context) key ≡ None) (λ found. IsKeyAt context key found.0 found.1) → says ≡ option_map_or (λ found. is_payload_too_great found.1 words) found false → says ≡ false
    → lacks_number context keywords.Put (key ∷ words) ≡ false
not_too_much context key words found says is said fails = sym (too_much_is context key words found is) ∙ sym said ∙ fails

-- whether a get that names a worker names a replica of a key that is there
pub unknown_worker : (context : Context) (key word : List ℕ) (place worker : ℕ) (kind : Kind) (has : Bool) → IsKeyAt context key place kind → Some worker ≡ number_said word
    → list_any (λ replica. replica == worker) (slice_index_or (placed context.script.config) place []) ≡ has → not (is_declared context key && is_replica context key (number_of word)) ≡ not has
unknown_worker context key word place worker kind has found says is =
    let number : number_of word ≡ worker = ap (λ number. unwrap_or number 0) (sym says) in
    let replica : is_replica context key (number_of word) ≡ has = ap (is_replica context key) number ∙ found_replica context key place worker kind found ∙ is in
    λ i. not (found_declared context key place kind found i && replica i)

pub both_spelled : (key session : Bool) → true ≡ key → true ≡ session → not (key && session) ≡ false
both_spelled key session spells says = λ i. not (sym spells i && sym says i)

-- the payload that a put says for its key
pub put_payload : (context : Context) (key : List ℕ) (words : List (List ℕ)) (place : ℕ) (kind : Kind) (said : Option Payload) → IsKeyAt context key place kind → said ≡ payload_said kind words → payload_for (keys_of context) context.script.kinds key words ≡ said
put_payload context key words place kind said found says = found_payload context key words place kind found ∙ sym says

-- whether its amount is too great
great_amount : (context : Context) (key : List ℕ) (words : List (List ℕ)) (place : ℕ) (kind : Kind) → IsKeyAt context key place kind → has_great_amount context key words ≡ is_amount_too_great kind words
great_amount context key words place kind found = ap (λ kind. option_map_or (λ kind. is_amount_too_great kind words) kind false) (found_kind context key place kind found)

-- an amount that is said is not
amount_fits : (sign : Option Bool) (number : Option ℕ) (payload : Payload) → option_and_then (λ plus. option_map (payloads.Amount plus) (option_and_then (λ number. cond (nat_lt number (2 ^ 32)) (Some number) None) number)) sign ≡ Some payload → (is_some sign && option_map_or (λ number. nat_le (2 ^ 32) number) number false) ≡ false
amount_fits None number payload is = refl
amount_fits (Some plus) None payload is = refl
amount_fits (Some plus) (Some number) payload is = of_test (nat_lt number (2 ^ 32)) refl is
  where
    of_test : (fits : Bool) → nat_lt number (2 ^ 32) ≡ fits → option_map (payloads.Amount plus) (cond fits (Some number) None) ≡ Some payload → nat_le (2 ^ 32) number ≡ false
    of_test true fits is = grind (arith, nat_tests)
    of_test false fits is = absurd cc

said_fits : (kind : Kind) (words : List (List ℕ)) (payload : Payload) → payload_said kind words ≡ Some payload → is_amount_too_great kind words ≡ false
said_fits kinds.Counter [] payload is = refl
said_fits kinds.Counter (sign ∷ []) payload is = refl
said_fits kinds.Counter (sign ∷ amount ∷ []) payload is = amount_fits (sign_said sign) (number_said amount) payload is
said_fits kinds.Counter (sign ∷ amount ∷ other ∷ words) payload is = refl
said_fits kind words payload is = refl

-- so the amount of a put that says a payload for its key is not too great
pub payload_fits : (context : Context) (key : List ℕ) (words : List (List ℕ)) (place : ℕ) (kind : Kind) (payload : Payload) → IsKeyAt context key place kind → Some payload ≡ payload_said kind words → has_great_amount context key words ≡ false
payload_fits context key words place kind payload found says = great_amount context key words place kind found ∙ said_fits kind words payload (sym says)

-- why a put says no payload for its key
pub no_payload : (context : Context) (key : List ℕ) (words : List (List ℕ)) (place : ℕ) (kind : Kind) (why : Code) → SuitsPlace context keywords.Put (key ∷ words) → lacks_number context keywords.Put (key ∷ words) ≡ false → is_name key ≡ true → IsKeyAt context key place kind → None ≡ payload_said kind words → why ≡ cond (is_amount_too_great kind words) codes_of.Limit codes_of.Kind
    → code_of context keywords.Put (key ∷ words) ≡ Some why
no_payload context key words place kind why stands number named found none is = of_great (is_amount_too_great kind words) refl ∙ ap Some (sym is)
  where
    misfit : not (is_some (payload_for (keys_of context) context.script.kinds key words)) ≡ true
    misfit = ap (λ payload. not (is_some payload)) (put_payload context key words place kind None found none)

    of_great : (great : Bool) → is_amount_too_great kind words ≡ great → code_of context keywords.Put (key ∷ words) ≡ Some (cond great codes_of.Limit codes_of.Kind)
    of_great true is =
        let great = great_amount context key words place kind found ∙ is in
        code_limit _ _ _ stands.header stands.word number (ap not named) refl (ap not (found_declared context key place kind found)) (λ i. misfit i && not (great i)) (ap (λ great. great || nat_le 4096 (commands_of context)) great)
    of_great false is =
        let great = great_amount context key words place kind found ∙ is in
        code_kind _ _ _ stands.header stands.word number (ap not named) refl (ap not (found_declared context key place kind found)) (λ i. misfit i && not (great i))

-- ---- transactions

abbrev pub differs : Bool → Bool → Bool
differs true b = not b
differs false b = b

-- what begins or ends a transaction has no other fault
pub record IsBoundary (keyword : Keyword) (begun : Bool) : Type 0 where
  pub number : (context : Context) → lacks_number context keyword [] ≡ false
  pub name : lacks_name keyword [] ≡ false
  pub twice : (context : Context) → repeats context keyword [] ≡ false
  pub unknown : (context : Context) → is_unknown context keyword [] ≡ false
  pub kind : (context : Context) → misfits context keyword [] ≡ false
  pub limit : (context : Context) → passes_limit context keyword [] ≡ nat_le 4096 (commands_of context)
  pub transaction : (context : Context) → breaks_transaction context keyword ≡ (not (is_committed (level_of context)) || differs begun context.begun)

pub begins : IsBoundary keywords.Begin false
begins = record { number = λ context. refl; name = refl; twice = λ context. refl; unknown = λ context. refl; kind = λ context. refl; limit = λ context. refl; transaction = λ context. refl }

pub commits : IsBoundary keywords.Commit true
commits = record { number = λ context. refl; name = refl; twice = λ context. refl; unknown = λ context. refl; kind = λ context. refl; limit = λ context. refl; transaction = λ context. refl }

pub aborts : IsBoundary keywords.Abort true
aborts = record { number = λ context. refl; name = refl; twice = λ context. refl; unknown = λ context. refl; kind = λ context. refl; limit = λ context. refl; transaction = λ context. refl }

bound_broken : (committed begun now : Bool) → (committed ≡ false) ⊎ (now ≢ begun) → (not committed || differs begun now) ≡ true
bound_broken false begun now why = refl
bound_broken true true true why = elim why [ inl not_committed ↦ absurd cc | inr other ↦ absurd (other refl) ]
bound_broken true true false why = refl
bound_broken true false true why = refl
bound_broken true false false why = elim why [ inl not_committed ↦ absurd cc | inr other ↦ absurd (other refl) ]

bound_kept : (committed begun now : Bool) → committed ≡ true → now ≡ begun → (not committed || differs begun now) ≡ false
bound_kept false begun now is same = absurd cc
bound_kept true true true is same = refl
bound_kept true true false is same = absurd cc
bound_kept true false true is same = absurd cc
bound_kept true false false is same = refl

-- why a transaction cannot be begun or ended is the fault of the line
pub bound_fault : (context : Context) (keyword : Keyword) (begun : Bool) (fault : LineFault) → IsBoundary keyword begun → SuitsPlace context keyword [] → IsBoundFault context begun fault → IsFaultOf (code_of context keyword []) fault
bound_fault context keyword begun (faults.Code codes_of.Limit) bounds stands full = code_limit context keyword [] stands.header stands.word (bounds.number context) bounds.name (bounds.twice context) (bounds.unknown context) (bounds.kind context) (bounds.limit context ∙ full)
bound_fault context keyword begun (faults.Code codes_of.Transaction) bounds stands why = code_transaction context keyword [] stands.header stands.word (bounds.number context) bounds.name (bounds.twice context) (bounds.unknown context) (bounds.kind context) (bounds.limit context ∙ why.0) (bounds.transaction context ∙ bound_broken (is_committed (level_of context)) begun context.begun why.1)
bound_fault context keyword begun fault bounds stands none = absurd none

-- where it can be, the line has no fault
pub bound_faultless : (context : Context) (keyword : Keyword) (begun : Bool) → IsBoundary keyword begun → SuitsPlace context keyword [] → MayBound context begun → code_of context keyword [] ≡ None
bound_faultless context keyword begun bounds stands may = code_none context keyword [] stands.header stands.word (bounds.number context) bounds.name (bounds.twice context) (bounds.unknown context) (bounds.kind context) (bounds.limit context ∙ may.room) (bounds.transaction context ∙ bound_kept (is_committed (level_of context)) begun context.begun may.committed may.is_begun)

-- ---- the numbers of replicas

-- the numbers of a row of workers
row_within : (workers n : ℕ) → n ≤ workers → All (IsOneOf workers) (range_with_len 1 n)
row_within workers n few = λ k d within.
    let lt : k < n = omega (arith, length-range_with_len 1 n) in
    subst (IsOneOf workers) (sym (get_or-range_with_len 1 n k d lt)) (omega arith, omega arith)

-- the points of these workers are theirs
points_within : (workers : ℕ) (row : List ℕ) → All (IsOneOf workers) row → All (λ (point : Point). IsOneOf workers point.worker) (flat_map (λ worker. map (point_of worker) (range_with_len 0 16)) row)
points_within workers [] all = All-nil (λ (point : Point). IsOneOf workers point.worker)
points_within workers (worker ∷ row) all =
    let Known : Point → Type 0 = λ point. IsOneOf workers point.worker in
    let own : List Point = map (point_of worker) (range_with_len 0 16) in
    All-same Known _ _ (flat_map-cons (λ worker. map (point_of worker) (range_with_len 0 16)) worker row)
    (All-append Known own _ (All-map Known (point_of worker) (range_with_len 0 16) (λ k d within. All-head (IsOneOf workers) worker row all)) (points_within workers row (All-tail (IsOneOf workers) worker row all)))

-- the workers met at points of workers
met_within : (workers : ℕ) (points : List Point) → All (λ (point : Point). IsOneOf workers point.worker) points → All (IsOneOf workers) (workers_met points)
met_within workers [] all = All-nil (IsOneOf workers)
met_within workers (point ∷ points) all =
    let Known : Point → Type 0 = λ point. IsOneOf workers point.worker in
    All-cons (IsOneOf workers) point.worker _ (All-head Known point points all) (All-filter (λ worker. not (worker == point.worker)) (IsOneOf workers) (workers_met points) (met_within workers points (All-tail Known point points all)))

-- the workers met on a walk
walk_within : (workers hash factor : ℕ) (ring : List Point) → IsRing workers ring → All (IsOneOf workers) (walked ring hash factor)
walk_within workers hash factor ring is =
    let Known : Point → Type 0 = λ point. IsOneOf workers point.worker in
    let all : All Known ring = All-permutation Known (points_of workers) ring is.all (points_within workers (range_with_len 1 workers) (row_within workers workers (omega arith))) in
    All-take (IsOneOf workers) factor (workers_met (round ring hash)) (met_within workers (round ring hash) (All-append Known _ _ (All-filter (λ point. nat_le hash point.hash) Known ring all) (All-filter (λ point. nat_lt point.hash hash) Known ring all)))

pinned_within : (workers : ℕ) (pins walk : List ℕ) → All (IsOneOf workers) pins → All (IsOneOf workers) walk → All (IsOneOf workers) (pinned_or pins walk)
pinned_within workers [] walk pinned met = met
pinned_within workers (pin ∷ pins) walk pinned met = pinned

-- a replica of a key is one of at most eight workers
pub replica_few : (config : Config) (place worker : ℕ) → IsValidConfig config → place < length config.keys → list_any (λ replica. replica == worker) (slice_index_or (placed config) place []) ≡ true → worker ≤ 8
replica_few config place worker valid within is =
    let known = is_placement config in
    let key : KeyPlace = get_or config.keys place (record { name = []; pins = []; factor = None }) in
    let pins = All-get_or (λ (key : KeyPlace). ArePins config.workers key.pins) config.keys place (record { name = []; pins = []; factor = None }) within valid.pins in
    let row : slice_index_or (placed config) place [] ≡ replicas_on known.ring config key = ap (λ (table : List (List ℕ)). slice_index_or table place []) known.replicas ∙ get_or-map (replicas_on known.ring config) config.keys place (record { name = []; pins = []; factor = None }) [] within in
    let all : All (IsOneOf config.workers) (replicas_on known.ring config key) = pinned_within config.workers key.pins (walked known.ring (hash_of key.name) (factor_of config key)) pins.are_workers (walk_within config.workers (hash_of key.name) (factor_of config key) known.ring known.is_ring) in
    let at = Any-from_list_any (λ replica. replica == worker) (replicas_on known.ring config key) (ap (list_any (λ replica. replica == worker)) (sym row) ∙ is) in
    let same : at.1 ≡ worker = eqb-true at.1 worker at.4 in
    let one : IsOneOf config.workers at.1 = subst (IsOneOf config.workers) at.3 (all at.0 at.1 at.2) in
    let most : config.workers ≤ 8 = valid.workers_most in
    omega arith

-- ---- where the keys live

pub placed_keys : (config : Config) → length (placed config) ≡ length config.keys
placed_keys config = let known = is_placement config in ap length known.replicas ∙ length-map config.keys (replicas_on known.ring config)

-- ---- the end

-- where the number of workers stands, the rest of what may follow does
all_two : (workers rest : Bool) → not (workers && rest) ≡ false → workers ≡ true
all_two true rest is = refl
all_two false rest is = absurd cc

-- an end line after no transaction adds nothing
pub end_read : (reader : Reader) → IsKept reader → SuitsPlace (so_far reader) keywords.End [] → begun_of reader.sessions ≡ false → HasRead reader reader keywords.End []
end_read reader kept stands ended =
    let workers : reader.has_workers ≡ true = all_two reader.has_workers _ stands.word in
    let header : reader.has_header ≡ true = kept.headed workers in
    let both : reader.has_workers ≡ reader.has_header = workers ∙ sym header in
    let factor : reader.has_factor ≡ (reader.has_factor || false) = or_false reader.has_factor false refl in
    let round : reader.has_round ≡ (reader.has_round || false) = or_false reader.has_round false refl in
    record {
      kept = kept;
      faultless = code_none _ _ _ stands.header stands.word refl refl refl refl refl refl ended;
      added = λ i. record { named = reader.named; has_header = header i; has_workers = both i; has_factor = factor i; has_round = round i; script = (so_far reader).script; begun = (so_far reader).begun };
    }

-- ---- where a line may stand

pub and_here : (a rest : Bool) → a ≡ false → (a && rest) ≡ false
and_here true rest none = absurd cc
and_here false rest none = refl

pub and_there : (a rest : Bool) → rest ≡ false → (a && rest) ≡ false
and_there true rest none = none
and_there false rest none = refl

-- a line that does not suit its session or the version
pub unsuited : (context : Context) (keyword : Keyword) (words : List (List ℕ)) → (suits (level_of context) keyword words && is_in_version context.script.version keyword words) ≡ false → lacks_word context keyword words ≡ true
unsuited context keyword words fails = ap not (and_there (may_follow context keyword) _ (and_there (may_have keyword words) (suits (level_of context) keyword words && is_in_version context.script.version keyword words) fails))

pub header_stands : (has is : Bool) → is ≡ true → (not has && not is) ≡ false
header_stands true is stands = refl
header_stands false is stands = ap not stands

pub header_kept : (has is : Bool) → has ≡ true → (not has && not is) ≡ false
header_kept has is stands = ap (λ has. not has && not is) stands

-- what an entry shows, where it is this one
pub shown : {entry : Entry} (is : Entry) (keyword : Keyword) (words : List (List ℕ)) → entry ≡ is → Shows entry keyword words → Shows is keyword words
shown is keyword words same shows = subst (λ (entry : Entry). Shows entry keyword words) same shows

pub stands_at : (context : Context) (keyword is : Keyword) (words are : List (List ℕ)) → keyword ≡ is → words ≡ are → SuitsPlace context keyword words → SuitsPlace context is are
stands_at context keyword is words are same alike stands = subst (λ (line : Keyword × List (List ℕ)). SuitsPlace context line.0 line.1) (λ i. (same i, alike i)) stands

pub reads_at : (old new : Reader) (result : Result (Unit {0}) LineFault) (keyword is : Keyword) (words are : List (List ℕ)) → keyword ≡ is → words ≡ are → Reads old result new is are → Reads old result new keyword words
reads_at old new result keyword is words are same alike reads = subst (λ (line : Keyword × List (List ℕ)). Reads old result new line.0 line.1) (λ i. (sym same i, sym alike i)) reads

-- ---- the header

-- a header may stand where none stands before
none_before : (has rest : Bool) → not (not has && rest) ≡ false → has ≡ false
none_before true rest is = absurd cc
none_before false rest is = refl

no_workers : (has_workers has_header : Bool) → (has_workers ≡ true → has_header ≡ true) → has_header ≡ false → has_workers ≡ has_header
no_workers true has_header headed none = sym (headed refl)
no_workers false has_header headed none = sym none

-- the version that a header says
pub version_is : (word : List ℕ) (two : Bool) → bytes_eq word (codes "2") ≡ two → is_version word ≡ true → cond two 2 1 ≡ number_of word
version_is word true is either = sym (ap number_of ((bytes_eq-Decides word (codes "2")).0 is))
version_is word false is either =
    let one : bytes_eq word (codes "1") ≡ true = or_false (bytes_eq word (codes "1")) (bytes_eq word (codes "2")) is ∙ either in
    sym (ap number_of ((bytes_eq-Decides word (codes "1")).0 one))

-- a header that was read
pub header_read : (reader : Reader) (word : List ℕ) (version : ℕ) → IsKept reader → SuitsPlace (so_far reader) keywords.Anna (word ∷ []) → (is_version word ≡ true → version ≡ number_of word) → HasRead reader (record reader { has_header = true; version = version }) keywords.Anna (word ∷ [])
header_read reader word version kept stands says =
    let none : reader.has_header ≡ false = none_before reader.has_header _ stands.word in
    let is : is_version word ≡ true = not-false _ (ap (λ has. not has && not (is_version word)) (sym none) ∙ stands.header) in
    let workers : reader.has_workers ≡ reader.has_header = no_workers reader.has_workers reader.has_header kept.headed none in
    let factor : reader.has_factor ≡ (reader.has_factor || false) = or_false reader.has_factor false refl in
    let round : reader.has_round ≡ (reader.has_round || false) = or_false reader.has_round false refl in
    record {
      kept = record { headed = λ _. refl; fresh = kept.fresh; valid = kept.valid; names = kept.names; kinds = kept.kinds; few_keys = kept.few_keys; sessions = kept.sessions };
      faultless = code_none _ _ _ stands.header stands.word refl refl refl refl refl refl refl;
      added = λ i. record { named = reader.named; has_header = true; has_workers = workers i; has_factor = factor i; has_round = round i; script = with_version (says is i) (so_far reader).script; begun = (so_far reader).begun };
    }
