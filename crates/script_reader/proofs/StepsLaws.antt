-- What the lines say with one more.
use Rattle.std.specs.Prelude.{◌≡◌, ℕ, Bool, true, false, not, ◌&&◌, nat_lt, nat_le, List, [], ◌∷◌, ◌++◌, map, length, None}
use Rattle.std.proofs.Common.{refl, sym, ap, ◌∙◌, arith}
use Rattle.std.proofs.lemmas.Bool.{and_parts, not-true, lt-ltb, leb-true}
use Rattle.std.proofs.lemmas.List.{map-append, nil_from_length, length-append}
use Rattle.session_known.specs.declared.script.Script.{Script}
use Rattle.session_known.specs.declared.script.SessionPlan.{SessionPlan}
use Rattle.script_reader.specs.Faults.{Context, context_of, last_begins, keys_of, may_follow, may_have, repeats, code_of}
use Rattle.script_reader.proofs.FaultsLaws.{follow_fine, words_fine, twice_fine}
use Rattle.script_reader.specs.Keywords.{is_factor, is_round, is_key, is_session, is_boundary}
use Rattle.script_reader.specs.Lines.{Statement, those, word}
use Rattle.script_reader.specs.Said.{number_or, key_said, kind_in, line_said, own_commands, sessions_said, script_said}
use Rattle.script_reader.proofs.SaidLaws.{those_skip, those_keep, some_push, last_begins_push, number_first, workers_kept, key_names, sessions_kept, sessions_begun, sessions_line, no_session}
use Rattle.script_reader.specs.Steps.{with_line, script_after, begun_after, next_context}
use Rattle.script_reader.specs.declared.keyword.Keyword.{Keyword}
use Rattle.script_reader.specs.declared.keyword.Keyword.TheVariants.{Anna, Workers, Factor, Round, Key, Session, Begin, Commit, Abort, End, Unknown}

-- scripts with the same parts are the same
same_script : (a b : Script) → a.version ≡ b.version → a.config.workers ≡ b.config.workers → a.config.factor ≡ b.config.factor → a.config.keys ≡ b.config.keys → a.round ≡ b.round → a.kinds ≡ b.kinds → a.sessions ≡ b.sessions → a ≡ b
same_script a b version workers factor keys round kinds sessions =
    λ i. record { version = version i; config = record { workers = workers i; factor = factor i; keys = keys i }; round = round i; kinds = kinds i; sessions = sessions i }

-- what lines say is the same where its parts are
same_context : (a b : Context) → a.named ≡ b.named → a.has_header ≡ b.has_header → a.has_workers ≡ b.has_workers → a.has_factor ≡ b.has_factor → a.has_round ≡ b.has_round → a.script ≡ b.script → a.begun ≡ b.begun → a ≡ b
same_context a b named header workers factor round script begun =
    λ i. record { named = named i; has_header = header i; has_workers = workers i; has_factor = factor i; has_round = round i; script = script i; begun = begun i }

-- the version stays after the first line
version_kept : (before : List Statement) (statement : Statement) → nat_lt 1 (length before) ≡ true → number_or 1 (before ++ statement ∷ []) ≡ number_or 1 before
version_kept [] statement after = absurd cc
version_kept (first ∷ before) statement after = refl

-- the names of the keys are the first words after `key`
pub keys_are : (named : List (List ℕ)) (before : List Statement) → keys_of (context_of named before) ≡ map (word 0) (those is_key before)
keys_are named before = key_names (those is_key before)

-- what stays of the script, by what the line is not
module _ (named : List (List ℕ)) (before : List Statement) (statement : Statement) where
  -- the sessions, where the keys stay
  old_keys : is_key statement.keyword ≡ false → (script_said named (before ++ statement ∷ [])).sessions ≡ sessions_said (map (word 0) (those is_key before)) (map kind_in (those is_key before)) named (before ++ statement ∷ [])
  old_keys other = ap (λ (keys : List Statement). sessions_said (map (word 0) keys) (map kind_in keys) named (before ++ statement ∷ [])) (those_skip is_key before statement other)

  -- the keys of the config
  keys_kept : is_key statement.keyword ≡ false → (script_said named (before ++ statement ∷ [])).config.keys ≡ (script_said named before).config.keys
  keys_kept other = ap (λ (keys : List Statement). map key_said keys) (those_skip is_key before statement other)

  -- their kinds
  kinds_kept : is_key statement.keyword ≡ false → (script_said named (before ++ statement ∷ [])).kinds ≡ (script_said named before).kinds
  kinds_kept other = ap (λ (keys : List Statement). map kind_in keys) (those_skip is_key before statement other)

  -- the replication factor
  factor_kept : is_factor statement.keyword ≡ false → (script_said named (before ++ statement ∷ [])).config.factor ≡ (script_said named before).config.factor
  factor_kept other = ap (λ (lines : List Statement). number_or 1 lines) (those_skip is_factor before statement other)

  -- the number of requests between two rounds
  round_kept : is_round statement.keyword ≡ false → (script_said named (before ++ statement ∷ [])).round ≡ (script_said named before).round
  round_kept other = ap (λ (lines : List Statement). number_or 4 lines) (those_skip is_round before statement other)

  -- the sessions, where the line is no key, begins no session and is no command
  plans_kept : is_key statement.keyword ≡ false → is_session statement.keyword ≡ false → own_commands (statement ∷ []) ≡ [] → (script_said named (before ++ statement ∷ [])).sessions ≡ (script_said named before).sessions
  plans_kept no_key no_start none = old_keys no_key ∙ sessions_kept (map (word 0) (those is_key before)) (map kind_in (those is_key before)) named before statement no_start none

-- the first line says the version
anna_push : (named : List (List ℕ)) (before : List Statement) (words : List (List ℕ)) → may_follow (context_of named before) Anna ≡ true → may_have Anna words ≡ true
    → script_said named (before ++ record { keyword = Anna; words = words } ∷ []) ≡ script_after (context_of named before) Anna words
anna_push named before [] follows has = absurd cc
anna_push named before (version ∷ other ∷ words) follows has = absurd cc
anna_push named [] (version ∷ []) follows has = refl
anna_push named (first ∷ before) (version ∷ []) follows has = let some = lt-ltb 0 (length (first ∷ before)) (omega arith) in let none = not-true (nat_lt 0 (length (first ∷ before))) follows in absurd cc

-- the second line says the number of workers
workers_push : (named : List (List ℕ)) (before : List Statement) (words : List (List ℕ)) → may_follow (context_of named before) Workers ≡ true → may_have Workers words ≡ true
    → script_said named (before ++ record { keyword = Workers; words = words } ∷ []) ≡ script_after (context_of named before) Workers words
workers_push named before [] follows has = absurd cc
workers_push named before (number ∷ other ∷ words) follows has = absurd cc
workers_push named [] (number ∷ []) follows has = absurd cc
workers_push named (first ∷ next ∷ before) (number ∷ []) follows has =
    let two = lt-ltb 1 (length (first ∷ next ∷ before)) (omega arith) in
    let one = not-true (nat_lt 1 (length (first ∷ next ∷ before))) (and_parts (nat_lt 0 (length (first ∷ next ∷ before))) (not (nat_lt 1 (length (first ∷ next ∷ before)))) follows).1 in
    absurd cc
workers_push named (first ∷ []) (number ∷ []) follows has =
    let statement : Statement = record { keyword = Workers; words = number ∷ [] } in
    let before = first ∷ [] in
    same_script (script_said named (before ++ statement ∷ [])) (script_after (context_of named before) Workers (number ∷ [])) refl refl
    (factor_kept named before statement refl) (keys_kept named before statement refl) (round_kept named before statement refl) (kinds_kept named before statement refl) (plans_kept named before statement refl refl refl)

-- the last line says nothing of the script
end_push : (named : List (List ℕ)) (before : List Statement) (words : List (List ℕ)) → nat_lt 1 (length before) ≡ true
    → script_said named (before ++ record { keyword = End; words = words } ∷ []) ≡ script_after (context_of named before) End words
end_push named before words after =
    let statement : Statement = record { keyword = End; words = words } in
    same_script (script_said named (before ++ statement ∷ [])) (script_after (context_of named before) End words) (version_kept before statement after) (workers_kept before statement after)
    (factor_kept named before statement refl) (keys_kept named before statement refl) (round_kept named before statement refl) (kinds_kept named before statement refl) (plans_kept named before statement refl refl refl)

-- a line that says the replication factor
factor_push : (named : List (List ℕ)) (before : List Statement) (words : List (List ℕ)) → nat_lt 1 (length before) ≡ true → may_have Factor words ≡ true → repeats (context_of named before) Factor words ≡ false
    → script_said named (before ++ record { keyword = Factor; words = words } ∷ []) ≡ script_after (context_of named before) Factor words
factor_push named before [] after has new = absurd cc
factor_push named before (number ∷ other ∷ words) after has new = absurd cc
factor_push named before (number ∷ []) after has new =
    let statement : Statement = record { keyword = Factor; words = number ∷ [] } in
    same_script (script_said named (before ++ statement ∷ [])) (script_after (context_of named before) Factor (number ∷ [])) (version_kept before statement after) (workers_kept before statement after)
    (ap (λ (lines : List Statement). number_or 1 lines) (those_keep is_factor before statement refl) ∙ number_first 1 (those is_factor before) statement new)
    (keys_kept named before statement refl) (round_kept named before statement refl) (kinds_kept named before statement refl) (plans_kept named before statement refl refl refl)

-- a line that says the number of requests between two rounds
round_push : (named : List (List ℕ)) (before : List Statement) (words : List (List ℕ)) → nat_lt 1 (length before) ≡ true → may_have Round words ≡ true → repeats (context_of named before) Round words ≡ false
    → script_said named (before ++ record { keyword = Round; words = words } ∷ []) ≡ script_after (context_of named before) Round words
round_push named before [] after has new = absurd cc
round_push named before (number ∷ other ∷ words) after has new = absurd cc
round_push named before (number ∷ []) after has new =
    let statement : Statement = record { keyword = Round; words = number ∷ [] } in
    same_script (script_said named (before ++ statement ∷ [])) (script_after (context_of named before) Round (number ∷ [])) (version_kept before statement after) (workers_kept before statement after)
    (factor_kept named before statement refl) (keys_kept named before statement refl)
    (ap (λ (lines : List Statement). number_or 4 lines) (those_keep is_round before statement refl) ∙ number_first 4 (those is_round before) statement new)
    (kinds_kept named before statement refl) (plans_kept named before statement refl refl refl)

-- a line that says a key
key_push : (named : List (List ℕ)) (before : List Statement) (words : List (List ℕ)) → may_follow (context_of named before) Key ≡ true
    → script_said named (before ++ record { keyword = Key; words = words } ∷ []) ≡ script_after (context_of named before) Key words
key_push named before words follows =
    let statement : Statement = record { keyword = Key; words = words } in
    let keys = map (word 0) (those is_key before) in
    let kinds = map kind_in (those is_key before) in
    let keys' = map (word 0) (those is_key (before ++ statement ∷ [])) in
    let kinds' = map kind_in (those is_key (before ++ statement ∷ [])) in
    let sessions = sessions_said keys kinds named before in
    let may = and_parts (nat_lt 1 (length before)) (nat_le (length sessions) 0) follows in
    let few = leb-true (length sessions) 0 may.1 in
    let none : length sessions ≡ 0 = omega arith in
    let one_more = those_keep is_key before statement refl in
    same_script (script_said named (before ++ statement ∷ [])) (script_after (context_of named before) Key words) (version_kept before statement may.0) (workers_kept before statement may.0)
    (factor_kept named before statement refl)
    (ap (λ (lines : List Statement). map key_said lines) one_more ∙ map-append key_said (those is_key before) (statement ∷ []))
    (round_kept named before statement refl)
    (ap (λ (lines : List Statement). map kind_in lines) one_more ∙ map-append kind_in (those is_key before) (statement ∷ []))
    (no_session keys kinds keys' kinds' named before statement refl none ∙ sym (nil_from_length sessions none))

-- a line that begins a session
session_push : (named : List (List ℕ)) (before : List Statement) (words : List (List ℕ)) → nat_lt 1 (length before) ≡ true
    → script_said named (before ++ record { keyword = Session; words = words } ∷ []) ≡ script_after (context_of named before) Session words
session_push named before words after =
    let statement : Statement = record { keyword = Session; words = words } in
    same_script (script_said named (before ++ statement ∷ [])) (script_after (context_of named before) Session words) (version_kept before statement after) (workers_kept before statement after)
    (factor_kept named before statement refl) (keys_kept named before statement refl) (round_kept named before statement refl) (kinds_kept named before statement refl)
    (old_keys named before statement refl ∙ sessions_begun (map (word 0) (those is_key before)) (map kind_in (those is_key before)) named before statement refl)

-- the sessions with a command line
command_plans : (named : List (List ℕ)) (before : List Statement) (statement : Statement) → is_key statement.keyword ≡ false → is_session statement.keyword ≡ false → own_commands (statement ∷ []) ≡ statement ∷ []
    → (script_said named (before ++ statement ∷ [])).sessions
    ≡ with_line (line_said (keys_of (context_of named before)) (context_of named before).script.kinds named statement.keyword statement.words) (context_of named before).script.sessions
command_plans named before statement no_key no_start one =
    let kinds = map kind_in (those is_key before) in
    let keys = map (word 0) (those is_key before) in
    old_keys named before statement no_key
    ∙ sessions_line keys kinds named before statement no_start one
    ∙ ap (λ (names : List (List ℕ)). with_line (line_said names kinds named statement.keyword statement.words) (sessions_said keys kinds named before)) (sym (keys_are named before))

-- a command changes nothing but the sessions
command_push : (named : List (List ℕ)) (before : List Statement) (statement : Statement) (sessions : List SessionPlan) → nat_lt 1 (length before) ≡ true → is_key statement.keyword ≡ false → is_factor statement.keyword ≡ false → is_round statement.keyword ≡ false
    → (script_said named (before ++ statement ∷ [])).sessions ≡ sessions
    → script_said named (before ++ statement ∷ []) ≡ record { version = (script_said named before).version; config = (script_said named before).config; round = (script_said named before).round; kinds = (script_said named before).kinds; sessions = sessions }
command_push named before statement sessions after no_key no_factor no_round same =
    same_script (script_said named (before ++ statement ∷ [])) (record { version = (script_said named before).version; config = (script_said named before).config; round = (script_said named before).round; kinds = (script_said named before).kinds; sessions = sessions })
    (version_kept before statement after) (workers_kept before statement after) (factor_kept named before statement no_factor) (keys_kept named before statement no_key) (round_kept named before statement no_round) (kinds_kept named before statement no_key) same

-- such a line stands after the number of workers
after_workers : (after rest : Bool) → (after && rest) ≡ true → after ≡ true
after_workers after rest both = (and_parts after rest both).0

-- what a line that may stand there adds to the script
script_push : (named : List (List ℕ)) (before : List Statement) (keyword : Keyword) (words : List (List ℕ)) → may_follow (context_of named before) keyword ≡ true → may_have keyword words ≡ true → repeats (context_of named before) keyword words ≡ false
    → script_said named (before ++ record { keyword = keyword; words = words } ∷ []) ≡ script_after (context_of named before) keyword words
script_push named before Anna words follows has new = anna_push named before words follows has
script_push named before Workers words follows has new = workers_push named before words follows has
script_push named before Factor words follows has new = factor_push named before words (after_workers (nat_lt 1 (length before)) _ follows) has new
script_push named before Round words follows has new = round_push named before words (after_workers (nat_lt 1 (length before)) _ follows) has new
script_push named before Key words follows has new = key_push named before words follows
script_push named before Session words follows has new = session_push named before words follows
script_push named before End words follows has new = end_push named before words follows
script_push named before Unknown words follows has new = let never = (and_parts (nat_lt 1 (length before)) false follows).1 in absurd cc
script_push named before keyword words follows has new =
    let statement : Statement = record { keyword = keyword; words = words } in
    command_push named before statement _ (after_workers (nat_lt 1 (length before)) _ follows) refl refl refl (command_plans named before statement refl refl refl)

-- whether a transaction is begun after a line
begun_push : (before : List Statement) (keyword : Keyword) (words : List (List ℕ)) → last_begins (those is_boundary (before ++ record { keyword = keyword; words = words } ∷ [])) ≡ begun_after (last_begins (those is_boundary before)) keyword
begun_push before Begin words =
    let statement : Statement = record { keyword = Begin; words = words } in
    ap last_begins (those_keep is_boundary before statement refl) ∙ last_begins_push (those is_boundary before) statement
begun_push before Commit words =
    let statement : Statement = record { keyword = Commit; words = words } in
    ap last_begins (those_keep is_boundary before statement refl) ∙ last_begins_push (those is_boundary before) statement
begun_push before Abort words =
    let statement : Statement = record { keyword = Abort; words = words } in
    ap last_begins (those_keep is_boundary before statement refl) ∙ last_begins_push (those is_boundary before) statement
begun_push before keyword words = ap last_begins (those_skip is_boundary before (record { keyword = keyword; words = words }) refl)

-- with one more there is a header
header_push : (before : List Statement) (statement : Statement) → nat_lt 0 (length (before ++ statement ∷ [])) ≡ true
header_push before statement = let one_more = length-append before (statement ∷ []) in lt-ltb 0 (length (before ++ statement ∷ [])) (omega arith)

-- with one more there are two lines where there was one
second_push : (before : List Statement) (statement : Statement) → nat_lt 1 (length (before ++ statement ∷ [])) ≡ nat_lt 0 (length before)
second_push [] statement = refl
second_push (first ∷ before) statement =
    let one_more = length-append (first ∷ before) (statement ∷ []) in
    lt-ltb 1 (length (first ∷ before ++ statement ∷ [])) (omega arith) ∙ sym (lt-ltb 0 (length (first ∷ before)) (omega arith))

-- the same, of a line by its keyword and its words
context_push : (named : List (List ℕ)) (before : List Statement) (keyword : Keyword) (words : List (List ℕ)) → code_of (context_of named before) keyword words ≡ None
    → context_of named (before ++ record { keyword = keyword; words = words } ∷ []) ≡ next_context (context_of named before) keyword words
context_push named before keyword words faultless =
    let context = context_of named before in
    let statement : Statement = record { keyword = keyword; words = words } in
    same_context (context_of named (before ++ statement ∷ [])) (next_context context keyword words) refl (header_push before statement) (second_push before statement)
    (some_push is_factor before statement) (some_push is_round before statement)
    (script_push named before keyword words (follow_fine context keyword words faultless) (words_fine context keyword words faultless) (twice_fine context keyword words faultless))
    (begun_push before keyword words)

-- A line that is not at fault adds what it says.
pub context_after : (named : List (List ℕ)) (before : List Statement) (statement : Statement) → code_of (context_of named before) statement.keyword statement.words ≡ None → context_of named (before ++ statement ∷ []) ≡ next_context (context_of named before) statement.keyword statement.words
context_after named before statement faultless = context_push named before statement.keyword statement.words faultless
