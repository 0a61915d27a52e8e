-- What statements say with one more at their end, part by part.
use Rattle.std.specs.Prelude.{◌≡◌, ℕ, ◌<◌, Bool, true, false, cond, ◌||◌, nat_lt, List, [], ◌∷◌, ◌++◌, map, drop, length}
use Rattle.std.proofs.Common.{refl, sym, ap, ◌∙◌, arith}
use Rattle.std.proofs.lemmas.Bool.{cond-true, cond-false, lt-ltb}
use Rattle.std.proofs.lemmas.List.{append-nil, map-append}
use Rattle.std.proofs.lemmas.List.Elements.{filter-append}
use Rattle.composed_value.specs.declared.kind.Kind.{Kind}
use Rattle.session_known.specs.declared.script.Line.{Line}
use Rattle.session_known.specs.declared.script.SessionPlan.{SessionPlan}
use Rattle.script_reader.specs.Faults.{last_begins}
use Rattle.script_reader.specs.Keywords.{is_session, is_command, is_begin}
use Rattle.script_reader.specs.Lines.{Statement, those, word}
use Rattle.script_reader.specs.Said.{number_or, key_said, level_in, line_said, own_commands, after_said, sessions_said}
use Rattle.script_reader.specs.Steps.{with_line, new_session}
use Rattle.script_reader.specs.declared.keyword.Keyword.{Keyword}

-- ---- those of a keyword

-- with one more, those of a keyword are those before, and that one where it is one of them
pub those_push : (test : Keyword → Bool) (before : List Statement) (statement : Statement) → those test (before ++ statement ∷ []) ≡ those test before ++ cond (test statement.keyword) (statement ∷ []) []
those_push test before statement = filter-append (λ (s : Statement). test s.keyword) before (statement ∷ [])

-- with one that is another, those of a keyword are those before
pub those_skip : (test : Keyword → Bool) (before : List Statement) (statement : Statement) → test statement.keyword ≡ false → those test (before ++ statement ∷ []) ≡ those test before
those_skip test before statement other =
    those_push test before statement ∙ ap (λ (rest : List Statement). those test before ++ rest) (cond-false (test statement.keyword) (statement ∷ []) [] other) ∙ append-nil (those test before)

-- with one that is of the keyword, it is the last of those
pub those_keep : (test : Keyword → Bool) (before : List Statement) (statement : Statement) → test statement.keyword ≡ true → those test (before ++ statement ∷ []) ≡ those test before ++ statement ∷ []
those_keep test before statement same =
    those_push test before statement ∙ ap (λ (rest : List Statement). those test before ++ rest) (cond-true (test statement.keyword) (statement ∷ []) [] same)

-- there is one in a list where there is one in it before, or the last is one
some_with : (xs : List Statement) (statement : Statement) (is : Bool) → nat_lt 0 (length (xs ++ cond is (statement ∷ []) [])) ≡ (nat_lt 0 (length xs) || is)
some_with [] statement true = refl
some_with [] statement false = refl
some_with (x ∷ xs) statement is = lt-ltb 0 (length (x ∷ xs ++ cond is (statement ∷ []) [])) (omega arith) ∙ sym (ap (λ some. some || is) (lt-ltb 0 (length (x ∷ xs)) (omega arith)))

-- there is one of a keyword with one more where there was one, or that is one
pub some_push : (test : Keyword → Bool) (before : List Statement) (statement : Statement) → nat_lt 0 (length (those test (before ++ statement ∷ []))) ≡ (nat_lt 0 (length (those test before)) || test statement.keyword)
some_push test before statement = ap (λ (xs : List Statement). nat_lt 0 (length xs)) (those_push test before statement) ∙ some_with (those test before) statement (test statement.keyword)

-- the last statement says whether one begins a transaction
pub last_begins_push : (before : List Statement) (statement : Statement) → last_begins (before ++ statement ∷ []) ≡ is_begin statement.keyword
last_begins_push [] statement = refl
last_begins_push (first ∷ []) statement = refl
last_begins_push (first ∷ next ∷ before) statement = last_begins_push (next ∷ before) statement

-- ---- numbers

-- where there is none of a keyword, the number is that of the one more
pub number_first : (other : ℕ) (before : List Statement) (statement : Statement) → nat_lt 0 (length before) ≡ false → number_or other (before ++ statement ∷ []) ≡ number_or other (statement ∷ [])
number_first other [] statement none = refl
number_first other (first ∷ before) statement none = let some = lt-ltb 0 (length (first ∷ before)) (omega arith) in absurd cc

-- after the first two lines the number of workers stays
pub workers_kept : (before : List Statement) (statement : Statement) → nat_lt 1 (length before) ≡ true → number_or 0 (drop 1 (before ++ statement ∷ [])) ≡ number_or 0 (drop 1 before)
workers_kept [] statement two = absurd cc
workers_kept (first ∷ []) statement two = absurd cc
workers_kept (first ∷ next ∷ before) statement two = refl

-- ---- keys

-- the names of the keys
pub key_names : (keys : List Statement) → map (λ key. key.name) (map key_said keys) ≡ map (word 0) keys
key_names [] = refl
key_names (key ∷ keys) = ap (λ (names : List (List ℕ)). word 0 key ∷ names) (key_names keys)

-- ---- the command lines of a session

-- a session that follows adds no command
own_stop_as : (session command : Bool) (first : Statement) (own own' : List Statement) → own' ≡ own → cond session [] (cond command (first ∷ own') own') ≡ cond session [] (cond command (first ∷ own) own)
own_stop_as session command first own own' same = ap (λ (o : List Statement). cond session [] (cond command (first ∷ o) o)) same

-- a statement that is no command adds none
own_stop : (before : List Statement) (statement : Statement) → own_commands (statement ∷ []) ≡ [] → own_commands (before ++ statement ∷ []) ≡ own_commands before
own_stop [] statement none = none
own_stop (first ∷ before) statement none = own_stop_as (is_session first.keyword) (is_command first.keyword) first (own_commands before) (own_commands (before ++ statement ∷ [])) (own_stop before statement none)

-- one step of that a command is added
own_more_as : (session command : Bool) (first statement : Statement) (own own' : List Statement) (plan : SessionPlan) (plans : List SessionPlan) → length (cond session (plan ∷ plans) plans) ≡ 0 → (length plans ≡ 0 → own' ≡ own ++ statement ∷ [])
    → cond session [] (cond command (first ∷ own') own') ≡ cond session [] (cond command (first ∷ own) own) ++ statement ∷ []
own_more_as true command first statement own own' plan plans none more = absurd (omega arith)
own_more_as false true first statement own own' plan plans none more = ap (λ (o : List Statement). first ∷ o) (more none)
own_more_as false false first statement own own' plan plans none more = more none

-- where no session follows, a command is added
own_more : (keys : List (List ℕ)) (of_keys : List Kind) (named : List (List ℕ)) (before : List Statement) (statement : Statement) → own_commands (statement ∷ []) ≡ statement ∷ [] → length (sessions_said keys of_keys named before) ≡ 0
    → own_commands (before ++ statement ∷ []) ≡ own_commands before ++ statement ∷ []
own_more keys of_keys named [] statement one none = one
own_more keys of_keys named (first ∷ before) statement one none =
    own_more_as (is_session first.keyword) (is_command first.keyword) first statement (own_commands before) (own_commands (before ++ statement ∷ [])) _ (sessions_said keys of_keys named before) none (own_more keys of_keys named before statement one)

-- one step of that nothing is added
own_past_as : (session command : Bool) (first : Statement) (own own' : List Statement) (plan : SessionPlan) (plans : List SessionPlan) → 0 < length (cond session (plan ∷ plans) plans) → (0 < length plans → own' ≡ own)
    → cond session [] (cond command (first ∷ own') own') ≡ cond session [] (cond command (first ∷ own) own)
own_past_as true command first own own' plan plans some same = refl
own_past_as false command first own own' plan plans some same = ap (λ (o : List Statement). cond command (first ∷ o) o) (same some)

-- where a session follows, nothing is added
own_past : (keys : List (List ℕ)) (of_keys : List Kind) (named : List (List ℕ)) (before : List Statement) (statement : Statement) → 0 < length (sessions_said keys of_keys named before)
    → own_commands (before ++ statement ∷ []) ≡ own_commands before
own_past keys of_keys named [] statement some = absurd (omega arith)
own_past keys of_keys named (first ∷ before) statement some =
    own_past_as (is_session first.keyword) (is_command first.keyword) first (own_commands before) (own_commands (before ++ statement ∷ [])) _ (sessions_said keys of_keys named before) some (own_past keys of_keys named before statement)

-- ---- sessions

-- the commands that command lines say
abbrev lines_said : List (List ℕ) → List Kind → List (List ℕ) → List Statement → List Line
lines_said keys of_keys named statements = map (λ line. line_said keys of_keys named line.keyword line.words) statements

-- the session that a statement begins, with these lines
abbrev session_with : List (List ℕ) → Statement → List Line → SessionPlan
session_with named statement lines = record { name = word 0 statement; level = level_in statement; after = after_said named statement.words; lines = lines }

-- one step of that the sessions stay
kept_as : (session : Bool) (plan plan' : SessionPlan) (plans plans' : List SessionPlan) → plan' ≡ plan → plans' ≡ plans → cond session (plan' ∷ plans') plans' ≡ cond session (plan ∷ plans) plans
kept_as session plan plan' plans plans' first rest = λ i. cond session (first i ∷ rest i) (rest i)

-- a statement that begins no session and is no command leaves the sessions as they are
pub sessions_kept : (keys : List (List ℕ)) (of_keys : List Kind) (named : List (List ℕ)) (before : List Statement) (statement : Statement) → is_session statement.keyword ≡ false → own_commands (statement ∷ []) ≡ []
    → sessions_said keys of_keys named (before ++ statement ∷ []) ≡ sessions_said keys of_keys named before
sessions_kept keys of_keys named [] statement other none = cond-false (is_session statement.keyword) (session_with named statement [] ∷ []) [] other
sessions_kept keys of_keys named (first ∷ before) statement other none =
    kept_as (is_session first.keyword) (session_with named first (lines_said keys of_keys named (own_commands before))) (session_with named first (lines_said keys of_keys named (own_commands (before ++ statement ∷ []))))
    (sessions_said keys of_keys named before) (sessions_said keys of_keys named (before ++ statement ∷ []))
    (ap (λ (own : List Statement). session_with named first (lines_said keys of_keys named own)) (own_stop before statement none))
    (sessions_kept keys of_keys named before statement other none)

-- one step of that a session is added
begun_as : (session : Bool) (plan plan' last : SessionPlan) (plans plans' : List SessionPlan) → plan' ≡ plan → plans' ≡ plans ++ last ∷ [] → cond session (plan' ∷ plans') plans' ≡ cond session (plan ∷ plans) plans ++ last ∷ []
begun_as true plan plan' last plans plans' first rest = λ i. first i ∷ rest i
begun_as false plan plan' last plans plans' first rest = rest

-- a statement that begins a session adds that, with no lines
pub sessions_begun : (keys : List (List ℕ)) (of_keys : List Kind) (named : List (List ℕ)) (before : List Statement) (statement : Statement) → is_session statement.keyword ≡ true
    → sessions_said keys of_keys named (before ++ statement ∷ []) ≡ sessions_said keys of_keys named before ++ new_session named statement ∷ []
sessions_begun keys of_keys named [] statement is = cond-true (is_session statement.keyword) (session_with named statement [] ∷ []) [] is
sessions_begun keys of_keys named (first ∷ before) statement is =
    begun_as (is_session first.keyword) (session_with named first (lines_said keys of_keys named (own_commands before))) (session_with named first (lines_said keys of_keys named (own_commands (before ++ statement ∷ [])))) (new_session named statement)
    (sessions_said keys of_keys named before) (sessions_said keys of_keys named (before ++ statement ∷ []))
    (ap (λ (own : List Statement). session_with named first (lines_said keys of_keys named own)) (own_stop before statement (cond-true (is_session statement.keyword) [] (cond (is_command statement.keyword) (statement ∷ []) []) is)))
    (sessions_begun keys of_keys named before statement is)

-- one step of that a line is added to the last session
line_added_as : (named : List (List ℕ)) (session : Bool) (first : Statement) (own own' : List Line) (line : Line) (plans plans' : List SessionPlan) → (length plans ≡ 0 → own' ≡ own ++ line ∷ []) → (0 < length plans → own' ≡ own) → plans' ≡ with_line line plans
    → cond session (session_with named first own' ∷ plans') plans' ≡ with_line line (cond session (session_with named first own ∷ plans) plans)
line_added_as named false first own own' line plans plans' more same rest = rest
line_added_as named true first own own' line [] plans' more same rest = λ i. session_with named first (more refl i) ∷ rest i
line_added_as named true first own own' line (plan ∷ plans) plans' more same rest = let unchanged : own' ≡ own = same (omega arith) in λ i. session_with named first (unchanged i) ∷ rest i

-- a command adds its line to the last session
pub sessions_line : (keys : List (List ℕ)) (of_keys : List Kind) (named : List (List ℕ)) (before : List Statement) (statement : Statement) → is_session statement.keyword ≡ false → own_commands (statement ∷ []) ≡ statement ∷ []
    → sessions_said keys of_keys named (before ++ statement ∷ []) ≡ with_line (line_said keys of_keys named statement.keyword statement.words) (sessions_said keys of_keys named before)
sessions_line keys of_keys named [] statement other one = cond-false (is_session statement.keyword) (session_with named statement [] ∷ []) [] other
sessions_line keys of_keys named (first ∷ before) statement other one =
    let said = λ (own : List Statement). lines_said keys of_keys named own in
    line_added_as named (is_session first.keyword) first (said (own_commands before)) (said (own_commands (before ++ statement ∷ []))) (line_said keys of_keys named statement.keyword statement.words)
    (sessions_said keys of_keys named before) (sessions_said keys of_keys named (before ++ statement ∷ []))
    (λ none. ap said (own_more keys of_keys named before statement one none) ∙ map-append (λ (line : Statement). line_said keys of_keys named line.keyword line.words) (own_commands before) (statement ∷ []))
    (λ some. ap said (own_past keys of_keys named before statement some))
    (sessions_line keys of_keys named before statement other one)

-- one step of that there is no session
no_session_as : (session : Bool) (plan plan' : SessionPlan) (plans plans' : List SessionPlan) → length (cond session (plan ∷ plans) plans) ≡ 0 → (length plans ≡ 0 → plans' ≡ []) → cond session (plan' ∷ plans') plans' ≡ []
no_session_as true plan plan' plans plans' none still = absurd (omega arith)
no_session_as false plan plan' plans plans' none still = still none

-- where there is no session, and a statement begins none, there is none of other keys either
pub no_session : (keys : List (List ℕ)) (of_keys : List Kind) (keys' : List (List ℕ)) (of_keys' : List Kind) (named : List (List ℕ)) (before : List Statement) (statement : Statement) → is_session statement.keyword ≡ false → length (sessions_said keys of_keys named before) ≡ 0
    → sessions_said keys' of_keys' named (before ++ statement ∷ []) ≡ []
no_session keys of_keys keys' of_keys' named [] statement other none = cond-false (is_session statement.keyword) (session_with named statement [] ∷ []) [] other
no_session keys of_keys keys' of_keys' named (first ∷ before) statement other none =
    no_session_as (is_session first.keyword) _ (session_with named first (lines_said keys' of_keys' named (own_commands (before ++ statement ∷ []))))
    (sessions_said keys of_keys named before) (sessions_said keys' of_keys' named (before ++ statement ∷ [])) none
    (no_session keys of_keys keys' of_keys' named before statement other)
