-- The sessions that an await may name, and another session may come after, are all sessions of the script.
use Rattle.std.specs.Prelude.{◌≡◌, ◌≢◌, ℕ, ◌<◌, ◌||◌, Bool, true, false, cond, List, [], ◌∷◌, ◌++◌, map, fold, length, slice_index_or, Option, Some, None, AllPairs}
use Rattle.std.specs.List.{before_first, cons_option, list_any}
use Rattle.std.specs.Str.{bytes_eq}
use Rattle.std.proofs.Common.{refl, sym, ap, subst, ◌∙◌, append_assoc, arith}
use Rattle.std.proofs.Math.Seq.{get_or-append_seam}
use Rattle.std.proofs.lemmas.Bool.{false≢true, false_from_ne_true}
use Rattle.std.proofs.lemmas.List.{append-nil, get_or_append_left, length-append}
use Rattle.std.proofs.lemmas.List.Elements.{filter_map-append}
use Rattle.std.proofs.lemmas.List.Folds.{list_any_none}
use Rattle.std.proofs.lemmas.Slice.Eq.{bytes_eq-Decides}
use Rattle.composed_value.specs.declared.kind.Kind.{Kind}
use Rattle.session_known.specs.declared.script.SessionPlan.{SessionPlan}
use Rattle.script_reader.specs.Grammar.{AreInOrder, sessions_named}
use Rattle.script_reader.specs.Keywords.{is_session}
use Rattle.script_reader.specs.LineReads.{says_end}
use Rattle.script_reader.specs.Lines.{Statement, those, word, statement_of, statements_of, is_end_line, has_end}
use Rattle.script_reader.specs.Said.{sessions_said, with_name}
use Rattle.script_reader.proofs.GrammarLemmas.{before_end, before_none, end_no_session, end_push}
use Rattle.script_reader.proofs.SaidLaws.{those_skip}
use Rattle.script_reader.proofs.ScriptEndLemmas.{silent_after}

-- ---- no session line stands after the end

-- the end is no session line
end_adds_none : (before : List Statement) (said : Option Statement) → says_end said ≡ true → those is_session (before ++ cons_option said []) ≡ those is_session before
end_adds_none before None ends = absurd (false≢true ends)
end_adds_none before (Some statement) ends = those_skip is_session before statement (end_no_session statement.keyword ends)

-- one more line before the end, or the end
sessions_step : (named front : List (List ℕ)) (line : List ℕ) (rest : List (List ℕ)) (ends : Bool) → AreInOrder named (front ++ line ∷ rest) → has_end front ≡ false → says_end (statement_of line) ≡ ends
    → (AreInOrder named ((front ++ line ∷ []) ++ rest) → has_end (front ++ line ∷ []) ≡ false → those is_session (before_first is_end_line (statements_of ((front ++ line ∷ []) ++ rest))) ≡ those is_session (statements_of ((front ++ line ∷ []) ++ rest)))
    → those is_session (before_first is_end_line (statements_of (front ++ line ∷ rest))) ≡ those is_session (statements_of (front ++ line ∷ rest))
sessions_step named front line rest true order none is next =
    let ended : has_end (front ++ line ∷ []) ≡ true = end_push front line ∙ (λ i. none i || is i) in
    let silent : statements_of rest ≡ [] = silent_after named (front ++ line ∷ []) rest (subst (AreInOrder named) (sym (append_assoc front (line ∷ []) rest)) order) ended in
    let all : statements_of (front ++ line ∷ rest) ≡ statements_of front ++ cons_option (statement_of line) [] = filter_map-append statement_of front (line ∷ rest) ∙ ap (λ more. statements_of front ++ cons_option (statement_of line) more) silent in
    ap (λ statements. those is_session statements) (before_end front line rest none is) ∙ sym (ap (λ statements. those is_session statements) all ∙ end_adds_none (statements_of front) (statement_of line) is)
sessions_step named front line rest false order none is next =
    let assoc = append_assoc front (line ∷ []) rest in
    subst (λ lines. those is_session (before_first is_end_line (statements_of lines)) ≡ those is_session (statements_of lines)) assoc (next (subst (AreInOrder named) (sym assoc) order) (end_push front line ∙ (λ i. none i || is i)))

sessions_before_end : (named front rest : List (List ℕ)) → AreInOrder named (front ++ rest) → has_end front ≡ false → those is_session (before_first is_end_line (statements_of (front ++ rest))) ≡ those is_session (statements_of (front ++ rest))
sessions_before_end named front [] order none = ap (λ statements. those is_session statements) (before_none is_end_line (statements_of (front ++ [])) (ap has_end (append-nil front) ∙ none))
sessions_before_end named front (line ∷ rest) order none = sessions_step named front line rest (says_end (statement_of line)) order none refl (sessions_before_end named (front ++ line ∷ []) rest)

-- ---- each session line gives a session of its name

names_step : (test : Bool) (plan : SessionPlan) (statement : Statement) (plans : List SessionPlan) (statements : List Statement) → plan.name ≡ word 0 statement → map (λ plan. plan.name) plans ≡ map (word 0) statements
    → map (λ plan. plan.name) (cond test (plan ∷ plans) plans) ≡ map (word 0) (cond test (statement ∷ statements) statements)
names_step true plan statement plans statements first rest = λ i. first i ∷ rest i
names_step false plan statement plans statements first rest = rest

session_names : (keys : List (List ℕ)) (of_keys : List Kind) (named : List (List ℕ)) (statements : List Statement) → map (λ plan. plan.name) (sessions_said keys of_keys named statements) ≡ map (word 0) (those is_session statements)
session_names keys of_keys named [] = refl
session_names keys of_keys named (statement ∷ statements) = names_step (is_session statement.keyword) _ statement (sessions_said keys of_keys named statements) (those is_session statements) refl (session_names keys of_keys named statements)

-- ---- different names are kept as they are

-- a name that stands after others is none of them
is_other : (done names : List (List ℕ)) (name : List ℕ) → AllPairs (λ a b. a ≢ b) (done ++ name ∷ names) → list_any (bytes_eq name) done ≡ false
is_other done names name different = list_any_none (bytes_eq name) done (λ k d lt. false_from_ne_true _ (λ same.
    let below : length done < length (done ++ name ∷ names) = omega (arith, length-append done (name ∷ names)) in
    different k (length done) d lt below (get_or_append_left done (name ∷ names) d k lt ∙ sym ((bytes_eq-Decides name (slice_index_or done k d)).0 same) ∙ sym (get_or-append_seam done name names d))))

names_once : (done names : List (List ℕ)) → AllPairs (λ a b. a ≢ b) (done ++ names) → fold with_name done names ≡ done ++ names
names_once done [] different = sym (append-nil done)
names_once done (name ∷ names) different =
    let assoc = append_assoc done (name ∷ []) names in
    ap (λ found. fold with_name (cond found done (done ++ name ∷ [])) names) (is_other done names name different)
    ∙ names_once (done ++ name ∷ []) names (subst (AllPairs (λ a b. a ≢ b)) (sym assoc) different) ∙ assoc

-- The sessions that may be named are those of the script, where their names are different.
pub named_are : (keys : List (List ℕ)) (of_keys : List Kind) (lines : List (List ℕ)) → AreInOrder (sessions_named lines) lines → AllPairs (λ a b. a ≢ b) (map (λ plan. plan.name) (sessions_said keys of_keys (sessions_named lines) (statements_of lines)))
    → sessions_named lines ≡ map (λ plan. plan.name) (sessions_said keys of_keys (sessions_named lines) (statements_of lines))
named_are keys of_keys lines order different =
    let named = sessions_named lines in
    let names = session_names keys of_keys named (statements_of lines) in
    ap (λ statements. fold with_name [] (map (word 0) statements)) (sessions_before_end named [] lines order refl)
    ∙ ap (fold with_name []) (sym names) ∙ names_once [] (map (λ plan. plan.name) (sessions_said keys of_keys named (statements_of lines))) different
