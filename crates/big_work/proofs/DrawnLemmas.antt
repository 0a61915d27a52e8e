-- Lists that are made one item after another: those made so far, and those that are left.
use Rattle.std.specs.Prelude.{◌≡◌, ℕ, ◌+◌, ◌-◌, ◌≤◌, ◌<◌, List, [], ◌∷◌, ◌++◌, map, codes, None}
use Rattle.std.specs.Fmt.{decimal}
use Rattle.std.specs.List.{range_with_len}
use Rattle.std.proofs.Common.{suc, sym, ap, ◌∙◌, append-nil, append_assoc, arith}
use Rattle.std.proofs.lemmas.List.FromFn.{map-range_with_len_more}
use Rattle.session_known.specs.declared.script.Level.{Level}
use Rattle.session_known.specs.declared.script.Line.{Line}
use Rattle.session_known.specs.declared.script.SessionPlan.{SessionPlan}
use Rattle.big_work.specs.Big.{command_line, command_lines, command_state, session_level, session_plans, state_after}

-- one more of what is made of each number from 1 on
pub range_pushed : {X : Type 0} (f : ℕ → X) (key : ℕ) (before : List X) → 1 ≤ key → before ≡ map f (range_with_len 1 (key - 1))
    → before ++ f key ∷ [] ≡ map f (range_with_len 1 (key + 1 - 1))
range_pushed f key before some are =
    let last : key - 1 + 1 ≡ key + 1 - 1 = omega arith in
    ap (λ items. items ++ f key ∷ []) are ∙ sym (map-range_with_len_more f 1 (key - 1) key (omega arith)) ∙ ap (λ n. map f (range_with_len 1 n)) last

-- ---- the commands of a session

-- the first of those that are left is made
pub line_made : (level : Level) (command last state state' : ℕ) (whole made made' : List Line) (line : Line) → command < last → line ≡ command_line level command state
    → state' ≡ command_state level command state → made' ≡ made ++ line ∷ []
    → whole ≡ made ++ command_lines level command (last - command) state → whole ≡ made' ++ command_lines level (command + 1) (last - (command + 1)) state'
unfolding command_lines
line_made level command last state state' whole made made' line more line_is state_is made_is are =
    let one : last - command ≡ suc (last - (command + 1)) = omega arith in
    let left = command_lines level (command + 1) (last - (command + 1)) (command_state level command state) in
    let made_are : made' ≡ made ++ command_line level command state ∷ [] = made_is ∙ ap (λ line. made ++ line ∷ []) line_is in
    are ∙ ap (λ n. made ++ command_lines level command n state) one ∙ sym (append_assoc made (command_line level command state ∷ []) left)
    ∙ (λ j. sym made_are j ++ command_lines level (command + 1) (last - (command + 1)) (sym state_is j))

-- and the state after them stays
pub line_passed : (level : Level) (command last state state' whole : ℕ) → command < last → state' ≡ command_state level command state
    → whole ≡ state_after level command (last - command) state → whole ≡ state_after level (command + 1) (last - (command + 1)) state'
unfolding state_after
line_passed level command last state state' whole more state_is are =
    let one : last - command ≡ suc (last - (command + 1)) = omega arith in
    are ∙ ap (λ n. state_after level command n state) one ∙ ap (state_after level (command + 1) (last - (command + 1))) (sym state_is)

-- no line is left
pub lines_made : (level : Level) (command last state : ℕ) (whole made : List Line) → last ≤ command → whole ≡ made ++ command_lines level command (last - command) state
    → made ≡ whole
unfolding command_lines
lines_made level command last state whole made over are =
    let none : last - command ≡ 0 = omega arith in
    sym (are ∙ ap (λ n. made ++ command_lines level command n state) none ∙ append-nil made)

pub lines_passed : (level : Level) (command last state whole : ℕ) → last ≤ command → whole ≡ state_after level command (last - command) state → state ≡ whole
unfolding state_after
lines_passed level command last state whole over are =
    let none : last - command ≡ 0 = omega arith in
    sym (are ∙ ap (λ n. state_after level command n state) none)

-- ---- the sessions

-- the first of those that are left is made
pub plan_made : (session last state state' : ℕ) (whole made made' : List SessionPlan) (name : List ℕ) (level : Level) (lines : List Line) → session < last
    → name ≡ codes "s" ++ decimal session → level ≡ session_level session
    → lines ≡ command_lines level 0 400 state → state' ≡ state_after level 0 400 state → made' ≡ made ++ record { name = name; level = level; after = None; lines = lines } ∷ []
    → whole ≡ made ++ session_plans session (last - session) state → whole ≡ made' ++ session_plans (session + 1) (last - (session + 1)) state'
unfolding session_plans
plan_made session last state state' whole made made' name level lines more name_is level_is lines_are state_is made_is are =
    let one : last - session ≡ suc (last - (session + 1)) = omega arith in
    let of : Level = session_level session in
    let plan : SessionPlan = record { name = codes "s" ++ decimal session; level = of; after = None; lines = command_lines of 0 400 state } in
    let lines_of : lines ≡ command_lines of 0 400 state = lines_are ∙ ap (λ (l : Level). command_lines l 0 400 state) level_is in
    let state_of : state' ≡ state_after of 0 400 state = state_is ∙ ap (λ (l : Level). state_after l 0 400 state) level_is in
    let made_are : made' ≡ made ++ plan ∷ [] = made_is ∙ (λ j. made ++ record { name = name_is j; level = level_is j; after = None; lines = lines_of j } ∷ []) in
    let left = session_plans (session + 1) (last - (session + 1)) (state_after of 0 400 state) in
    are ∙ ap (λ n. made ++ session_plans session n state) one ∙ sym (append_assoc made (plan ∷ []) left)
    ∙ (λ j. sym made_are j ++ session_plans (session + 1) (last - (session + 1)) (sym state_of j))

-- no session is left
pub plans_made : (session last state : ℕ) (whole made : List SessionPlan) → last ≤ session → whole ≡ made ++ session_plans session (last - session) state → made ≡ whole
unfolding session_plans
plans_made session last state whole made over are =
    let none : last - session ≡ 0 = omega arith in
    sym (are ∙ ap (λ n. made ++ session_plans session n state) none ∙ append-nil made)
