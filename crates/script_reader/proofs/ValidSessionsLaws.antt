-- What is kept of sessions that take a line, and of sessions that take another session.
use Rattle.std.specs.Prelude.{◌≡◌, ℕ, ◌+◌, ◌<◌, ◌≤◌, Bool, true, false, List, [], ◌∷◌, ◌++◌, map, length, sum_by, All}
use Rattle.std.specs.List.{list_any}
use Rattle.std.specs.Str.{bytes_eq}
use Rattle.std.proofs.Common.{suc, refl, sym, ap, subst, arith}
use Rattle.std.proofs.lemmas.List.{map_push, length_push}
use Rattle.std.proofs.lemmas.List.Elements.{All-nil, All-cons, All-head, All-tail, All-push}
use Rattle.std.proofs.lemmas.List.Sums.{sum_by-cons, sum_by_push}
use Rattle.composed_value.specs.declared.kind.Kind.{Kind}
use Rattle.script_reader.specs.Faults.{last_level}
use Rattle.script_reader.specs.Steps.{with_line}
use Rattle.placement.specs.Name.{IsName}
use Rattle.script_reader.proofs.ValidContext.{AreApart, AreLed, AreSessions, Leads, Stands}
use Rattle.script_reader.proofs.ValidListsLaws.{apart_push}
use Rattle.session_known.specs.declared.script.Level.{Level}
use Rattle.session_known.specs.declared.script.Line.{Line}
use Rattle.session_known.specs.declared.script.Line.TheVariants.{Put, Get, Await, Begin, Commit, Abort}
use Rattle.session_known.specs.declared.script.SessionPlan.{SessionPlan}

-- the names of sessions stay where a line is added
line_names : (line : Line) (plans : List SessionPlan) → map (λ plan. plan.name) (with_line line plans) ≡ map (λ plan. plan.name) plans
line_names line [] = refl
line_names line (plan ∷ []) = refl
line_names line (plan ∷ other ∷ plans) = ap (λ names. plan.name ∷ names) (line_names line (other ∷ plans))

-- as many sessions stay where a line is added
line_length : (line : Line) (plans : List SessionPlan) → length (with_line line plans) ≡ length plans
line_length line [] = refl
line_length line (plan ∷ []) = refl
line_length line (plan ∷ other ∷ plans) = ap suc (line_length line (other ∷ plans))

-- the number of lines of a session
abbrev lines_of : SessionPlan → ℕ
lines_of plan = length plan.lines

-- there is one line more at most where a line is added
line_count : (line : Line) (plans : List SessionPlan) → sum_by lines_of (with_line line plans) ≤ sum_by lines_of plans + 1
line_count line [] = omega arith
line_count line (plan ∷ []) = omega (arith, length_push plan.lines line)
line_count line (plan ∷ other ∷ plans) = omega (arith, line_count line (other ∷ plans), sum_by-cons lines_of plan (other ∷ plans), sum_by-cons lines_of plan (with_line line (other ∷ plans)))

-- each line of the sessions may stand where an added one may in the last session
line_stands : (May : Level → Line → Type 0) (line : Line) (plans : List SessionPlan) → May (last_level plans) line → All (λ plan. All (May plan.level) plan.lines) plans → All (λ plan. All (May plan.level) plan.lines) (with_line line plans)
line_stands May line [] may all = all
line_stands May line (plan ∷ []) may all =
    All-cons (λ plan. All (May plan.level) plan.lines) _ [] (All-push (May plan.level) plan.lines line (All-head (λ plan. All (May plan.level) plan.lines) plan [] all) may) (All-nil (λ plan. All (May plan.level) plan.lines))
line_stands May line (plan ∷ other ∷ plans) may all =
    let rest = line_stands May line (other ∷ plans) may (All-tail (λ plan. All (May plan.level) plan.lines) plan (other ∷ plans) all) in
    All-cons (λ plan. All (May plan.level) plan.lines) plan (with_line line (other ∷ plans)) (All-head (λ plan. All (May plan.level) plan.lines) plan (other ∷ plans) all) rest

-- lines lead on with one more
leads_push : (begun middle after : Bool) (lines : List Line) (line : Line) → Leads begun lines middle → Leads middle (line ∷ []) after → Leads begun (lines ++ line ∷ []) after
leads_push begun middle after [] line first next = subst (λ b. Leads b (line ∷ []) after) (sym first) next
leads_push begun middle after (Put key payload ∷ lines) line first next = leads_push begun middle after lines line first next
leads_push begun middle after (Get key worker ∷ lines) line first next = leads_push begun middle after lines line first next
leads_push begun middle after (Await key session count ∷ lines) line first next = leads_push begun middle after lines line first next
leads_push begun middle after (Begin ∷ lines) line first next = (first.0, leads_push true middle after lines line first.1 next)
leads_push begun middle after (Commit ∷ lines) line first next = (first.0, leads_push false middle after lines line first.1 next)
leads_push begun middle after (Abort ∷ lines) line first next = (first.0, leads_push false middle after lines line first.1 next)

-- a session that has ended its transactions stands before others
led_cons : (plan : SessionPlan) (plans : List SessionPlan) (begun : Bool) → 0 < length plans → Leads false plan.lines false → AreLed plans begun → AreLed (plan ∷ plans) begun
led_cons plan [] begun some leads led = absurd (omega arith)
led_cons plan (other ∷ plans) begun some leads led = (leads, led)

-- sessions lead on with one more line in the last
led_line : (line : Line) (plans : List SessionPlan) (begun after : Bool) → 0 < length plans → AreLed plans begun → Leads begun (line ∷ []) after → AreLed (with_line line plans) after
led_line line [] begun after some led next = absurd (omega arith)
led_line line (plan ∷ []) begun after some led next = leads_push false begun after plan.lines line led next
led_line line (plan ∷ other ∷ plans) begun after some led next =
    let length_is = line_length line (other ∷ plans) in
    led_cons plan (with_line line (other ∷ plans)) after (omega arith) led.0 (led_line line (other ∷ plans) begun after (omega arith) led.1 next)

-- sessions that have ended their transactions stand before one that has no line
led_session : (plan : SessionPlan) (plans : List SessionPlan) → plan.lines ≡ [] → AreLed plans false → AreLed (plans ++ plan ∷ []) false
led_session plan [] none led = subst (λ lines. Leads false lines false) (sym none) refl
led_session plan (first ∷ []) none led = (led, subst (λ lines. Leads false lines false) (sym none) refl)
led_session plan (first ∷ other ∷ plans) none led = (led.0, led_session plan (other ∷ plans) none led.1)

-- sessions that take a line
pub sessions_line : (keys : ℕ) (of_keys : List Kind) (named : ℕ) (table : List (List ℕ)) (begun after : Bool) (plans : List SessionPlan) (line : Line)
    → AreSessions keys of_keys named table begun plans → 0 < length plans → sum_by (λ plan. length plan.lines) plans < 4096 → Stands keys of_keys named table (last_level plans) line → Leads begun (line ∷ []) after
    → AreSessions keys of_keys named table after (with_line line plans)
sessions_line keys of_keys named table begun after plans line are some room stands leads = record {
  names = subst AreApart (sym (line_names line plans)) are.names;
  few = let length_is = line_length line plans in let few = are.few in omega arith;
  few_lines = let count = line_count line plans in omega arith;
  stand = line_stands (Stands keys of_keys named table) line plans stands are.stand;
  led = led_line line plans begun after some are.led leads;
}

-- sessions that have ended their transactions, and take a session that has no line
pub sessions_push : (keys : ℕ) (of_keys : List Kind) (named : ℕ) (table : List (List ℕ)) (begun : Bool) (plans : List SessionPlan) (plan : SessionPlan)
    → AreSessions keys of_keys named table begun plans → begun ≡ false → plan.lines ≡ [] → length plans < 16 → IsName plan.name → list_any (bytes_eq plan.name) (map (λ plan. plan.name) plans) ≡ false
    → AreSessions keys of_keys named table begun (plans ++ plan ∷ [])
sessions_push keys of_keys named table begun plans plan are ended none room is_name new = record {
  names = subst AreApart (sym (map_push (λ plan. plan.name) plans plan)) (apart_push (map (λ plan. plan.name) plans) plan.name are.names is_name new);
  few = omega (arith, length_push plans plan);
  few_lines = let count = sum_by_push (λ (plan : SessionPlan). length plan.lines) plans plan in let few = are.few_lines in let no_lines : length plan.lines ≡ 0 = ap length none in omega arith;
  stand = All-push (λ plan. All (Stands keys of_keys named table plan.level) plan.lines) plans plan are.stand (subst (λ lines. All (Stands keys of_keys named table plan.level) lines) (sym none) (All-nil (Stands keys of_keys named table plan.level)));
  led = subst (λ b. AreLed (plans ++ plan ∷ []) b) (sym ended) (led_session plan plans none (subst (λ b. AreLed plans b) ended are.led));
}

-- where there are no sessions, nothing depends on the keys
pub sessions_none : (keys keys' : ℕ) (of_keys of_keys' : List Kind) (named : ℕ) (table table' : List (List ℕ)) (begun : Bool) (plans : List SessionPlan)
    → length plans ≤ 0 → AreSessions keys of_keys named table begun plans → AreSessions keys' of_keys' named table' begun plans
sessions_none keys keys' of_keys of_keys' named table table' begun plans none are = record {
  names = are.names;
  few = are.few;
  few_lines = are.few_lines;
  stand = λ k d lt. absurd (omega arith);
  led = are.led;
}
