-- What each session knows at its end follows from what the others know at theirs.
use Rattle.std.specs.Prelude.{◌≡◌, ℕ, zero, suc, ◌+◌, ◌-◌, ◌<◌, List, [], ◌∷◌, ◌++◌, length, take, slice_get, slice_index_or, MatchOption, Option, Some, None, All, ⊤}
use Rattle.std.proofs.Common.{refl, sym, ap, subst, ◌∙◌, arith}
use Rattle.std.proofs.Math.Seq.{get_or-append_seam}
use Rattle.std.proofs.lemmas.List.{append-nil, append_assoc, get_or_append_left, length-append, length-take-le}
use Rattle.std.proofs.lemmas.Option.{get_or_from_slice_get, slice_get_within}
use Rattle.placement.specs.Config.{IsOneOf}
use Rattle.session_known.specs.Accepted.{client_of, origin_of, end_of, ends_from, ends_of}
use Rattle.session_known.specs.Script.{IsValidScript, MayComeAfter}
use Rattle.session_known.specs.Session.{Knowledge, nothing_known, handed, start, state_after}
use Rattle.session_known.specs.declared.report.Answer.{Answer}
use Rattle.session_known.specs.declared.report.Report.{Report}
use Rattle.session_known.specs.declared.script.Level.{Level}
use Rattle.session_known.specs.declared.script.Script.{Script}
use Rattle.session_known.specs.declared.script.SessionPlan.{SessionPlan}

-- one of so many sessions, if there is one
abbrev pub IsEarlier : ℕ → Option ℕ → Type 0
IsEarlier many after = MatchOption after ⊤ (IsOneOf many)

-- each of the sessions after so many comes after an earlier one, if it comes after one
abbrev pub ComeLater : ℕ → List SessionPlan → Type 0
ComeLater many [] = ⊤
ComeLater many (plan ∷ plans) = IsEarlier many plan.after × ComeLater (many + 1) plans

come_later_by_place : (many : ℕ) (plans : List SessionPlan) → ((place : ℕ) (plan : SessionPlan) → slice_get plans place ≡ Some plan → IsEarlier (many + place) plan.after) → ComeLater many plans
come_later_by_place many [] each = tt
come_later_by_place many (plan ∷ plans) each =
    let first : many + 0 ≡ many = omega arith in
    let next : (place : ℕ) → many + suc place ≡ many + 1 + place = λ place. omega arith in
    (subst (λ n. IsEarlier n plan.after) first (each 0 plan refl), come_later_by_place (many + 1) plans (λ place other here. subst (λ n. IsEarlier n other.after) (next place) (each (suc place) other here)))

may_is_earlier : (version : ℕ) (before : List SessionPlan) (level : Level) (after : Option ℕ) → MatchOption after ⊤ (MayComeAfter version before level) → IsEarlier (length before) after
may_is_earlier version before level None may = tt
may_is_earlier version before level (Some after) may = may.is_earlier

-- so it is with those of a valid script
pub earlier_at : (script : Script) (table : List (List ℕ)) → IsValidScript script table → (place : ℕ) (plan : SessionPlan) → slice_get script.sessions place ≡ Some plan → IsEarlier place plan.after
earlier_at script table valid place plan here =
    let within = slice_get_within script.sessions place plan here in
    let many : length (take place script.sessions) ≡ place = length-take-le place script.sessions (omega (arith, within)) in
    subst (λ n. IsEarlier n plan.after) many (may_is_earlier script.version (take place script.sessions) plan.level plan.after (valid.orders place plan here))

-- where no session comes after another, each may stand where it does
pub none_comes_after : (script : Script) → All (λ plan. plan.after ≡ None) script.sessions → (place : ℕ) (plan : SessionPlan) → slice_get script.sessions place ≡ Some plan → MatchOption plan.after ⊤ (MayComeAfter script.version (take place script.sessions) plan.level)
none_comes_after script none place plan here =
    let is : plan.after ≡ None = subst (λ (plan : SessionPlan). plan.after ≡ None) (get_or_from_slice_get script.sessions place plan plan here) (none place plan (slice_get_within script.sessions place plan here)) in
    subst (λ after. MatchOption after ⊤ (MayComeAfter script.version (take place script.sessions) plan.level)) (sym is) tt

pub come_later : (script : Script) (table : List (List ℕ)) → IsValidScript script table → ComeLater 0 script.sessions
come_later script table valid = come_later_by_place 0 script.sessions (λ place plan here.
    let none : place ≡ 0 + place = omega arith in
    subst (λ n. IsEarlier n plan.after) none (earlier_at script table valid place plan here))

-- what a session knows at its start is said by the ends of those before it
pub origin_front : (ends more : List Knowledge) (after : Option ℕ) → IsEarlier (length ends) after → origin_of (ends ++ more) after ≡ origin_of ends after
origin_front ends more None is = refl
origin_front ends more (Some after) is = ap handed (get_or_append_left ends more nothing_known (after - 1) (omega (arith, is)))

-- the ends of later sessions are added to those of earlier ones
pub ends_go_on : (ends : List Knowledge) (number : ℕ) (plans : List SessionPlan) (answers : List (List Answer)) → (more : List Knowledge) × (ends_from ends number plans answers ≡ ends ++ more)
ends_go_on ends number (plan ∷ plans) (answers ∷ others) =
    let its : Knowledge = end_of ends number plan answers in
    let rest = ends_go_on (ends ++ its ∷ []) (number + 1) plans others in
    (its ∷ rest.0, rest.1 ∙ append_assoc ends (its ∷ []) rest.0)
ends_go_on ends number plans answers = ([], sym (append-nil ends))

-- each end is that of its session, which starts as the ends say
abbrev pub AreEnds : List Knowledge → ℕ → List SessionPlan → List (List Answer) → Type 0
AreEnds ends number (plan ∷ plans) (answers ∷ others) = (slice_index_or ends (number - 1) nothing_known ≡ end_of ends number plan answers) × AreEnds ends (number + 1) plans others
AreEnds ends number plans answers = ⊤

ends_are_from : (ends : List Knowledge) (number : ℕ) (plans : List SessionPlan) (answers : List (List Answer)) → number ≡ length ends + 1 → ComeLater (length ends) plans
    → AreEnds (ends_from ends number plans answers) number plans answers
ends_are_from ends number (plan ∷ plans) (answers ∷ others) is later =
    let its : Knowledge = end_of ends number plan answers in
    let all : List Knowledge = ends_from (ends ++ its ∷ []) (number + 1) plans others in
    let rest = ends_go_on (ends ++ its ∷ []) (number + 1) plans others in
    let parts : all ≡ ends ++ its ∷ rest.0 = rest.1 ∙ append_assoc ends (its ∷ []) rest.0 in
    let place : number - 1 ≡ length ends = omega (arith, is) in
    let here : slice_index_or all (number - 1) nothing_known ≡ its = (λ i. slice_index_or (parts i) (place i) nothing_known) ∙ get_or-append_seam ends its rest.0 nothing_known in
    let origin : origin_of all plan.after ≡ origin_of ends plan.after = ap (λ all. origin_of all plan.after) parts ∙ origin_front ends (its ∷ rest.0) plan.after later.0 in
    let known : its ≡ end_of all number plan answers = ap (λ origin. (state_after (client_of number plan) (start origin) plan.lines answers).knows) (sym origin) in
    let longer : length (ends ++ its ∷ []) ≡ length ends + 1 = length-append ends (its ∷ []) in
    (here ∙ known, ends_are_from (ends ++ its ∷ []) (number + 1) plans others (omega (arith, is, longer)) (subst (λ n. ComeLater n plans) (sym longer) later.1))
ends_are_from ends number plans answers is later = tt

-- so by place
pub end_at : (ends : List Knowledge) (number : ℕ) (plans : List SessionPlan) (answers : List (List Answer)) → AreEnds ends number plans answers → (place : ℕ) (plan : SessionPlan) (its : List Answer) → place < length plans → place < length answers
    → slice_index_or ends (number + place - 1) nothing_known ≡ end_of ends (number + place) (slice_index_or plans place plan) (slice_index_or answers place its)
end_at ends number (plan ∷ plans) (answers ∷ others) are zero d e within answered =
    let first : number ≡ number + 0 = omega arith in
    subst (λ n. slice_index_or ends (n - 1) nothing_known ≡ end_of ends n plan answers) first are.0
end_at ends number (plan ∷ plans) (answers ∷ others) are (suc place) d e within answered =
    let later : number + 1 + place ≡ number + suc place = omega arith in
    subst (λ n. slice_index_or ends (n - 1) nothing_known ≡ end_of ends n (slice_index_or plans place d) (slice_index_or others place e)) later
    (end_at ends (number + 1) plans others are.1 place d e (omega (arith, within)) (omega (arith, answered)))
end_at ends number [] answers are place d e within answered = absurd (omega (arith, within))
end_at ends number (plan ∷ plans) [] are place d e within answered = absurd (omega (arith, answered))

-- no other list is so
pub ends_are_single : (ends rest : List Knowledge) (number : ℕ) (plans : List SessionPlan) (answers : List (List Answer)) → number ≡ length ends + 1 → ComeLater (length ends) plans → length rest ≡ length plans → length answers ≡ length plans
    → AreEnds (ends ++ rest) number plans answers → ends_from ends number plans answers ≡ ends ++ rest
ends_are_single ends (first ∷ rest) number (plan ∷ plans) (answers ∷ others) is later long answered are =
    let place : number - 1 ≡ length ends = omega (arith, is) in
    let here : slice_index_or (ends ++ first ∷ rest) (number - 1) nothing_known ≡ first = ap (λ i. slice_index_or (ends ++ first ∷ rest) i nothing_known) place ∙ get_or-append_seam ends first rest nothing_known in
    let origin : origin_of (ends ++ first ∷ rest) plan.after ≡ origin_of ends plan.after = origin_front ends (first ∷ rest) plan.after later.0 in
    let same : end_of ends number plan answers ≡ first = ap (λ origin. (state_after (client_of number plan) (start origin) plan.lines answers).knows) (sym origin) ∙ sym are.0 ∙ here in
    let joined : (ends ++ first ∷ []) ++ rest ≡ ends ++ first ∷ rest = append_assoc ends (first ∷ []) rest in
    let longer : length (ends ++ first ∷ []) ≡ length ends + 1 = length-append ends (first ∷ []) in
    ap (λ its. ends_from (ends ++ its ∷ []) (number + 1) plans others) same
    ∙ ends_are_single (ends ++ first ∷ []) rest (number + 1) plans others (omega (arith, is, longer)) (subst (λ n. ComeLater n plans) (sym longer) later.1) (omega (arith, long)) (omega (arith, answered))
    (subst (λ all. AreEnds all (number + 1) plans others) (sym joined) are.1)
    ∙ joined
ends_are_single ends [] number [] answers is later long answered are = sym (append-nil ends)
ends_are_single ends [] number (plan ∷ plans) answers is later long answered are = absurd (omega (arith, long))
ends_are_single ends (first ∷ rest) number [] answers is later long answered are = absurd (omega (arith, long))
ends_are_single ends (first ∷ rest) number (plan ∷ plans) [] is later long answered are = absurd (omega (arith, answered))

-- so it is with those of a report
pub ends_are : (script : Script) (table : List (List ℕ)) (report : Report) → IsValidScript script table → AreEnds (ends_of script report) 1 script.sessions report.answers
ends_are script table report valid = ends_are_from [] 1 script.sessions report.answers refl (come_later script table valid)
