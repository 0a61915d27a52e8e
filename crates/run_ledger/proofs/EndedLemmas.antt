-- Sessions that have ended: each knows then what the report says of the end of its number.
use Rattle.std.specs.Prelude.{◌≡◌, ℕ, ◌+◌, ◌-◌, List, [], ◌∷◌, ◌++◌, length, map, slice_index_or}
use Rattle.std.proofs.Common.{◌∙◌, refl, sym, ap, arith}
use Rattle.std.proofs.Math.Seq.{get_or-append_seam}
use Rattle.std.proofs.lemmas.List.{append_assoc, length-append, length-map, map-append}
use Rattle.session_known.specs.Accepted.{end_of, ends_from, ends_of}
use Rattle.session_known.specs.Script.{IsValidScript}
use Rattle.session_known.specs.Session.{Knowledge, nothing_known, start, state_after}
use Rattle.session_known.specs.declared.report.Answer.{Answer}
use Rattle.session_known.specs.declared.report.Report.{Report}
use Rattle.session_known.specs.declared.script.Script.{Script}
use Rattle.session_known.specs.declared.script.SessionPlan.{SessionPlan}
use Rattle.session_known.proofs.EndsLemmas.{AreEnds, come_later, ends_are_single}
use Rattle.session_proxy.specs.State.{Lists, known_at_start, state_now}
use Rattle.run_ledger.specs.Parties.{HaveEnded, known_then}

-- what they were answered
abbrev pub answered : List Lists → List (List Answer)
answered those = map (λ session. session.course.answers) those

module _ (table : List (List ℕ)) (workers : ℕ) (ends : List Knowledge) where
  -- there are as many sessions as plans
  pub as_many_sessions : (number : ℕ) (plans : List SessionPlan) (those : List Lists) → HaveEnded table workers ends number plans those → length those ≡ length plans
  as_many_sessions number [] [] have = refl
  as_many_sessions number (plan ∷ plans) (session ∷ others) have = let rest = as_many_sessions (number + 1) plans others have.1 in omega (arith, rest)
  as_many_sessions number [] (session ∷ others) have = absurd have
  as_many_sessions number (plan ∷ plans) [] have = absurd have

  -- each starts as the ends say, so its end follows from them
  are_ends : (before : List Lists) (number : ℕ) (plans : List SessionPlan) (those : List Lists) → ends ≡ known_then (before ++ those) → number ≡ length before + 1 → HaveEnded table workers ends number plans those
      → AreEnds ends number plans (answered those)
  are_ends before number (plan ∷ plans) (session ∷ others) is at have =
      let known : Lists → Knowledge = λ its. (state_now its.course).knows in
      let long = length-map before known in
      let place : number - 1 ≡ length (known_then before) = omega (arith, at, long) in
      let split : ends ≡ known_then before ++ known session ∷ known_then others = is ∙ map-append known before (session ∷ others) in
      let here : slice_index_or ends (number - 1) nothing_known ≡ known session = (λ j. slice_index_or (split j) (place j) nothing_known) ∙ get_or-append_seam (known_then before) (known session) (known_then others) nothing_known in
      let end : known session ≡ end_of ends number plan session.course.answers =
      λ j. (state_after (have.0.client_is j) (start (known_at_start (have.0.origin_is j))) (have.0.lines_are j) session.course.answers).knows in
      let longer = length-append before (session ∷ []) in
      (here ∙ end, are_ends (before ++ session ∷ []) (number + 1) plans others (is ∙ ap known_then (sym (append_assoc before (session ∷ []) others))) (omega (arith, at, longer)) have.1)
  are_ends before number [] [] is at have = tt
  are_ends before number [] (session ∷ others) is at have = absurd have
  are_ends before number (plan ∷ plans) [] is at have = absurd have

-- So what they know is what the report says.
pub known_are_ends : (script : Script) (table : List (List ℕ)) (report : Report) (workers : ℕ) (those : List Lists) → IsValidScript script table → HaveEnded table workers (known_then those) 1 script.sessions those → report.answers ≡ answered those
    → known_then those ≡ ends_of script report
known_are_ends script table report workers those valid have answers_are =
    let many = as_many_sessions table workers (known_then those) 1 script.sessions those have in
    let long = length-map those (λ (its : Lists). (state_now its.course).knows) in
    let answers_long = length-map those (λ (its : Lists). its.course.answers) in
    sym (ap (ends_from [] 1 script.sessions) answers_are
    ∙ ends_are_single [] (known_then those) 1 script.sessions (answered those) refl (come_later script table valid) (omega (arith, many, long)) (omega (arith, many, answers_long))
    (are_ends table workers (known_then those) [] 1 script.sessions those refl refl have))
