-- What a report in form says can be held against the accepted puts.
use Rattle.std.specs.Prelude.{◌≡◌, ℕ, ◌≤◌, List, [], ◌∷◌, All, length, sum_by, slice_index_or, Option, Some, None, IfSome}
use Rattle.std.specs.List.{AllZip}
use Rattle.std.proofs.Common.{sym, subst, arith}
use Rattle.std.proofs.lemmas.List.Elements.{All-head, All-tail}
use Rattle.std.proofs.lemmas.List.Sums.{sum_by-cons}
use Rattle.clock_lattice.specs.Needs.{IsNeeds}
use Rattle.session_known.specs.Form.{Fits, HasForm, NeedsFit, IsShownIn}
use Rattle.session_known.proofs.FormLemmas.{finals_known}
use Rattle.placement.specs.Config.{IsOneOf}
use Rattle.session_known.specs.Script.{MayStand, IsValidSession, IsValidScript}
use Rattle.session_known.specs.declared.report.Answer.{Answer}
use Rattle.session_known.specs.declared.report.Answer.TheVariants as answers
use Rattle.session_known.specs.declared.report.Report.{Report}
use Rattle.session_known.specs.declared.report.Shown.{Shown}
use Rattle.session_known.specs.declared.script.Level.{Level}
use Rattle.session_known.specs.declared.script.Level.TheVariants.{Eventual, Committed, Causal}
use Rattle.session_known.specs.declared.script.Line.{Line}
use Rattle.session_known.specs.declared.script.Line.TheVariants as lines
use Rattle.session_known.specs.declared.script.Script.{Script}
use Rattle.session_known.specs.declared.script.SessionPlan.{SessionPlan}
use Rattle.anna_check.specs.AgainstPuts.{CanBeShown, CanBeHeldAgainst, CanAllBeHeldAgainst, CanBeFinal}

-- needs that are shown are valid
needs_valid : (script : Script) (level : Level) (needs : Option (List (ℕ × List (ℕ × ℕ)))) → NeedsFit script level needs → IfSome needs IsNeeds
needs_valid script Causal (Some needs) fits = fits.are_needs
needs_valid script Causal None fits = absurd fits
needs_valid script Eventual (Some needs) fits = absurd fits
needs_valid script Eventual None fits = tt
needs_valid script Committed (Some needs) fits = absurd fits
needs_valid script Committed None fits = tt

module _ (script : Script) (table : List (List ℕ)) (same : length script.kinds ≡ length script.config.keys) where
  -- a cell that is shown
  can_be_shown : (level : Level) (key worker : ℕ) (shown : Shown) → IsOneOf (length script.config.keys) key → IsShownIn script level key worker shown → CanBeShown script.kinds script.config.workers key worker shown
  can_be_shown level key worker shown key_is fits = record {
    key_is = subst (λ n. IsOneOf n key) (sym same) key_is;
    worker_is = fits.worker_is;
    clock_is = fits.clock_is.is_clock;
    value_is = fits.value_is.of_kind;
    needs_are = needs_valid script level shown.needs fits.needs_are;
  }

  -- an answer that the line may have
  can_be_held : (level : Level) (line : Line) (answer : Answer) → MayStand script table level line → Fits script level line answer → CanBeHeldAgainst script.kinds script.config.workers line answer
  can_be_held level (lines.Get key named) (answers.Got worker shown) may fits = can_be_shown level key worker shown may.0 fits
  can_be_held level (lines.Await key session count) (answers.Got worker shown) may fits = can_be_shown level key worker shown may.0 fits
  can_be_held level (lines.Get key named) (answers.Again asks worker clock) may fits = subst (λ n. IsOneOf n key) (sym same) may.0
  can_be_held level (lines.Await key session count) (answers.Again asks worker clock) may fits = subst (λ n. IsOneOf n key) (sym same) may.0
  can_be_held level line answer may fits = tt

  -- those of a session
  can_each_be_held : (level : Level) (of_session : List Line) (answered : List Answer) → All (MayStand script table level) of_session → AllZip (Fits script level) of_session answered → AllZip (CanBeHeldAgainst script.kinds script.config.workers) of_session answered
  can_each_be_held level [] [] may fits = tt
  can_each_be_held level [] (answer ∷ answered) may fits = absurd fits
  can_each_be_held level (line ∷ of_session) [] may fits = absurd fits
  can_each_be_held level (line ∷ of_session) (answer ∷ answered) may fits = (
    can_be_held level line answer (All-head (MayStand script table level) line of_session may) fits.0,
    can_each_be_held level of_session answered (All-tail (MayStand script table level) line of_session may) fits.1,
  )

  -- those of all sessions
  can_all_be_held : (sessions : List SessionPlan) (all_answers : List (List Answer)) → All (IsValidSession script table) sessions → sum_by (λ plan. length plan.lines) sessions ≤ 4096 → AllZip (λ plan answers. AllZip (Fits script plan.level) plan.lines answers) sessions all_answers
      → AllZip (λ plan answers. CanAllBeHeldAgainst script.kinds script.config.workers plan.lines answers) sessions all_answers
  can_all_be_held [] [] valid few form = tt
  can_all_be_held [] (theirs ∷ all_answers) valid few form = absurd form
  can_all_be_held (plan ∷ sessions) [] valid few form = absurd form
  can_all_be_held (plan ∷ sessions) (theirs ∷ all_answers) valid few form =
      let sum = sum_by-cons (λ (plan : SessionPlan). length plan.lines) plan sessions in (
        record {
          few = omega (arith, sum, few);
          each = can_each_be_held plan.level plan.lines theirs (All-head (IsValidSession script table) plan sessions valid).lines form.0;
        },
        can_all_be_held sessions all_answers (All-tail (IsValidSession script table) plan sessions valid) (omega (arith, sum, few)) form.1,
      )

-- What a report in form says of a valid script.
pub report_can_be_held : (script : Script) (table : List (List ℕ)) (report : Report) → IsValidScript script table → HasForm script table report → AllZip (λ plan answers. CanAllBeHeldAgainst script.kinds script.config.workers plan.lines answers) script.sessions report.answers
report_can_be_held script table report valid form = can_all_be_held script table valid.kinds script.sessions report.answers valid.sessions valid.few_lines form.answers

-- And its final cells.
pub finals_can_be_held : (script : Script) (table : List (List ℕ)) (report : Report) → IsValidScript script table → HasForm script table report → All (CanBeFinal script.kinds script.config.workers) report.finals
finals_can_be_held script table report valid form k d within =
    let known = finals_known script table report form k d within in
    let is = form.finals k d within in
    record {
      key_is = subst (λ n. IsOneOf n (slice_index_or report.finals k d).key) (sym valid.kinds) known.0;
      worker_is = known.1;
      clock_is = is.clock_is.is_clock;
      value_is = is.value_is.of_kind;
    }
