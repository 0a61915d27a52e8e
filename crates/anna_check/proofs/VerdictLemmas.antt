-- The verdict of a report whose answers are all lawful inside their sessions.
use Rattle.std.specs.Prelude.{◌≡◌, ℕ, List, All, Option, MatchOption}
use Rattle.std.specs.List.{AllZip}
use Rattle.std.proofs.Common.{inr, subst}
use Rattle.composed_value.specs.Cell.{PlainCell}
use Rattle.composed_value.specs.declared.kind.Kind.{Kind}
use Rattle.composed_value.specs.declared.put.Put.{Put}
use Rattle.session_known.specs.Form.{HasForm}
use Rattle.session_known.specs.Legal.{IsLawfulFinal}
use Rattle.session_known.specs.declared.report.Answer.{Answer}
use Rattle.session_known.specs.declared.report.FinalCell.{FinalCell}
use Rattle.session_known.specs.declared.report.Report.{Report}
use Rattle.session_known.specs.declared.script.Script.{Script}
use Rattle.session_known.specs.declared.script.SessionPlan.{SessionPlan}
use Rattle.anna_check.specs.AgainstPuts.{StandFor}
use Rattle.anna_check.specs.ByKey.{OfKey, AreByKey}
use Rattle.anna_check.specs.ComputedCells.{AreAllNext}
use Rattle.anna_check.specs.Counted.{AreOfTheirPuts}
use Rattle.anna_check.specs.Unlawful.{AreTrueOf, IsFirstUntrueFrom, IsFirstUnlawfulFinal, IsLawfulInside, IsVerdictOfPuts, IsVerdict}
use Rattle.anna_check.specs.declared.judge.Verdict.{Verdict}
use Rattle.anna_check.specs.declared.judge.Verdict.TheVariants.{Legal, Command, Final}

-- It is the one that the accepted puts give.
pub verdict_of_puts : (table : List (List ℕ)) (script : Script) (report : Report) → HasForm script table report → IsLawfulInside table script report → (verdict : Verdict) → IsVerdictOfPuts script report verdict → IsVerdict table script report verdict
verdict_of_puts table script report form lawful Legal is = record { form = form; answers = lawful; true_of_puts = is.0; finals = is.1 }
verdict_of_puts table script report form lawful (Command session command) is = inr (lawful, is)
verdict_of_puts table script report form lawful (Final key worker) is = (lawful, is.0, is.1)

-- The lists and the cells that are begun stand for the accepted puts, where the keys are given their kinds.
pub all_stand : (kinds given : List Kind) (workers : ℕ) (made : List (ℕ × Put)) (by_key : List OfKey) (cells : List (List PlainCell)) → AreByKey kinds made by_key → AreAllNext made → given ≡ kinds → AreOfTheirPuts given workers made cells → StandFor kinds workers made by_key cells
all_stand kinds given workers made by_key cells puts numbered same are = record {
  puts = puts;
  numbered = numbered;
  cells_are = subst (λ kinds. AreOfTheirPuts kinds workers made cells) same are;
}

-- what was found of sessions and answers is found of the same
pub same_untrue : (kinds : List Kind) (made : List (ℕ × Put)) {found others : Option (ℕ × ℕ)} {given plans : List SessionPlan} {told answers : List (List Answer)} → found ≡ others → given ≡ plans → told ≡ answers
    → MatchOption found (AllZip (AreTrueOf kinds made) given told) (λ place. IsFirstUntrueFrom kinds made 1 given told place.0 place.1)
    → MatchOption others (AllZip (AreTrueOf kinds made) plans answers) (λ place. IsFirstUntrueFrom kinds made 1 plans answers place.0 place.1)
same_untrue kinds made found_is plans_are answers_are is =
    subst (λ (at : Option (ℕ × ℕ) × List SessionPlan × List (List Answer)). MatchOption at.0 (AllZip (AreTrueOf kinds made) at.1 at.2) (λ place. IsFirstUntrueFrom kinds made 1 at.1 at.2 place.0 place.1)) (λ j. (found_is j, plans_are j, answers_are j)) is

-- and so of final cells
pub same_unlawful : (kinds : List Kind) (made : List (ℕ × Put)) {found others : Option (ℕ × ℕ)} {given finals : List FinalCell} → found ≡ others → given ≡ finals
    → MatchOption found (All (IsLawfulFinal kinds made) given) (λ place. IsFirstUnlawfulFinal kinds made given place.0 place.1)
    → MatchOption others (All (IsLawfulFinal kinds made) finals) (λ place. IsFirstUnlawfulFinal kinds made finals place.0 place.1)
same_unlawful kinds made found_is finals_are is =
    subst (λ (at : Option (ℕ × ℕ) × List FinalCell). MatchOption at.0 (All (IsLawfulFinal kinds made) at.1) (λ place. IsFirstUnlawfulFinal kinds made at.1 place.0 place.1)) (λ j. (found_is j, finals_are j)) is
