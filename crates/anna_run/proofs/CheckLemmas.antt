-- What is found of the bytes that are checked.
use Rattle.std.specs.Prelude.{◌≡◌, ℕ, List}
use Rattle.std.proofs.Common.{Vec, Global, sym, subst}
use Rattle.placement.specs.Config.{placed}
use Rattle.placement.proofs.ConfigLemmas.{placement_is, is_placement}
use Rattle.session_known.specs.Legal.{IsLegal, IsLegalAt}
use Rattle.session_known.specs.declared.report.Report.{Report}
use Rattle.session_known.specs.declared.script.Script.{Script}
use Rattle.anna_check.specs.Unlawful.{IsVerdict}
use Rattle.anna_check.proofs.OneVerdictLemmas.{legal_alone}
use Rattle.anna_check.specs.declared.judge.Verdict.{Verdict}
use Rattle.anna_check.specs.declared.judge.Verdict.TheVariants.{Legal, Command, Final}
use Rattle.anna_run.specs.Outcomes.{IsOwedOf, TellsOf, TellsVerdict}
use Rattle.anna_run.specs.Run.{AreChecked, IsFound, verdict_status, verdict_text}
use Rattle.anna_run.specs.declared.run.OutcomeOver.{OutcomeOver}
use Rattle.anna_run.specs.declared.run.OutcomeOver.TheVariants as outcomes
use Rattle.anna_run.specs.declared.run.Status.{Status}

module _ (script : Script) (report : Report) where
  -- a legal report is legal where the keys of the script's config live
  legal_at_placed : IsLegal script report → IsLegalAt (placed script.config) script report
  legal_at_placed legal = subst (λ table. IsLegalAt table script report) (placement_is script.config legal.table legal.placed) legal.legal

  -- and the other way round
  legal_from_placed : IsLegalAt (placed script.config) script report → IsLegal script report
  legal_from_placed legal = record { table = placed script.config; placed = is_placement script.config; legal = legal }

  -- a report with another verdict is not legal
  not_legal : (verdict : Verdict) → IsVerdict (placed script.config) script report verdict → (verdict ≡ Legal → ⊥) → IsLegal script report → ⊥
  not_legal verdict is other legal = other (legal_alone (placed script.config) script report verdict (legal_at_placed legal) is)

  -- the status says whether the report is legal
  told : (D C : Type 0) (verdict : Verdict) (status : Status) (text : Vec ℕ Global) → IsVerdict (placed script.config) script report verdict → status ≡ verdict_status verdict → TellsOf {D = D} {C = C} script report (outcomes.Line status text)
  told D C Legal status text is same = subst (λ status. TellsOf {D = D} {C = C} script report (outcomes.Line status text)) (sym same) (legal_from_placed is)
  told D C (Command session command) status text is same = subst (λ status. TellsOf {D = D} {C = C} script report (outcomes.Line status text)) (sym same) (not_legal (Command session command) is (λ e. absurd cc))
  told D C (Final key worker) status text is same = subst (λ status. TellsOf {D = D} {C = C} script report (outcomes.Line status text)) (sym same) (not_legal (Final key worker) is (λ e. absurd cc))

  -- and it is what is found of the bytes
  found : (bytes : List ℕ) (verdict : Verdict) (status : Status) (text : List ℕ) → AreChecked bytes script report → IsVerdict (placed script.config) script report verdict → status ≡ verdict_status verdict → text ≡ verdict_text script verdict → IsFound bytes status text
  found bytes Legal status text checked is same is_text = subst (λ status. IsFound bytes status text) (sym same) (record { script = script; report = report; checked = checked; is_legal = legal_from_placed is; is_text = is_text })
  found bytes (Command session command) status text checked is same is_text =
      subst (λ status. IsFound bytes status text) (sym same) (record { script = script; report = report; checked = checked; not_legal = not_legal (Command session command) is (λ e. absurd cc); verdict = Command session command; is_verdict = is; is_text = is_text })
  found bytes (Final key worker) status text checked is same is_text =
      subst (λ status. IsFound bytes status text) (sym same) (record { script = script; report = report; checked = checked; not_legal = not_legal (Final key worker) is (λ e. absurd cc); verdict = Final key worker; is_verdict = is; is_text = is_text })

-- The line of the verdict is owed of the bytes.
pub verdict_owed : {D C : Type 0} (bytes : List ℕ) (script : Script) (report : Report) (outcome : OutcomeOver D C) → AreChecked bytes script report → TellsVerdict script report outcome → IsOwedOf bytes outcome
verdict_owed bytes script report (outcomes.Report served drained) checked tells = absurd tells
verdict_owed bytes script report (outcomes.ScrambledReport served drained) checked tells = absurd tells
verdict_owed bytes script report (outcomes.Summary number served drained) checked tells = absurd tells
verdict_owed bytes script report (outcomes.Line status text) checked tells = found script report bytes tells.0 status text.items checked tells.1 tells.2 tells.3

-- It says whether the report is legal.
pub verdict_told : {D C : Type 0} (script : Script) (report : Report) (outcome : OutcomeOver D C) → TellsVerdict script report outcome → TellsOf script report outcome
verdict_told script report (outcomes.Report served drained) tells = absurd tells
verdict_told script report (outcomes.ScrambledReport served drained) tells = absurd tells
verdict_told script report (outcomes.Summary number served drained) tells = absurd tells
verdict_told {D} {C} script report (outcomes.Line status text) tells = told script report D C tells.0 status text tells.1 tells.2
