use Rattle.std.proofs.Common.{◌≡◌, ℕ, List, sym, subst, ◌∙◌}
use Rattle.std.proofs.lemmas.Result.{IfOk-weaker}
use Rattle.placement.specs.Config.{IsPlacement}
use Rattle.placement.proofs.ConfigLemmas.{placement_is}
use Rattle.placement.specs.declared.config.Config.{Config}
use Rattle.session_known.specs.Form.{HasForm}
use Rattle.session_known.specs.Script.{IsValidScript}
use Rattle.anna_check.specs.Unlawful.{IsVerdict}
use Rattle.anna_check.proofs.judge.check.Goals as goal

-- two placements of a config are one
one_placement : (config : Config) (one other : List (List ℕ)) → IsPlacement config one → IsPlacement config other → one ≡ other
one_placement config one other first second = placement_is config one first ∙ sym (placement_is config other second)

pub judge-requires-clause-valid : goal.judge-requires-clause-valid
judge-requires-clause-valid c = subst (IsValidScript c.args.script.now) (one_placement c.args.script.now.config c.requires.form.0 c.in_ok-placement.placement c.requires.form.1.placed c.in_ok-placement.ensures.placed) c.requires.form.1

pub judge-requires-clause-form : goal.judge-requires-clause-form
judge-requires-clause-form c = subst (λ table. HasForm c.args.script.now table c.args.report.now) (one_placement c.args.script.now.config c.requires.form.0 c.in_ok-placement.placement c.requires.form.1.placed c.in_ok-placement.ensures.placed) c.requires.form.2

pub returns : goal.returns
returns c = record {
  verdict = IfOk-weaker c.judge.result _ _ (λ verdict is table valid. subst (λ table. IsVerdict table c.args.script.now c.args.report.now verdict) (one_placement c.args.script.now.config c.in_ok-placement.placement table c.in_ok-placement.ensures.placed valid.placed) is) c.judge.ensures;
}
