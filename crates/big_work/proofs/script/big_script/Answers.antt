use Rattle.std.proofs.Common.{◌≡◌, length, sum_by, sym, ap, subst, ◌∙◌}
use Rattle.placement.specs.Config.{placed}
use Rattle.session_known.specs.Script.{IsValidScript}
use Rattle.session_known.specs.declared.script.Script.{Script}
use Rattle.session_known.specs.declared.script.SessionPlan.{SessionPlan}
use Rattle.big_work.specs.Big.{script_of}
use Rattle.big_work.proofs.ValidLemmas.{big_is_valid, lines_count}
use Rattle.big_work.proofs.script.big_script.Goals as goal

pub returns-clause-valid : goal.returns-clause-valid
returns-clause-valid c =
    let made : Script =
    record { version = 1; config = record { workers = 4; factor = 3; keys = c.in_ok-key_places.field-0 }; round = 4; kinds = c.in_ok-kinds.field-0; sessions = c.in_ok-plans.field-0 } in
    let same : script_of c.args.number ≡ made =
    λ j. record { version = 1; config = record { workers = 4; factor = 3; keys = sym c.in_ok-key_places.ensures j }; round = 4; kinds = sym c.in_ok-kinds.ensures j; sessions = sym c.in_ok-plans.ensures j } in
    subst (λ (script : Script). IsValidScript script (placed script.config)) same (big_is_valid c.args.number)

pub returns-clause-commands : goal.returns-clause-commands
returns-clause-commands c = ap (sum_by (λ (plan : SessionPlan). length plan.lines)) c.in_ok-plans.ensures ∙ lines_count 1 8 c.args.number
