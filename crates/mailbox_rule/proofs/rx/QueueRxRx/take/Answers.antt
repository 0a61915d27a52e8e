use Rattle.std.proofs.Common.{[], subst, sym}
use Rattle.mailbox_rule.specs.Rule.{AreWhole}
use Rattle.mailbox_rule.proofs.EndsLemmas.{fronts_told, receives, whole_told}
use Rattle.mailbox_rule.proofs.Steps.{empty_pop_tells, pop_keeps}
use Rattle.mailbox_rule.proofs.rx.QueueRxRx.take.Goals as goal

pub pop_as-requires-clause-rule : goal.pop_as-requires-clause-rule
pop_as-requires-clause-rule g c = let receives = receives _ _ c.args.self.now.made in (pop_keeps _ _ receives, empty_pop_tells _ _ receives)

pub returns-in-Some-clause-told : goal.returns-in-Some-clause-told
returns-in-Some-clause-told g c = λ s _. fronts_told c.pop_as.new.pass.me.view.client s c.in-Some.ensures.rule.0.2

pub returns-in-None-clause-none : goal.returns-in-None-clause-none
returns-in-None-clause-none g c = λ s. whole_told c.pop_as.new.pass.me.view.client s (subst (λ view. AreWhole view []) (sym c.in-None.ensures.rule.0) c.in-None.ensures.rule.1)
