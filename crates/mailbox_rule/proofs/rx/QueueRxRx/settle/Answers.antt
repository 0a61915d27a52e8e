use Rattle.std.proofs.Common.{◌≤◌, ◌∙◌, ap, sym, subst}
use Rattle.mail_contract.specs.Takes.{IsFront, from_sender}
use Rattle.mailbox_rule.specs.Rule.{made_in, number_in, received_in, sent_in}
use Rattle.mailbox_rule.proofs.EndsLemmas.{front_told, receives}
use Rattle.mailbox_rule.proofs.Steps.{join_keeps, look_tells}
use Rattle.mailbox_rule.proofs.rx.QueueRxRx.settle.Goals as goal

pub absorb-requires-clause-rule : goal.absorb-requires-clause-rule
absorb-requires-clause-rule g c = join_keeps _ _ _ _ (receives _ _ c.args.self.now.made) (subst (λ k. 1 ≤ k) (sym c.args.ended.numbered.0) c.args.ended.numbered.1)

pub len_as-requires-clause-rule : goal.len_as-requires-clause-rule
len_as-requires-clause-rule g c = look_tells _ _ (receives _ _ (ap made_in c.absorb.ensures.rule ∙ c.args.self.now.made))

pub returns-clause-told : goal.returns-clause-told
returns-clause-told g c =
    let view = c.args.ended.pass.me.view.client in
    subst (λ n. IsFront (from_sender n (received_in c.args.self.now.pass.me.view.client)) (sent_in view)) c.args.ended.numbered.0
    (front_told _ _ (number_in view) _ (sent_in view) _ c.absorb.ensures.rule c.len_as.ensures.rule.2)
