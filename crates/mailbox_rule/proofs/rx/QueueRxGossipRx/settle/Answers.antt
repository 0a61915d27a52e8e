use Rattle.mail_contract.proofs.WeakLemmas.{front_in}
use Rattle.mailbox_rule.proofs.rx.QueueRxGossipRx.settle.Goals as goal

pub returns-clause-told : goal.returns-clause-told
returns-clause-told g c = front_in _ _ c.settle.ensures.told
