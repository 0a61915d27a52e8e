use Rattle.mailbox_rule.proofs.EndsLemmas.{receives}
use Rattle.mailbox_rule.proofs.Steps.{split_keeps}
use Rattle.mailbox_rule.proofs.rx.QueueRx.sender.Goals as goal

pub another-pass-requires-clause-rule : goal.another-pass-requires-clause-rule
another-pass-requires-clause-rule g c = split_keeps _ _ (receives _ _ c.args.self.now.made)
