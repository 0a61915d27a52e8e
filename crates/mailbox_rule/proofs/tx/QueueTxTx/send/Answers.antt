use Rattle.std.proofs.Common.{◌≤◌, sym, subst}
use Rattle.mailbox_rule.proofs.Steps.{push_keeps}
use Rattle.mailbox_rule.proofs.tx.QueueTxTx.send.Goals as goal

pub push_as-requires-clause-rule : goal.push_as-requires-clause-rule
push_as-requires-clause-rule g c = λ n. push_keeps n _ _ _ (subst (λ k. 1 ≤ k) (sym c.args.self.now.numbered.0) c.args.self.now.numbered.1) (sym c.args.self.now.numbered.0)
