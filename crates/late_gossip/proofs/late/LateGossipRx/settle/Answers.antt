use Rattle.std.proofs.Common.{arith}
use Rattle.mail_contract.proofs.WeakLemmas.{missing_received}
use Rattle.late_gossip.proofs.late.LateGossipRx.settle.Goals as goal

pub returns-clause-left : goal.returns-clause-left
returns-clause-left g c = λ finite. omega (arith, c.settle.ensures.left finite, missing_received (g.R.Rx.received c.args.self.now.inner) (g.R.From.Tx.number c.args.ended) (g.R.From.Tx.sent c.args.ended))
