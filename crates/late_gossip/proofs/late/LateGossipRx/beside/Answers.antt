use Rattle.std.proofs.Common.{arith}
use Rattle.mail_contract.proofs.WeakLemmas.{missing_received}
use Rattle.late_gossip.proofs.late.LateGossipRx.beside.Goals as goal

pub returns-clause-roomy : goal.returns-clause-roomy
returns-clause-roomy g c = λ roomy. omega (arith, c.beside.ensures.roomy roomy, missing_received (g.R.Rx.received c.args.self.now.inner) (g.R.From.Tx.number c.args.tx.now) (g.R.From.Tx.sent c.args.tx.now))

pub returns-clause-freed : goal.returns-clause-freed
returns-clause-freed g c = λ freed none. c.beside.ensures.freed freed (omega (arith, none, missing_received (g.R.Rx.received c.args.self.now.inner) (g.R.From.Tx.number c.args.tx.now) (g.R.From.Tx.sent c.args.tx.now)))
