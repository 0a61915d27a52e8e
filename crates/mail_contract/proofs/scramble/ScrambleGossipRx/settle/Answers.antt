use Rattle.std.proofs.Common.{ap, arith}
use Rattle.mail_contract.specs.Standing.{left_of_all}
use Rattle.mail_contract.proofs.DealLemmas.{got_in, missing_held, times_at_most}
use Rattle.mail_contract.proofs.scramble.ScrambleGossipRx.settle.Goals as goal

pub returns-clause-told : goal.returns-clause-told
returns-clause-told g c = got_in c.args.self.now.held.items (g.R.Rx.received c.args.self.now.inner) (g.R.From.Tx.number c.args.ended) (g.R.From.Tx.sent c.args.ended) c.settle.ensures.told

pub returns-clause-left : goal.returns-clause-left
returns-clause-left g c = λ finite. omega (arith, c.settle.ensures.left finite, missing_held c.args.self.now.held.items (g.R.Rx.received c.args.self.now.inner) (g.R.From.Tx.number c.args.ended) (g.R.From.Tx.sent c.args.ended))

pub returns-clause-most : goal.returns-clause-most
returns-clause-most g c = λ finite. omega (arith, times_at_most c.args.self.now.held.items, c.args.self.now.few, ap (λ k. left_of_all (g.R.Rx.senders k) (g.R.Rx.about c.settle.new.self)) c.settle.ensures.key)
