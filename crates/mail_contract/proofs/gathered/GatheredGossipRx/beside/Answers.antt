use Rattle.std.proofs.Common.{map, arith}
use Rattle.mail_contract.specs.Lanes.{received_of}
use Rattle.mail_contract.proofs.WeakLemmas.{missing_received}
use Rattle.mail_contract.proofs.gathered.GatheredGossipRx.beside.Goals as goal

pub returns-clause-roomy : goal.returns-clause-roomy
returns-clause-roomy g c = λ roomy. omega (arith, c.beside.ensures.roomy roomy, missing_received (received_of c.args.self.now.order.items (map g.L.Lane.lane c.args.self.now.lanes.items)) (g.L.From.Tx.number c.args.tx.now) (g.L.From.Tx.sent c.args.tx.now))

pub returns-clause-freed : goal.returns-clause-freed
returns-clause-freed g c = λ freed none. c.beside.ensures.freed freed (omega (arith, none, missing_received (received_of c.args.self.now.order.items (map g.L.Lane.lane c.args.self.now.lanes.items)) (g.L.From.Tx.number c.args.tx.now) (g.L.From.Tx.sent c.args.tx.now)))
