use Rattle.std.proofs.Common.{map, arith}
use Rattle.mail_contract.specs.Lanes.{received_of}
use Rattle.mail_contract.proofs.WeakLemmas.{missing_received}
use Rattle.mail_contract.proofs.gathered.GatheredGossipRx.settle.Goals as goal

pub returns-clause-left : goal.returns-clause-left
returns-clause-left g c = λ finite. omega (arith, c.settle.ensures.left finite, missing_received (received_of c.args.self.now.order.items (map g.L.Lane.lane c.args.self.now.lanes.items)) (g.L.From.Tx.number c.args.ended) (g.L.From.Tx.sent c.args.ended))
