use Rattle.std.proofs.Common.{◌∙◌, ap}
use Rattle.std.proofs.Math.Seq.{map-set_same}
use Rattle.mail_contract.proofs.PostsLemmas.{stays_elsewhere}
use Rattle.worker_core.proofs.mates.show.Goals as goal

pub returns-clause-keys : goal.returns-clause-keys
returns-clause-keys g c = map-set_same g.O.Tx.key _ _ _ _ (c.beside.ensures.tx_key ∙ ap g.O.Tx.key c.index_mut-sender.ensures.value)

pub returns-clause-numbers : goal.returns-clause-numbers
returns-clause-numbers g c = map-set_same g.O.Tx.number _ _ _ _ (c.beside.ensures.tx_number ∙ ap g.O.Tx.number c.index_mut-sender.ensures.value)

pub returns-clause-sent : goal.returns-clause-sent
returns-clause-sent g c = map-set_same g.O.Tx.sent _ _ _ _ (c.beside.ensures.tx_sent ∙ ap g.O.Tx.sent c.index_mut-sender.ensures.value)

pub returns-clause-fulls : goal.returns-clause-fulls
returns-clause-fulls g c = map-set_same g.O.Tx.fulls _ _ _ _ (c.beside.ensures.tx_fulls ∙ ap g.O.Tx.fulls c.index_mut-sender.ensures.value)

pub returns-clause-others : goal.returns-clause-others
returns-clause-others g c = λ other apart. stays_elsewhere _ _ other _ apart
