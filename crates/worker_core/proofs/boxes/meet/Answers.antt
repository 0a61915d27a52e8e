use Rattle.std.proofs.Common.{◌∙◌, ap}
use Rattle.std.proofs.Math.Seq.{map-set_same}
use Rattle.worker_core.proofs.boxes.meet.Goals as goal

pub returns-clause-replies_keys : goal.returns-clause-replies_keys
returns-clause-replies_keys g c = map-set_same g.T.Tx.key _ _ _ _ (c.meet.ensures.replies_key ∙ ap g.T.Tx.key c.index_mut-sender.ensures.value)

pub returns-clause-replies_numbers : goal.returns-clause-replies_numbers
returns-clause-replies_numbers g c = map-set_same g.T.Tx.number _ _ _ _ (c.meet.ensures.replies_number ∙ ap g.T.Tx.number c.index_mut-sender.ensures.value)

pub returns-clause-replies_sent : goal.returns-clause-replies_sent
returns-clause-replies_sent g c = map-set_same g.T.Tx.sent _ _ _ _ (c.meet.ensures.replies_sent ∙ ap g.T.Tx.sent c.index_mut-sender.ensures.value)

pub returns-clause-replies_fulls : goal.returns-clause-replies_fulls
returns-clause-replies_fulls g c = map-set_same g.T.Tx.fulls _ _ _ _ (c.meet.ensures.replies_fulls ∙ ap g.T.Tx.fulls c.index_mut-sender.ensures.value)
