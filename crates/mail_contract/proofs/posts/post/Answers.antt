use Rattle.std.proofs.Common.{◌∙◌, ap}
use Rattle.std.proofs.Math.Seq.{map-set_same}
use Rattle.mail_contract.proofs.PostsLemmas.{fulls_after, no_room_after, not_clear_after, posted, stays_elsewhere, still_clear_after, still_unseen_after, unseen_after}
use Rattle.mail_contract.proofs.posts.post.Goals as goal

pub returns-clause-keys : goal.returns-clause-keys
returns-clause-keys g c = map-set_same g.T.Tx.key _ _ _ _ (c.send.ensures.key ∙ ap g.T.Tx.key c.index_mut-sender.ensures.value)

pub returns-clause-numbers : goal.returns-clause-numbers
returns-clause-numbers g c = map-set_same g.T.Tx.number _ _ _ _ (c.send.ensures.number ∙ ap g.T.Tx.number c.index_mut-sender.ensures.value)

pub returns-clause-sent : goal.returns-clause-sent
returns-clause-sent g c = posted g.T.Tx.sent _ _ _ _ c.send.result _ c.requires c.index_mut-sender.ensures.value c.send.ensures.sent

pub returns-clause-fulls : goal.returns-clause-fulls
returns-clause-fulls g c = fulls_after g.T.Tx.fulls _ _ _ _ c.send.result c.requires c.index_mut-sender.ensures.value c.send.ensures.fulls c.send.ensures.not_full

pub returns-clause-others : goal.returns-clause-others
returns-clause-others g c = λ other apart. stays_elsewhere _ _ other _ apart

pub returns-clause-not_clear : goal.returns-clause-not_clear
returns-clause-not_clear g c =
    not_clear_after g.T.Tx.clear c.args.senders.now.items c.args.place _ c.send.result c.index_mut-sender.ensures.value c.send.ensures.not_clear

pub returns-clause-no_room : goal.returns-clause-no_room
returns-clause-no_room g c = no_room_after g.T.Tx.unseen _ _ _ c.send.result c.requires c.index_mut-sender.ensures.value c.send.ensures.no_room

pub returns-clause-unseen : goal.returns-clause-unseen
returns-clause-unseen g c = unseen_after g.T.Tx.unseen _ _ _ c.send.result c.requires c.index_mut-sender.ensures.value _ c.send.ensures.unseen

pub returns-clause-still_unseen : goal.returns-clause-still_unseen
returns-clause-still_unseen g c =
    still_unseen_after g.T.Tx.unseen _ _ _ _ c.send.result c.index_mut-sender.ensures.value c.send.ensures.still_unseen

pub returns-clause-still_clear : goal.returns-clause-still_clear
returns-clause-still_clear g c =
    still_clear_after g.T.Tx.clear c.args.senders.now.items c.args.place _ _ c.send.result c.requires c.index_mut-sender.ensures.value c.send.ensures.still_clear
