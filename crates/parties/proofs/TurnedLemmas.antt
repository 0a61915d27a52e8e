-- A worker that takes a turn, or several one after another.
use Rattle.std.specs.Prelude.{map}
use Rattle.std.proofs.Common.{refl}
use Rattle.mail_contract.specs.declared.gossip.GossipRx as gossip
use Rattle.mail_contract.specs.declared.rx.Rx as boxes
use Rattle.mail_contract.specs.declared.tx.Tx as senders
use Rattle.mail_contract.specs.Boxes.{MayHandOut, MayTake, box_of, weak_box_of}
use Rattle.worker_core.specs.Serving.{NoneTakenBack}
use Rattle.worker_core.specs.State.{Entries, IsFixed, KeysStay, PlainWorker}
use Rattle.mail_contract.proofs.StandsLemmas.{stands_through}
use Rattle.party_turns.proofs.TurningLemmas.{gone_on_once, gone_on_still, gone_on_through}
use Rattle.parties.specs.Turning.{HasTurned}
use Rattle.store_msg.specs.declared.request.Request.{Request}
use Rattle.store_msg.specs.Reply.{PlainReply}

module _ {S T O Q G SK TK OK QK GK : Type 0} {requests : boxes.Ghosts Q Request S QK SK} {replies : senders.Ghosts T PlainReply TK} {gossip_out : senders.Ghosts O Entries OK} {gossip_in : gossip.Ghosts G Entries O GK OK} where
  module _ where
    -- at first none was taken
    pub turned_still : (worker : PlainWorker Q T O G)
        → HasTurned requests replies gossip_out gossip_in worker worker
    turned_still worker = record { gone_on = gone_on_still worker; gossip_stands = λ sender. (refl, refl) }

    -- then one more
    pub turned_through : {before between now : PlainWorker Q T O G}
        → HasTurned requests replies gossip_out gossip_in before between
        → HasTurned requests replies gossip_out gossip_in between now
        → HasTurned requests replies gossip_out gossip_in before now
    turned_through {before} {between} {now} first then = record {
      gone_on = gone_on_through first.gone_on then.gone_on;
      gossip_stands =
          stands_through (gossip_in.about before.ends.gossip_in) (gossip_in.about between.ends.gossip_in) (gossip_in.about now.ends.gossip_in) first.gossip_stands then.gossip_stands;
    }

  -- and what one turn tells is enough
  pub turned_once : (was is : PlainWorker Q T O G)
      → IsFixed was.state is.state → KeysStay requests.key replies.key replies.number gossip_out.key gossip_out.number gossip_in.key was is
      → NoneTakenBack (map replies.sent was.ends.replies.items) (map replies.sent is.ends.replies.items)
      → MayTake requests.keeps (requests.senders (requests.key was.ends.requests))
      (box_of requests.received requests.answers requests.about was.ends.requests)
      (box_of requests.received requests.answers requests.about is.ends.requests)
      → MayHandOut gossip_in.keeps (gossip_in.senders (gossip_in.key was.ends.gossip_in))
      (weak_box_of gossip_in.got gossip_in.answers gossip_in.about gossip_in.due gossip_in.most was.ends.gossip_in)
      (weak_box_of gossip_in.got gossip_in.answers gossip_in.about gossip_in.due gossip_in.most is.ends.gossip_in)
      → HasTurned requests replies gossip_out gossip_in was is
  turned_once was is fixed keys replied_more takes hands_out =
      let once = gone_on_once requests.answers gossip_in.answers gossip_in.due gossip_in.most was is fixed keys replied_more takes hands_out in
      record { gone_on = once.0; gossip_stands = once.1 }
