-- What it changes of a worker to take turns, one or several.
use Rattle.std.specs.Prelude.{◌≡◌, ◌⊎◌, is_some, IsTrue, map, None}
use Rattle.mail_contract.specs.declared.gossip.GossipRx as gossip
use Rattle.mail_contract.specs.declared.rx.Rx as boxes
use Rattle.mail_contract.specs.declared.tx.Tx as senders
use Rattle.mail_contract.specs.Boxes.{FindsNothing, box_of}
use Rattle.mail_contract.specs.Standing.{AllStand}
use Rattle.worker_core.specs.Serving.{NoneTakenBack}
use Rattle.worker_core.specs.State.{Entries, PlainWorker}
use Rattle.party_turns.specs.Turning.{FrontsStay, HasGoneOn, HasSentSince}
use Rattle.party_turns.specs.Ends.{Ends}
use Rattle.store_msg.specs.declared.request.Request.{Request}
use Rattle.store_msg.specs.Reply.{PlainReply}

-- A worker took turns: it goes on, and how its boxes stand to the others stays.
pub record HasTurned {S T O Q G SK TK OK QK GK : Type 0} (requests : boxes.Ghosts Q Request S QK SK) (replies : senders.Ghosts T PlainReply TK)
    (gossip_out : senders.Ghosts O Entries OK) (gossip_in : gossip.Ghosts G Entries O GK OK) (before now : PlainWorker Q T O G) : Type 0 where
  pub gone_on : HasGoneOn requests.key replies.key replies.number gossip_out.key gossip_out.number gossip_in.key requests.keeps.complete requests.senders requests.received requests.about replies.sent
      gossip_in.keeps.complete gossip_in.senders gossip_in.got gossip_in.about before now
  pub gossip_stands : AllStand (gossip_in.about before.ends.gossip_in) (gossip_in.about now.ends.gossip_in)

-- A worker took turns until it rests: it took no reply back, keeps no message and found no request, unless it holds a reply; and it holds one only where the sender to
-- its session had no place for the next one at first, or has sent one since.
pub record HasRested {S T O Q G R SK TK OK QK GK RK : Type 0} (mail : Ends S T O Q G R SK TK OK QK GK RK) (before now : PlainWorker Q T O G) : Type 0 where
  pub none_kept : now.state.kept ≡ None
  pub replied_more : NoneTakenBack (map mail.reply_tx.sent before.ends.replies.items) (map mail.reply_tx.sent now.ends.replies.items)
  pub stands : AllStand (mail.request_rx.about before.ends.requests) (mail.request_rx.about now.ends.requests)
  pub fronts : FrontsStay mail.request_rx.keeps.complete (mail.request_rx.received before.ends.requests) (mail.request_rx.about before.ends.requests) (mail.request_rx.received now.ends.requests) (mail.request_rx.about now.ends.requests)
  pub no_request : IsTrue (is_some now.state.held) ⊎ FindsNothing mail.request_rx.keeps (box_of mail.request_rx.received mail.request_rx.answers mail.request_rx.about now.ends.requests)
  pub wants_place : HasSentSince mail.reply_tx.clear mail.reply_tx.sent before.ends.replies.items now.ends.replies.items now.state.held
