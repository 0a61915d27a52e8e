-- What the ends of a run tell contracts, in one value, and what they tell of a worker and of a session.
use Rattle.std.specs.Prelude.{ℕ}
use Rattle.mail_contract.specs.declared.gossip.GossipRx as gossip
use Rattle.mail_contract.specs.declared.rx.Rx as boxes
use Rattle.mail_contract.specs.declared.tx.Tx as senders
use Rattle.session_proxy.specs.State as sessions
use Rattle.store_msg.specs.Reply.{PlainReply}
use Rattle.store_msg.specs.declared.request.Request.{Request}
use Rattle.worker_core.specs.State as workers

-- The senders and the boxes of a run: of requests, from sessions to workers, of replies, from workers to sessions, and of gossip, between workers. Each has
-- what its trait lets contracts see. `SK` is the type of the keys of `S`, and so on.
pub record Ends (S T O Q G R SK TK OK QK GK RK : Type 0) : Type 1 where
  pub request_tx : senders.Ghosts S Request SK
  pub reply_tx : senders.Ghosts T PlainReply TK
  pub gossip_tx : senders.Ghosts O workers.Entries OK
  pub request_rx : boxes.Ghosts Q Request S QK SK
  pub gossip_rx : gossip.Ghosts G workers.Entries O GK OK
  pub reply_rx : boxes.Ghosts R PlainReply T RK TK

-- from what each of them tells
abbrev pub mail_of : {S T O Q G R SK TK OK QK GK RK : Type 0} → senders.Ghosts S Request SK → senders.Ghosts T PlainReply TK → senders.Ghosts O workers.Entries OK
    → boxes.Ghosts Q Request S QK SK → gossip.Ghosts G workers.Entries O GK OK → boxes.Ghosts R PlainReply T RK TK → Ends S T O Q G R SK TK OK QK GK RK
mail_of request_tx reply_tx gossip_tx request_rx gossip_rx reply_rx = record {
  request_tx = request_tx;
  reply_tx = reply_tx;
  gossip_tx = gossip_tx;
  request_rx = request_rx;
  gossip_rx = gossip_rx;
  reply_rx = reply_rx;
}

module _ {S T O Q G R SK TK OK QK GK RK : Type 0} (mail : Ends S T O Q G R SK TK OK QK GK RK) where
  -- how far a worker came, and what went through its ends
  abbrev pub worker_lists : workers.PlainWorker Q T O G → workers.Lists
  worker_lists = workers.lists_of mail.request_rx.received mail.reply_tx.sent mail.gossip_tx.sent mail.gossip_rx.got

  -- and so of a session
  abbrev pub session_lists : sessions.PlainProxy S R → sessions.Lists
  session_lists = sessions.lists_of mail.request_tx.sent mail.reply_rx.received

  -- how many senders a box of requests has
  abbrev pub senders_of : Q → ℕ
  senders_of requests = mail.request_rx.senders (mail.request_rx.key requests)
