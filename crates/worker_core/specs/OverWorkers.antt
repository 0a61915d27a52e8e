-- What a worker is and does, by all that the traits of its ends let contracts see of them: the words of the other files over a worker, and not over lists.
use Rattle.std.specs.Prelude.{◌≡◌, ◌≢◌, ℕ, ◌-◌, Bool, List, map, slice_get, Result, Some}
use Rattle.mail_contract.specs.OverBoxes as requests_in
use Rattle.mail_contract.specs.OverSenders.{number_at, sent_at}
use Rattle.mail_contract.specs.OverWeakBoxes as batches_in
use Rattle.mail_contract.specs.declared.gossip.GossipRx as weak
use Rattle.mail_contract.specs.declared.rx.Rx as boxes
use Rattle.mail_contract.specs.declared.tx.Tx as senders
use Rattle.store_msg.specs.Reply.{PlainReply}
use Rattle.store_msg.specs.declared.request.Request.{Request}
use Rattle.gossip_rounds.specs.Batches.{Entries, RoomAt}
use Rattle.worker_core.specs.Kept as kept
use Rattle.worker_core.specs.Lag as lag
use Rattle.worker_core.specs.Order as order
use Rattle.worker_core.specs.Room as room
use Rattle.worker_core.specs.Serving as serving
use Rattle.worker_core.specs.Share as shares
use Rattle.worker_core.specs.Showing as showing
use Rattle.worker_core.specs.State.{Lists, PlainWorker, kept_batch, place_at}
use Rattle.worker_core.specs.State as states
use Rattle.worker_core.specs.Turns as turns
use Rattle.worker_core.specs.declared.did.Did.{Did}

-- over its senders of replies
module _ {T Q O G TK : Type 0} (replies : senders.Ghosts T PlainReply TK) where
  -- no reply that it sent is taken back
  abbrev pub NoneTakenBack : PlainWorker Q T O G → PlainWorker Q T O G → Type 0
  NoneTakenBack before now = serving.NoneTakenBack (map replies.sent before.ends.replies.items) (map replies.sent now.ends.replies.items)

  -- its senders of replies: those that found a place for the next one still do, or have sent one since
  abbrev pub StayClear : PlainWorker Q T O G → PlainWorker Q T O G → Type 0
  StayClear before now = room.StayClear replies.clear replies.sent before.ends.replies.items now.ends.replies.items

  -- and the one to the session for which a reply is held now found none
  abbrev pub WantsPlace : PlainWorker Q T O G → PlainWorker Q T O G → Type 0
  WantsPlace before now = room.WantsPlace replies.clear before.ends.replies.items now.state.held

  abbrev pub HasNoRoom : PlainWorker Q T O G → PlainWorker Q T O G → Type 0
  HasNoRoom before now = room.HasNoRoom replies.roomy replies.unseen before.ends.replies.items now.state.held

  -- a reply is held after it worked on a request only where it came back; a batch leaves what senders of replies tell
  abbrev pub HoldsBack : PlainWorker Q T O G → PlainWorker Q T O G → Type 0
  HoldsBack before now = serving.HoldsBack before.state.kept now.state.held (map replies.fulls before.ends.replies.items) (map replies.fulls now.ends.replies.items)

  -- the reply that is held is sent again
  abbrev pub Resent : {E : Type 0} → Result Bool E → PlainWorker Q T O G → PlainWorker Q T O G → Type 0
  Resent result before now =
      serving.Resent result before.state.held now.state.held (map replies.sent before.ends.replies.items) (map replies.sent now.ends.replies.items)
      (map replies.fulls before.ends.replies.items) (map replies.fulls now.ends.replies.items)

-- over its box of gossip
module _ {G Q T O GK OK : Type 0} (gossip : weak.Ghosts G Entries O GK OK) where
  -- so many batches were joined: as many fewer may still come
  abbrev pub FewerMayCome : ℕ → PlainWorker Q T O G → PlainWorker Q T O G → Type 0
  FewerMayCome joined before now =
      turns.FewerMayCome gossip.keeps (batches_in.senders_of gossip before.ends.gossip_in) (gossip.about before.ends.gossip_in) joined
      (turns.may_come (gossip.most before.ends.gossip_in) (kept_batch before.state.kept)) (turns.may_come (gossip.most now.ends.gossip_in) (kept_batch now.state.kept))

-- its sender of replies to a session, by the session's number
abbrev pub IsReplier : {Q T O G : Type 0} → PlainWorker Q T O G → ℕ → T → Type 0
IsReplier worker session sender = slice_get worker.ends.replies.items (session - 1) ≡ Some sender

-- the place of a worker's sender to another among its senders of gossip
abbrev pub place_to : {Q T O G : Type 0} → PlainWorker Q T O G → PlainWorker Q T O G → ℕ
place_to worker mate = place_at worker.state.me mate.state.me

-- a worker's sender to another and the other's box are of one making
module _ {Q T O G GK OK : Type 0} (told : senders.Ghosts O Entries OK) (gossip : weak.Ghosts G Entries O GK OK) where
  abbrev pub IsPaired : PlainWorker Q T O G → PlainWorker Q T O G → Type 0
  IsPaired worker mate =
      (sender : O) → slice_get worker.ends.gossip_out.items (place_to worker mate) ≡ Some sender → gossip.pairs (gossip.key mate.ends.gossip_in) (told.key sender) (told.number sender)

-- over all its ends
module _ {S T O Q G SK TK OK QK GK : Type 0} (requests : boxes.Ghosts Q Request S QK SK) (replies : senders.Ghosts T PlainReply TK)
    (told : senders.Ghosts O Entries OK) (gossip : weak.Ghosts G Entries O GK OK) where
  -- what went through its ends, and how often they answered
  abbrev pub lists_of : PlainWorker Q T O G → Lists
  lists_of = states.lists_of requests.received replies.sent told.sent gossip.got

  abbrev pub counts_of : PlainWorker Q T O G → turns.Counts
  counts_of = turns.counts_of requests.answers replies.fulls told.fulls gossip.answers

  -- what the room of its senders of gossip says of the batches that are tried
  abbrev pub room_of : PlainWorker Q T O G → ℕ → List Bool → Type 0
  room_of worker = RoomAt told.clear told.roomy told.unseen worker.ends.gossip_out.items

  -- what it keeps from call to call
  abbrev pub Share : PlainWorker Q T O G → Type 0
  Share worker = shares.Share (lists_of worker)

  abbrev pub Lags : PlainWorker Q T O G → Type 0
  Lags worker = lag.Lags (lists_of worker)

  abbrev pub IsKept : PlainWorker Q T O G → Type 0
  IsKept worker = kept.IsKept (lists_of worker)

  -- the keys and numbers of its ends stay
  abbrev pub KeysStay : PlainWorker Q T O G → PlainWorker Q T O G → Type 0
  KeysStay = states.KeysStay requests.key replies.key replies.number told.key told.number gossip.key

  -- a turn: what it does, and what came before
  abbrev pub Turns : {E : Type 0} → Result Did E → PlainWorker Q T O G → PlainWorker Q T O G → Type 0
  Turns result before now = turns.Turns result (lists_of before) (lists_of now) (counts_of before) (counts_of now) (room_of before)

  abbrev pub InOrder : {E : Type 0} → Result Did E → PlainWorker Q T O G → PlainWorker Q T O G → Type 0
  InOrder result before now = order.InOrder result (lists_of before) (lists_of now) (counts_of before) (counts_of now) (room_of before)

  -- what comes back does only where a sender wanted for a place
  abbrev pub TurnsOnlyWhereFull : PlainWorker Q T O G → PlainWorker Q T O G → Type 0
  TurnsOnlyWhereFull before now = turns.TurnsOnlyWhereFull (lists_of before) (lists_of now) (counts_of before) (counts_of now)

  -- its senders of gossip are as they were, or a round was tried in vain
  abbrev pub StayOrCameBack : PlainWorker Q T O G → PlainWorker Q T O G → Type 0
  StayOrCameBack before now = turns.StayOrCameBack before.ends.gossip_out now.ends.gossip_out (lists_of before) (room_of before)

  -- what it shows and tells goes on
  abbrev pub ShowsMore : PlainWorker Q T O G → PlainWorker Q T O G → Type 0
  ShowsMore before now = showing.ShowsMore (lists_of before) (lists_of now)

  -- it works on the message that is kept
  abbrev pub WorksOn : {E : Type 0} → Result Did E → PlainWorker Q T O G → PlainWorker Q T O G → Type 0
  WorksOn result before now = serving.WorksOn result (lists_of before) (lists_of now)

  -- a batch of gossip is taken and kept, and so a request
  abbrev pub TakesGossip : {E : Type 0} → Result Bool E → PlainWorker Q T O G → PlainWorker Q T O G → Type 0
  TakesGossip result before now =
      serving.TakesGossip result (lists_of before) (lists_of now) (gossip.answers before.ends.gossip_in) (gossip.answers now.ends.gossip_in)
      (batches_in.FindsNothing gossip now.ends.gossip_in)

  abbrev pub TakesRequest : {E : Type 0} → Result Bool E → PlainWorker Q T O G → PlainWorker Q T O G → Type 0
  TakesRequest result before now =
      serving.TakesRequest result (lists_of before) (lists_of now) (requests.answers before.ends.requests) (requests.answers now.ends.requests)
      (requests_in.FindsNothing requests now.ends.requests)

  -- a round of gossip, and one or none
  abbrev pub Rounds : {E : Type 0} → Result ℕ E → PlainWorker Q T O G → PlainWorker Q T O G → Type 0
  Rounds result before now = turns.Rounds result (lists_of before) (lists_of now) (counts_of before) (counts_of now) (room_of before)

  abbrev pub RoundsIf : {E : Type 0} → Bool → Result ℕ E → PlainWorker Q T O G → PlainWorker Q T O G → Type 0
  RoundsIf made result before now = serving.RoundsIf made result (lists_of before) (lists_of now) (counts_of before) (counts_of now) (room_of before)

  -- What changes of a worker that is held beside another: its box of gossip learns what the other's sender to it sent, and its sender to the other what
  -- was handed out there.
  pub record Learns (before now mate : PlainWorker Q T O G) : Type 0 where
    pub share : Share now
    pub lags : Lags now
    pub state : now.state ≡ before.state
    pub requests_stay : now.ends.requests ≡ before.ends.requests
    pub replies_stay : now.ends.replies ≡ before.ends.replies
    pub gossip_key : gossip.key now.ends.gossip_in ≡ gossip.key before.ends.gossip_in
    pub shows :
        batches_in.Shows gossip (number_at told mate.ends.gossip_out.items (place_to mate before)) (sent_at told mate.ends.gossip_out.items (place_to mate before))
        before.ends.gossip_in now.ends.gossip_in
    pub keys : map told.key now.ends.gossip_out.items ≡ map told.key before.ends.gossip_out.items
    pub numbers : map told.number now.ends.gossip_out.items ≡ map told.number before.ends.gossip_out.items
    pub sent : map told.sent now.ends.gossip_out.items ≡ map told.sent before.ends.gossip_out.items
    pub fulls : map told.fulls now.ends.gossip_out.items ≡ map told.fulls before.ends.gossip_out.items
    pub others : (other : ℕ) → other ≢ place_to before mate → slice_get now.ends.gossip_out.items other ≡ slice_get before.ends.gossip_out.items other
    pub learns_room :
        room.LearnsRoomAt told.clear told.unseen now.ends.gossip_out.items (place_to before mate) gossip.keeps
        (gossip.got mate.ends.gossip_in (number_at told before.ends.gossip_out.items (place_to before mate))) (sent_at told before.ends.gossip_out.items (place_to before mate))
