-- What it changes of a worker to be turned, by all that the traits of its ends let contracts see of them: the words of the other files over a worker, and not over lists.
use Rattle.std.specs.Prelude.{◌≡◌, ◌⊎◌, ℕ, ◌+◌, IsTrue, is_some, List, map, Result}
use Rattle.mail_contract.specs.OverBoxes as requests_in
use Rattle.mail_contract.specs.OverWeakBoxes as batches_in
use Rattle.mail_contract.specs.Standing as standing
use Rattle.mail_contract.specs.declared.gossip.GossipRx as weak
use Rattle.mail_contract.specs.declared.rx.Rx as boxes
use Rattle.mail_contract.specs.declared.tx.Tx as senders
use Rattle.run_measure.specs.Steps as steps
use Rattle.store_msg.specs.Reply.{PlainReply}
use Rattle.store_msg.specs.declared.request.Request.{Request}
use Rattle.worker_core.specs.State.{Entries, PlainWorker, dirty, kept_batch, lists_of}
use Rattle.worker_core.specs.Turns.{may_come}
use Rattle.worker_core.specs.declared.did.Did.{Did}
use Rattle.party_turns.specs.Mates as mates
use Rattle.party_turns.specs.Stretch as stretch
use Rattle.party_turns.specs.Turning as turning

-- no sender of these ever wants for a place
abbrev pub NeverFull : {T M TK : Type 0} → senders.Ghosts T M TK → Type 0
NeverFull {T} its = (sender : T) → its.fulls sender ≡ 0

-- over its box of requests
module _ {Q S T O G QK SK : Type 0} (requests : boxes.Ghosts Q Request S QK SK) where
  -- of each session it is known what it sent
  abbrev pub AreKnown : PlainWorker Q T O G → Type 0
  AreKnown worker =
      turning.AreKnown requests.keeps.complete (requests_in.senders_of requests worker.ends.requests) (requests.received worker.ends.requests) (requests.about worker.ends.requests)

  -- no request is found in its box, unless a reply is held
  abbrev pub NoRequest : PlainWorker Q T O G → Type 0
  NoRequest worker = IsTrue (is_some worker.state.held) ⊎ requests_in.FindsNothing requests worker.ends.requests

  -- how many requests are left to it, and how often it may still answer that it worked on one
  abbrev pub requests_left : PlainWorker Q T O G → ℕ
  requests_left = turning.requests_left (λ its. requests.senders (requests.key its)) requests.received requests.about

  abbrev pub left_to_serve : PlainWorker Q T O G → ℕ
  left_to_serve = stretch.left_to_serve (λ its. requests.senders (requests.key its)) requests.received requests.about

-- over its senders of replies
module _ {T Q O G TK : Type 0} (replies : senders.Ghosts T PlainReply TK) where
  -- where a reply is held, the sender to its session found no place for the next one at first, or has sent one since
  abbrev pub HasSentSince : PlainWorker Q T O G → PlainWorker Q T O G → Type 0
  HasSentSince before now = turning.HasSentSince replies.clear replies.sent before.ends.replies.items now.ends.replies.items now.state.held

-- over its senders of gossip
module _ {O Q T G OK : Type 0} (told : senders.Ghosts O Entries OK) where
  -- of how many batches it told its mates, and how many keys it has to tell them
  abbrev pub Owes : PlainWorker Q T O G → PlainWorker Q T O G → Type 0
  Owes before now = turning.Owes (map told.sent before.ends.gossip_out.items) (map told.sent now.ends.gossip_out.items) (dirty before.state) (dirty now.state)

  -- what room there is, by the answer
  abbrev pub RoomAfter : {E : Type 0} → Result Did E → PlainWorker Q T O G → PlainWorker Q T O G → Type 0
  RoomAfter = stretch.RoomAfter told.clear told.roomy told.unseen

  -- a reply is held, or fewer keys are left to tell, or to some mate the first batch came back
  abbrev pub LacksRoom : PlainWorker Q T O G → PlainWorker Q T O G → Type 0
  LacksRoom = stretch.LacksRoom told.clear told.roomy told.unseen

-- over its box of gossip
module _ {G Q T O GK OK : Type 0} (gossip : weak.Ghosts G Entries O GK OK) where
  -- of each mate it is known how many batches are left
  abbrev pub AreMet : PlainWorker Q T O G → Type 0
  AreMet worker = standing.AreMet (batches_in.senders_of gossip worker.ends.gossip_in) (gossip.about worker.ends.gossip_in)

  -- how its box stands to its mates stays
  abbrev pub AllStand : PlainWorker Q T O G → PlainWorker Q T O G → Type 0
  AllStand before now = standing.AllStand (gossip.about before.ends.gossip_in) (gossip.about now.ends.gossip_in)

  -- it heard a batch of each mate that was due, where one was missing
  abbrev pub HearsDue : PlainWorker Q T O G → PlainWorker Q T O G → Type 0
  HearsDue before now = turning.HearsDue (gossip.got before.ends.gossip_in) (gossip.got now.ends.gossip_in) (gossip.about before.ends.gossip_in) (gossip.due before.ends.gossip_in)

  -- how many batches may still come, and how many keys are left to tell
  abbrev pub batches_left : PlainWorker Q T O G → ℕ
  batches_left worker = may_come (gossip.most worker.ends.gossip_in) (kept_batch worker.state.kept) + dirty worker.state

-- over its senders and its box of gossip
module _ {O G Q T OK GK : Type 0} (told : senders.Ghosts O Entries OK) (gossip : weak.Ghosts G Entries O GK OK) where
  -- workers that can be held beside each other
  abbrev pub AreMates : List (PlainWorker Q T O G) → Type 0
  AreMates = mates.AreMates told.key told.number gossip.key gossip.pairs

  -- those at two places were
  abbrev pub AreShown : ℕ → ℕ → List (PlainWorker Q T O G) → List (PlainWorker Q T O G) → Type 0
  AreShown = mates.AreShown told.key told.number told.sent told.clear told.unseen gossip.key gossip.keeps gossip.got gossip.about gossip.due

  -- what being held beside its mates leaves of a worker
  abbrev pub steadies : List (PlainWorker Q T O G) → List (mates.Steady Q T OK GK)
  steadies = mates.steadies told.key told.number told.sent gossip.key gossip.got

-- over all its ends
module _ {S T O Q G SK TK OK QK GK : Type 0} (requests : boxes.Ghosts Q Request S QK SK) (replies : senders.Ghosts T PlainReply TK)
    (told : senders.Ghosts O Entries OK) (gossip : weak.Ghosts G Entries O GK OK) where
  -- what it keeps while it is turned, or held beside its mates between turns
  abbrev pub HasGoneOn : PlainWorker Q T O G → PlainWorker Q T O G → Type 0
  HasGoneOn =
      turning.HasGoneOn requests.key replies.key replies.number told.key told.number gossip.key requests.keeps.complete requests.senders requests.received requests.about replies.sent
      gossip.keeps.complete gossip.senders gossip.got gossip.about

  -- it goes on by turns: no more is left to it
  abbrev pub GoesOn : PlainWorker Q T O G → PlainWorker Q T O G → Type 0
  GoesOn =
      stretch.GoesOn requests.key replies.key replies.number told.key told.number gossip.key requests.keeps.complete requests.senders requests.received requests.about replies.sent
      told.sent gossip.keeps.complete gossip.senders gossip.got gossip.about gossip.due

  -- it served what it took
  abbrev pub HasServed : PlainWorker Q T O G → PlainWorker Q T O G → Type 0
  HasServed before now =
      steps.HasServed (lists_of requests.received replies.sent told.sent gossip.got before) (lists_of requests.received replies.sent told.sent gossip.got now)
