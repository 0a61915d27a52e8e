-- What turning the workers changes, by all that the traits of their ends let contracts see of them: the words of `Ready.antt` over workers, and not over lists.
use Rattle.std.specs.Prelude.{◌≡◌, ◌≢◌, ◌⊎◌, ℕ, ◌+◌, ◌≤◌, Bool, if◌then◌else◌, List, slice_get, Result, IfOk, Some}
use Rattle.mail_contract.specs.OverBoxes as requests_in
use Rattle.mail_contract.specs.declared.gossip.GossipRx as weak
use Rattle.mail_contract.specs.declared.rx.Rx as boxes
use Rattle.mail_contract.specs.declared.tx.Tx as senders
use Rattle.store_msg.specs.Reply.{PlainReply}
use Rattle.store_msg.specs.declared.request.Request.{Request}
use Rattle.worker_core.specs.State.{Entries, PlainWorker, dirty}
use Rattle.party_turns.specs.Mates as mates
use Rattle.party_turns.specs.OverWorkers.{steadies}
use Rattle.party_turns.specs.Places.{AtPlace, BothAt}
use Rattle.party_turns.specs.Turning as turning
use Rattle.drain_turns.specs.Ready as ready

-- over the box of requests
module _ {Q S T O G QK SK : Type 0} (requests : boxes.Ghosts Q Request S QK SK) where
  -- nothing is left to a worker
  abbrev pub IsDone : PlainWorker Q T O G → Type 0
  IsDone = turning.IsDone requests.keeps (requests_in.seen requests)

-- over the senders of replies and of gossip
module _ {T O TK OK : Type 0} (replies : senders.Ghosts T PlainReply TK) (told : senders.Ghosts O Entries OK) where
  -- none of them ever wants for a place
  abbrev pub NeverFull : Type 0
  NeverFull = ready.NeverFull T O replies.fulls told.fulls

-- over the boxes, and the senders of replies
module _ {Q T G O S QK TK GK OK SK : Type 0} (requests : boxes.Ghosts Q Request S QK SK) (replies : senders.Ghosts T PlainReply TK) (gossip : weak.Ghosts G Entries O GK OK) where
  -- where senders may want for a place, they find one in the end; and no reply is wanting
  abbrev pub FindPlaces : List (PlainWorker Q T O G) → Type 0
  FindPlaces = ready.FindPlaces gossip.keeps requests.about replies.sent (λ its. requests.senders (requests.key its))

-- over the senders and the box of gossip
module _ {O G Q T OK GK : Type 0} (told : senders.Ghosts O Entries OK) (gossip : weak.Ghosts G Entries O GK OK) where
  -- what the worker at a place knows of each mate since it was last held beside it
  abbrev pub KnowsEach : ℕ → List (PlainWorker Q T O G) → Type 0
  KnowsEach place workers =
      (other : ℕ) (now : PlainWorker Q T O G) (mate : mates.Steady Q T OK GK) → other ≢ place → slice_get workers place ≡ Some now
      → slice_get (steadies told gossip workers) other ≡ Some mate → mates.Knows told.clear told.unseen told.sent gossip.keeps gossip.about gossip.due place other now mate

  -- the worker at a place hears each mate
  abbrev pub HearsEach : ℕ → List (PlainWorker Q T O G) → List (PlainWorker Q T O G) → Type 0
  HearsEach place before now = (other : ℕ) → other ≢ place → ready.Hears other place (steadies told gossip before) (steadies told gossip now)

  -- what being held beside mates leaves of each stays
  abbrev pub StaySteady : List (PlainWorker Q T O G) → List (PlainWorker Q T O G) → Type 0
  StaySteady before now = steadies told gossip now ≡ steadies told gossip before

  -- how much is left to tell
  abbrev pub left_to_all : List (PlainWorker Q T O G) → ℕ
  left_to_all workers = ready.left_to_all (steadies told gossip workers)

  -- and less after a pass in which not every worker was Idle
  abbrev pub LeavesLess : {E : Type 0} → Result Bool E → List (PlainWorker Q T O G) → List (PlainWorker Q T O G) → Type 0
  LeavesLess result before now = IfOk result (λ idle. left_to_all now + (if idle then 0 else 1) ≤ left_to_all before)

-- over the boxes, and the senders of gossip
module _ {Q O G S T QK OK GK SK : Type 0} (requests : boxes.Ghosts Q Request S QK SK) (told : senders.Ghosts O Entries OK) (gossip : weak.Ghosts G Entries O GK OK) where
  -- workers that can be held beside each other, and of whose sessions it is known what they sent
  abbrev pub AreReady : List (PlainWorker Q T O G) → Type 0
  AreReady =
      ready.AreReady requests.keeps.complete (λ its. requests.senders (requests.key its)) requests.received requests.about told.key told.number gossip.key gossip.pairs gossip.senders
      gossip.about

  -- no request is left to any of them, and to the one at a place
  abbrev pub HaveNoneLeft : List (PlainWorker Q T O G) → Type 0
  HaveNoneLeft workers = ready.HaveNoneLeft (λ its. requests.senders (requests.key its)) requests.received requests.about (steadies told gossip workers)

  abbrev pub HasNoneLeft : mates.Steady Q T OK GK → Type 0
  HasNoneLeft worker = ready.left_to (λ its. requests.senders (requests.key its)) requests.received requests.about worker ≡ 0

  abbrev pub HasNoneLeftAt : ℕ → List (PlainWorker Q T O G) → Type 0
  HasNoneLeftAt place workers = AtPlace (steadies told gossip workers) place HasNoneLeft

  -- where none was left, of how many batches the one at a place told its mates, and how many keys it has to tell
  abbrev pub OwesAt : ℕ → List (PlainWorker Q T O G) → List (PlainWorker Q T O G) → Type 0
  OwesAt place before now =
      BothAt (steadies told gossip before) (steadies told gossip now) place (λ was is. HasNoneLeft was → turning.Owes was.told is.told (dirty was.state) (dirty is.state))

  -- and it has fewer keys to tell, or some mate missed a batch of it
  abbrev pub IsBusyAt : ℕ → List (PlainWorker Q T O G) → List (PlainWorker Q T O G) → Type 0
  IsBusyAt place before now =
      BothAt (steadies told gossip before) (steadies told gossip now) place (λ was is. HasNoneLeft was
      → (dirty is.state + 1 ≤ dirty was.state) ⊎ ready.MatesMiss place (steadies told gossip before))

-- over all ends
module _ {S T O Q G SK TK OK QK GK : Type 0} (requests : boxes.Ghosts Q Request S QK SK) (replies : senders.Ghosts T PlainReply TK)
    (told : senders.Ghosts O Entries OK) (gossip : weak.Ghosts G Entries O GK OK) where
  -- they have gone on, each at its place
  abbrev pub HaveGoneOn : List (PlainWorker Q T O G) → List (PlainWorker Q T O G) → Type 0
  HaveGoneOn =
      mates.HaveGoneOn requests.key replies.key replies.number told.key told.number gossip.key requests.keeps.complete requests.senders requests.received requests.about replies.sent
      gossip.keeps.complete gossip.senders gossip.got gossip.about
