-- What contracts see of a worker: what it keeps itself, and what went through its ends.
use Rattle.std.specs.Prelude.{◌≡◌, ℕ, ◌+◌, ◌-◌, List, [], ◌∷◌, length, map, slice_index_or, sum_by, Bool, if◌then◌else◌, ltb, ◌==◌, replicate, Option, Some, None}
use Rattle.std.specs.List.{list_any}
use Rattle.composed_value.specs.declared.kind.Kind.{Kind}
use Rattle.merge_world.specs.Effects.{opening_map}
use Rattle.merge_world.specs.declared.private_map.KeyCells.{KeyCells}
use Rattle.store_msg.specs.Reply.{PlainReply}
use Rattle.store_msg.specs.declared.ends.WorkerEndsOver.{WorkerEndsOver}
use Rattle.store_msg.specs.declared.request.Request.{Request}
pub use Rattle.gossip_rounds.specs.Batches.{Entries}
use Rattle.worker_core.specs.declared.popped.Popped.{Popped}
use Rattle.worker_core.specs.declared.popped.Popped.TheVariants as popped

-- What a worker keeps itself. Keys, sessions and workers are counted from 1; its mates are the other workers, in ascending order.
pub record State : Type 0 where
  -- its number
  pub me : ℕ
  -- after how many requests it makes a round
  pub round : ℕ
  -- the replicas of each key, and its kind
  pub placement : List (List ℕ)
  pub kinds : List Kind
  -- its private map
  pub cells : List (Option KeyCells)
  -- the changeset: for each mate the keys that changed since the mate was last told of them, ascending
  pub changed : List (List ℕ)
  -- for each mate how many requests were taken when a batch to it last came back for want of a place, 0 before
  pub turned : List ℕ
  -- how many requests were taken since the last round, counted up to `round`
  pub since : ℕ
  -- a message that was popped and met want of memory
  pub kept : Option Popped
  -- a reply that found no place, with its session
  pub held : Option (ℕ × PlainReply)

-- what it keeps, and its ends: requests, replies by session, gossip by mate
pub record PlainWorker (Q T O G : Type 0) : Type 0 where
  pub state : State
  pub ends : WorkerEndsOver Q T O G

-- what it keeps, and what went through its ends
pub record Lists : Type 0 where
  pub state : State
  -- the requests that were taken, each with its session
  pub received : List (ℕ × Request)
  -- the batches that were handed out: at a sender's number and a place in what that one sent
  pub got : ℕ → ℕ → Option Entries
  -- for each session the replies that were sent
  pub replied : List (List PlainReply)
  -- for each mate the batches that were sent
  pub told : List (List Entries)

-- the lists of a worker over some kind of ends
abbrev pub lists_of : {Q T O G : Type 0} → (Q → List (ℕ × Request)) → (T → List PlainReply) → (O → List Entries) → (G → ℕ → ℕ → Option Entries) → PlainWorker Q T O G → Lists
lists_of received replied told got worker = record {
  state = worker.state;
  received = received worker.ends.requests;
  got = got worker.ends.gossip_in;
  replied = map replied worker.ends.replies.items;
  told = map told worker.ends.gossip_out.items;
}

-- the number of a mate, by its place from 0 among a worker's mates
abbrev pub mate_at : ℕ → ℕ → ℕ
mate_at me place = if ltb (place + 1) me then place + 1 else place + 2

-- and the place of a mate, by its number
abbrev pub place_at : ℕ → ℕ → ℕ
place_at me mate = if ltb mate me then mate - 1 else mate - 2

-- a worker holds a key: it is one of the key's replicas
abbrev pub lives_at : List (List ℕ) → ℕ → ℕ → Bool
lives_at placement worker key = list_any (λ replica. replica == worker) (slice_index_or ([] ∷ placement) key [])

-- the key changed since the mate at this place was last told of it
abbrev pub changed_of : State → ℕ → List ℕ
changed_of state place = slice_index_or state.changed place []

-- how many pairs of a key and a mate are in the changeset
abbrev pub dirty : State → ℕ
dirty state = sum_by length state.changed

-- the kept message as a list of requests, and as one of batches
abbrev pub kept_request : Option Popped → List (ℕ × Request)
kept_request None = []
kept_request (Some (popped.Request session request)) = (session, request) ∷ []
kept_request (Some (popped.Batch sender batch)) = []

abbrev pub kept_batch : Option Popped → List (ℕ × Entries)
kept_batch None = []
kept_batch (Some (popped.Request session request)) = []
kept_batch (Some (popped.Batch sender batch)) = (sender, batch) ∷ []

-- before anything was received
abbrev pub opening_state : ℕ → ℕ → List (List ℕ) → List Kind → ℕ → State
opening_state me round placement kinds mates = record {
  me = me;
  round = round;
  placement = placement;
  kinds = kinds;
  cells = opening_map placement kinds me;
  changed = replicate mates [];
  turned = replicate mates 0;
  since = 0;
  kept = None;
  held = None;
}

-- what no call changes
pub record IsFixed (before now : State) : Type 0 where
  pub me : now.me ≡ before.me
  pub round : now.round ≡ before.round
  pub placement : now.placement ≡ before.placement
  pub kinds : now.kinds ≡ before.kinds

-- the keys and numbers of the ends stay
pub record KeysStay {Q T O G QK TK OK GK : Type 0} (requests : Q → QK) (replies : T → TK) (reply_numbers : T → ℕ) (gossip_out : O → OK) (gossip_numbers : O → ℕ) (gossip_in : G → GK) (before now : PlainWorker Q T O G) : Type 0 where
  pub requests_key : requests now.ends.requests ≡ requests before.ends.requests
  pub replies_keys : map replies now.ends.replies.items ≡ map replies before.ends.replies.items
  pub replies_numbers : map reply_numbers now.ends.replies.items ≡ map reply_numbers before.ends.replies.items
  pub gossip_out_keys : map gossip_out now.ends.gossip_out.items ≡ map gossip_out before.ends.gossip_out.items
  pub gossip_out_numbers : map gossip_numbers now.ends.gossip_out.items ≡ map gossip_numbers before.ends.gossip_out.items
  pub gossip_in_key : gossip_in now.ends.gossip_in ≡ gossip_in before.ends.gossip_in
