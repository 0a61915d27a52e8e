-- What a worker does in a call, and why it answers what it answers.
use Rattle.std.specs.Prelude.{◌≡◌, ◌≢◌, ◌⊎◌, ◌&&◌, ◌==◌, ℕ, ◌+◌, ◌-◌, ◌*◌, ◌<◌, ◌≤◌, ◌^◌, Bool, false, IsTrue, leb, not, min, if◌then◌else◌, List, [], ◌∷◌, ◌++◌, length, map, slice_index_or, slice_set, Option, Some, None, Result, Ok, Err, ⊤}
use Rattle.std.specs.List.{list_any}
use Rattle.lattice_laws.specs.Counts.{Rose}
use Rattle.composed_value.specs.Kind.{kind_of, kind_of_value}
use Rattle.composed_value.specs.declared.put.Put.{Put}
use Rattle.mail_contract.specs.Got.{Added}
use Rattle.mail_contract.specs.Parts.{Parts}
use Rattle.mail_contract.specs.Standing.{About, AreMet}
use Rattle.mail_contract.specs.Takes.{Answers}
use Rattle.merge_world.specs.Effects.{cells_at, hears, is_kind, takes}
use Rattle.merge_world.specs.declared.private_map.KeyCells.{KeyCells}
use Rattle.store_msg.specs.Reply.{PlainReply, reply_of}
use Rattle.store_msg.specs.declared.request.Request.{Request}
use Rattle.store_msg.specs.declared.request.Request.TheVariants as requests
use Rattle.gossip_rounds.specs.Batches.{ToldMate, batches}
use Rattle.gossip_rounds.specs.Batches.{Entries}
use Rattle.gossip_rounds.specs.Changes.{with_key}
use Rattle.worker_core.specs.Share.{IsSession, replies_to, shown_of, told_to}
use Rattle.worker_core.specs.State.{Lists, PlainWorker, State, changed_of, dirty, lives_at, mate_at}
use Rattle.worker_core.specs.declared.did.Did.{Did}
use Rattle.worker_core.specs.declared.did.Did.TheVariants as did
use Rattle.worker_core.specs.declared.popped.Popped.TheVariants as popped

-- a request is worked on: it was kept, or is popped now
abbrev pub IsTaken : ℕ → Request → Lists → Lists → Type 0
IsTaken session request before now =
    ((before.state.kept ≡ Some (popped.Request session request)) × (now.received ≡ before.received))
    ⊎ ((before.state.kept ≡ None) × (now.received ≡ before.received ++ (session, request) ∷ []))

-- and so a batch
abbrev pub IsGot : ℕ → Entries → Lists → Lists → Type 0
IsGot sender batch before now =
    ((before.state.kept ≡ Some (popped.Batch sender batch)) × (now.got ≡ before.got))
    ⊎ ((before.state.kept ≡ None) × Added sender batch before.got now.got)

-- what a request makes of the private map
abbrev pub served : Request → List (Option KeyCells) → List (Option KeyCells)
served (requests.Put key put) cells = takes key put cells
served (requests.Get ask key required) cells = cells

-- a put changes a key that is held: it has a number, and is of the key's kind
abbrev pub is_of : Put → Option KeyCells → Bool
is_of put None = false
is_of put (Some cells) = is_kind (kind_of put.payload) (kind_of_value cells.own.value)

abbrev pub changes : List (Option KeyCells) → Request → ℕ → Bool
changes cells (requests.Put key put) changed = key == changed && (leb 1 put.number && is_of put (cells_at cells key))
changes cells (requests.Get ask key required) changed = false

-- the key of a request
abbrev pub key_of : Request → ℕ
key_of (requests.Put key put) = key
key_of (requests.Get ask key required) = key

-- what a key that changed makes of the changeset: it is there for each mate that holds it
abbrev pub marked_for : List (List ℕ) → ℕ → ℕ → List (List ℕ) → ℕ → List ℕ
marked_for placement me key changed place =
    if lives_at placement (mate_at me place) key then with_key key (slice_index_or changed place []) else slice_index_or changed place []

-- what a request makes of it: the key of a put that changes it is there for each mate that holds it
abbrev pub marked_at : List (List ℕ) → ℕ → List (Option KeyCells) → Request → List (List ℕ) → ℕ → List ℕ
marked_at placement me cells request changed place =
    if changes cells request (key_of request) && lives_at placement (mate_at me place) (key_of request)
    then with_key (key_of request) (slice_index_or changed place []) else slice_index_or changed place []

abbrev pub AreMarked : List (List ℕ) → ℕ → List (Option KeyCells) → Request → List (List ℕ) → List (List ℕ) → Type 0
AreMarked placement me cells request changed changed_now =
    (place : ℕ) → place < length changed → slice_index_or changed_now place [] ≡ marked_at placement me cells request changed place

abbrev pub marked : State → Request → ℕ → List ℕ
marked state request place = marked_at state.placement state.me state.cells request state.changed place

-- what a request is replied by a worker, from its cells
abbrev pub reply_from : ℕ → List (Option KeyCells) → Request → List PlainReply
reply_from me cells (requests.Put key put) = []
reply_from me cells (requests.Get ask key required) = reply_of ask me key required (shown_of (cells_at cells key)) ∷ []

abbrev pub reply_to : State → Request → List PlainReply
reply_to state request = reply_from state.me state.cells request

-- A request is worked on.
pub record Serves (session : ℕ) (request : Request) (before now : Lists) : Type 0 where
  pub taken : IsTaken session request before now
  pub cells : now.state.cells ≡ served request before.state.cells
  pub changed : (place : ℕ) → place < length before.told → changed_of now.state place ≡ marked before.state request place
  pub replies : (to : ℕ) → IsSession before to → replies_to now to ≡ replies_to before to ++ (if session == to then reply_to before.state request else [])
  pub kept : now.state.kept ≡ None
  pub got : now.got ≡ before.got
  pub told : now.told ≡ before.told

-- A reply that was held goes out.
pub record HandsOver (before now : Lists) : Type 0 where
  pub session : ℕ
  pub reply : PlainReply
  pub was_held : before.state.held ≡ Some (session, reply)
  pub sent : now ≡ record before {
    state = record before.state { held = None };
    replied = slice_set before.replied (session - 1) (slice_index_or before.replied (session - 1) [] ++ reply ∷ []);
  }

-- A batch is joined.
pub record Hears (sender : ℕ) (batch : Entries) (before now : Lists) : Type 0 where
  pub taken : IsGot sender batch before now
  pub rest : now ≡ record before {
    state = record before.state { cells = hears batch before.state.cells; kept = None; turned = now.state.turned; since = now.state.since };
    got = now.got;
  }

-- as many requests as a `u64` counts
abbrev pub counted : ℕ → ℕ
counted requests = min requests (2 ^ 64 - 1)

abbrev pub TellsMate : List Bool → ℕ → Lists → Lists → Type 0
TellsMate tries place before now =
    ToldMate before.state.cells (counted (length before.received)) tries (changed_of before.state place) (changed_of now.state place)
    (told_to before place) (told_to now place) (slice_index_or before.state.turned place 0) (slice_index_or now.state.turned place 0)

-- Each mate is told, or some of them where memory was wanting; nothing else changes.
pub record Gossips (before now : Lists) : Type 0 where
  pub tries : List (List Bool)
  pub mates : length tries ≤ length before.told
  pub each : (place : ℕ) → place < length before.told → TellsMate (slice_index_or tries place []) place before now
  pub rest : now ≡ record before {
    state = record before.state { changed = now.state.changed; turned = now.state.turned; since = now.state.since };
    told = now.told;
  }

-- a batch was tried for each changed key of each mate
abbrev pub AllTried : Lists → List (List Bool) → Type 0
AllTried before tries = (place : ℕ) → place < length before.told → length (changed_of before.state place) ≤ 16 * length (slice_index_or tries place [])

-- how often boxes and senders answered
pub record Counts : Type 0 where
  pub requests : Answers
  pub gossip : Answers
  pub reply_fulls : List ℕ
  pub gossip_fulls : List ℕ

abbrev pub counts_of : {Q T O G : Type 0} → (Q → Answers) → (T → ℕ) → (O → ℕ) → (G → Answers) → PlainWorker Q T O G → Counts
counts_of requests replies told gossip worker = record {
  requests = requests worker.ends.requests;
  gossip = gossip worker.ends.gossip_in;
  reply_fulls = map replies worker.ends.replies.items;
  gossip_fulls = map told worker.ends.gossip_out.items;
}

-- a batch came back only where the count of its sender rose
abbrev pub BackOnlyWhereFull : Lists → List (List Bool) → Counts → Counts → Type 0
BackOnlyWhereFull before tries count count_now =
    (place : ℕ) → place < length before.told → IsTrue (list_any not (slice_index_or tries place []))
    → Rose (slice_index_or count.gossip_fulls place 0) (slice_index_or count_now.gossip_fulls place 0)

-- and what the room of each sender says of its tries
abbrev pub HaveRoom : Lists → List (List Bool) → (ℕ → List Bool → Type 0) → Type 0
HaveRoom before tries room = (place : ℕ) → place < length before.told → room place (slice_index_or tries place [])

-- A round: what it answers.
abbrev pub Rounds : {E : Type 0} → Result ℕ E → Lists → Lists → Counts → Counts → (ℕ → List Bool → Type 0) → Type 0
Rounds (Ok sent) before now count count_now room =
    (gossips : Gossips before now) × BackOnlyWhereFull before gossips.tries count count_now × HaveRoom before gossips.tries room
    × AllTried before gossips.tries × (sent ≡ batches gossips.tries) × (now.state.since ≡ 0)
Rounds (Err error) before now count count_now room =
    (gossips : Gossips before now) × BackOnlyWhereFull before gossips.tries count count_now × HaveRoom before gossips.tries room
    × (now.state.since ≡ before.state.since)

-- at some place a count rose
abbrev pub SomeRose : List ℕ → List ℕ → Type 0
SomeRose before now = (place : ℕ) × (place < length before) × Rose (slice_index_or before place 0) (slice_index_or now place 0)

-- nothing but counts changes, and what was turned back
abbrev pub IsUnmoved : Lists → Lists → Type 0
IsUnmoved before now = now ≡ record before { state = record before.state { turned = now.state.turned; since = now.state.since } }

-- to each of so many mates that is left to tell the first batch came back
abbrev pub AreFirstBack : ℕ → State → (ℕ → List Bool → Type 0) → Type 0
AreFirstBack mates state room = (place : ℕ) → place < mates → changed_of state place ≢ [] → (tries : List Bool) × room place (false ∷ tries)

-- no reply is held, or the one that is came back for want of a place
abbrev pub IsHeldBack : Option (ℕ × PlainReply) → List ℕ → List ℕ → Type 0
IsHeldBack held fulls fulls_now =
    (held ≡ None)
    ⊎ ((session : ℕ) × (reply : PlainReply) × (held ≡ Some (session, reply)) × (session - 1 < length fulls)
    × Rose (slice_index_or fulls (session - 1) 0) (slice_index_or fulls_now (session - 1) 0))

-- Nothing could be done for want of a place: no gossip was found and no request, or none was looked for since a reply is held; each send of
-- the call came back.
pub record IsBlocked (before now : Lists) (count count_now : Counts) (room : ℕ → List Bool → Type 0) : Type 0 where
  pub unmoved : IsUnmoved before now
  pub left : (1 ≤ dirty now.state) ⊎ ((held : ℕ × PlainReply) × (now.state.held ≡ Some held))
  pub no_gossip : Rose count.gossip.nones count_now.gossip.nones
  pub no_request : Rose count.requests.nones count_now.requests.nones ⊎ ((held : ℕ × PlainReply) × (now.state.held ≡ Some held))
  pub none_kept : now.state.kept ≡ None
  pub full : SomeRose count.reply_fulls count_now.reply_fulls ⊎ SomeRose count.gossip_fulls count_now.gossip_fulls
  -- to each mate that is left to tell the first batch came back
  pub no_room : AreFirstBack (length before.told) now.state room

-- There is nothing to do.
pub record IsIdle (before now : Lists) (count count_now : Counts) : Type 0 where
  pub unmoved : IsUnmoved before now
  pub no_gossip : Rose count.gossip.nones count_now.gossip.nones
  pub no_request : Rose count.requests.nones count_now.requests.nones
  pub clean : dirty now.state ≡ 0
  pub none_held : now.state.held ≡ None
  pub none_kept : now.state.kept ≡ None

-- a batch is heard that was kept, or that its box gave in this call
abbrev pub HearsSome : Lists → Lists → Counts → Counts → Type 0
HearsSome before now count count_now = (sender : ℕ) × (batch : Entries) × Hears sender batch before now × ((before.state.kept ≡ Some (popped.Batch sender batch)) ⊎ Rose count.gossip.somes count_now.gossip.somes)

-- a message is popped and kept, since memory was wanting
abbrev pub KeepsRequest : Lists → Lists → Type 0
KeepsRequest before now =
    (session : ℕ) × (request : Request) × (before.state.kept ≡ None) × (now ≡ record before {
      state = record before.state { kept = Some (popped.Request session request); since = now.state.since };
      received = before.received ++ (session, request) ∷ [];
    })

abbrev pub KeepsBatch : Lists → Lists → Type 0
KeepsBatch before now =
    (sender : ℕ) × (batch : Entries) × (before.state.kept ≡ None) × Added sender batch before.got now.got
    × (now ≡ record before { state = record before.state { kept = Some (popped.Batch sender batch) }; got = now.got })

-- Memory was wanting: batches may have gone out before, a message that was popped is kept, and the cells are as before.
pub record Lacks (before now : Lists) : Type 0 where
  pub told : Lists
  pub gossips : Gossips before told
  pub kept : (now ≡ told) ⊎ (KeepsRequest told now ⊎ KeepsBatch told now)

-- What a turn does, by its answer.
abbrev pub Turns : {E : Type 0} → Result Did E → Lists → Lists → Counts → Counts → (ℕ → List Bool → Type 0) → Type 0
Turns (Ok did.Request) before now count count_now room = ((session : ℕ) × (request : Request) × Serves session request before now) ⊎ HandsOver before now
Turns (Ok did.Gossip) before now count count_now room = HearsSome before now count count_now
Turns (Ok did.Round) before now count count_now room =
    (gossips : Gossips before now) × (1 ≤ batches gossips.tries) × HaveRoom before gossips.tries room
    × AllTried before gossips.tries × BackOnlyWhereFull before gossips.tries count count_now × (now.state.since ≡ 0)
Turns (Ok did.Blocked) before now count count_now room = IsBlocked before now count count_now room
Turns (Ok did.Idle) before now count count_now room = IsIdle before now count count_now
Turns (Err error) before now count count_now room = Lacks before now

-- a batch to a mate came back, and how many requests were taken by then is kept
pub record TurnsBack (taken back_now fulls fulls_now : ℕ) : Type 0 where
  pub full : Rose fulls fulls_now
  pub taken_is : back_now ≡ counted taken

-- what was turned back changes for a mate only where the count of its sender rose
abbrev pub TurnsOnlyWhereFull : Lists → Lists → Counts → Counts → Type 0
TurnsOnlyWhereFull before now count count_now =
    (place : ℕ) → place < length before.told
    → (slice_index_or now.state.turned place 0 ≡ slice_index_or before.state.turned place 0)
    ⊎ TurnsBack (length before.received) (slice_index_or now.state.turned place 0) (slice_index_or count.gossip_fulls place 0) (slice_index_or count_now.gossip_fulls place 0)

-- a request may be taken: fewer than a round's were since the last one, or the changeset is empty
abbrev pub MayAsk : State → Type 0
MayAsk state = (state.since < state.round) ⊎ (dirty state ≡ 0)

-- by the answer
abbrev pub OnNothing : {E : Type 0} → Result Did E → Type 0 → Type 0
OnNothing (Ok did.Blocked) holds = holds
OnNothing (Ok did.Idle) holds = holds
OnNothing result holds = ⊤

-- how many batches may still come: those that a box may hand out, and the one that is kept
abbrev pub may_come : ℕ → List (ℕ × Entries) → ℕ
may_come most kept = most + length kept

-- Where a box is finite and it is known of every sender how many messages are left: each batch that was joined is one fewer that may come, and
-- nothing makes more.
abbrev pub FewerMayCome : {M : Type 0} → Parts → ℕ → (ℕ → About M) → ℕ → ℕ → ℕ → Type 0
FewerMayCome keeps senders about joined left left_now = IsTrue keeps.finite → AreMet senders about → left_now + joined ≤ left

-- how many batches a turn joined, by its answer
abbrev pub joined_in : {E : Type 0} → Result Did E → ℕ
joined_in (Ok did.Gossip) = 1
joined_in result = 0

-- Senders of gossip are as they were, or a round was tried: keys were left to tell, and to each mate that was left to tell the first batch came
-- back.
abbrev pub StayOrCameBack : {S : Type 0} → S → S → Lists → (ℕ → List Bool → Type 0) → Type 0
StayOrCameBack senders senders_now before room = (senders_now ≡ senders) ⊎ ((1 ≤ dirty before.state) × AreFirstBack (length before.told) before.state room)

-- by the answer, where no batch went out
abbrev pub OnNoneSent : {E : Type 0} → Result Did E → Type 0 → Type 0
OnNoneSent (Ok did.Request) holds = holds
OnNoneSent (Ok did.Gossip) holds = holds
OnNoneSent (Ok did.Idle) holds = holds
OnNoneSent result holds = ⊤
