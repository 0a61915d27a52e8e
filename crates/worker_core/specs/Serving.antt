-- A worker works on the message that is kept.
use Rattle.std.specs.Prelude.{◌≡◌, ◌⊎◌, ℕ, ◌-◌, ◌<◌, ◌≤◌, ◌==◌, ◌||◌, ltb, Bool, true, false, IsTrue, is_some, if◌then◌else◌, List, [], ◌∷◌, ◌++◌, length, slice_index_or, slice_set, Option, Some, None, Result, Ok, Err, IfOk, OnErr, OnOk, ⊤}
use Rattle.lattice_laws.specs.Counts.{Rose}
use Rattle.mail_contract.specs.Takes.{Answers, IsFront}
use Rattle.merge_world.specs.Effects.{cells_at, hears}
use Rattle.store_msg.specs.Reply.{PlainReply}
use Rattle.store_msg.specs.declared.request.Request.{Request}
use Rattle.worker_core.specs.Share.{IsHeldFor, owed_to}
use Rattle.worker_core.specs.State.{Lists, State, dirty, lives_at}
use Rattle.worker_core.specs.Turns.{Counts, IsHeldBack, KeepsBatch, KeepsRequest, Rounds, marked, reply_to, served}
use Rattle.worker_core.specs.declared.did.Did.{Did}
use Rattle.worker_core.specs.declared.did.Did.TheVariants as did
use Rattle.worker_core.specs.declared.popped.Popped.{Popped}
use Rattle.worker_core.specs.declared.popped.Popped.TheVariants as popped

-- replies to a session are sent or held, after those that were
abbrev pub AddsReplies : ℕ → List PlainReply → List (List PlainReply) → Option (ℕ × PlainReply) → List (List PlainReply) → Option (ℕ × PlainReply) → Type 0
AddsReplies session replies before held now held_now =
    (to : ℕ) → 1 ≤ to → to ≤ length before → owed_to now held_now to ≡ owed_to before held to ++ (if session == to then replies else [])

-- no reply that was sent is taken back: what was sent to each session goes on from what was
abbrev pub NoneTakenBack : List (List PlainReply) → List (List PlainReply) → Type 0
NoneTakenBack before now = (place : ℕ) → IsFront (slice_index_or before place []) (slice_index_or now place [])

-- a request is worked on, by what the worker keeps and what it replied
pub record Worked (session : ℕ) (request : Request) (before now : State) (replied replied_now : List (List PlainReply)) : Type 0 where
  pub cells : now.cells ≡ served request before.cells
  pub changed : (place : ℕ) → place < length before.changed → slice_index_or now.changed place [] ≡ marked before request place
  pub mates : length now.changed ≡ length before.changed
  pub replies : AddsReplies session (reply_to before request) replied before.held replied_now now.held
  pub held : IsHeldFor (length replied) now.held
  pub rest : now ≡ record before { cells = now.cells; changed = now.changed; kept = None; held = now.held }

-- the private map has cells of just the keys that live at the worker
abbrev pub HoldsItsKeys : State → Type 0
HoldsItsKeys state = (key : ℕ) → is_some (cells_at state.cells key) ≡ lives_at state.placement state.me key

-- and so the message that is kept
abbrev pub Served : Option Popped → State → State → List (List PlainReply) → List (List PlainReply) → Type 0
Served None before now replied replied_now = ⊥
Served (Some (popped.Request session request)) before now replied replied_now = Worked session request before now replied replied_now
Served (Some (popped.Batch sender batch)) before now replied replied_now =
    (now ≡ record before { cells = hears batch before.cells; kept = None }) × (replied_now ≡ replied)

-- where it was a request, no reply is held after it but one that came back; a batch leaves what senders of replies tell
abbrev pub HoldsBack : Option Popped → Option (ℕ × PlainReply) → List ℕ → List ℕ → Type 0
HoldsBack None held fulls fulls_now = ⊤
HoldsBack (Some (popped.Request session request)) held fulls fulls_now = IsHeldBack held fulls fulls_now
HoldsBack (Some (popped.Batch sender batch)) held fulls fulls_now = fulls_now ≡ fulls

-- what it was
abbrev pub did_of : Option Popped → Did
did_of None = did.Idle
did_of (Some (popped.Request session request)) = did.Request
did_of (Some (popped.Batch sender batch)) = did.Gossip

-- the reply that is held is sent again, or there is none
abbrev pub Resent : {E : Type 0} → Result Bool E → Option (ℕ × PlainReply) → Option (ℕ × PlainReply) → List (List PlainReply) → List (List PlainReply) → List ℕ → List ℕ → Type 0
Resent (Ok true) held held_now replied replied_now fulls fulls_now =
    (session : ℕ) × (reply : PlainReply) × (held ≡ Some (session, reply)) × (held_now ≡ None)
    × (replied_now ≡ slice_set replied (session - 1) (slice_index_or replied (session - 1) [] ++ reply ∷ []))
Resent (Ok false) held held_now replied replied_now fulls fulls_now =
    (held_now ≡ held) × (replied_now ≡ replied) × IsHeldBack held fulls fulls_now
Resent (Err error) held held_now replied replied_now fulls fulls_now = (held_now ≡ held) × (replied_now ≡ replied)

-- the message that is kept is worked on, by the answer
pub record WorksOn {E : Type 0} (result : Result Did E) (before now : Lists) : Type 0 where
  pub serves : OnOk result (Served before.state.kept before.state now.state before.replied now.replied)
  pub did : IfOk result (λ did. did ≡ did_of before.state.kept)
  pub still : OnErr result (now ≡ before)
  pub received : now.received ≡ before.received
  pub got : now.got ≡ before.got
  pub told : now.told ≡ before.told

-- a batch of gossip is taken out of its box and kept, by the answer
abbrev pub TakesGossip : {E : Type 0} → Result Bool E → Lists → Lists → Answers → Answers → Type 0 → Type 0
TakesGossip (Ok true) before now count count_now nothing = KeepsBatch before now × Rose count.somes count_now.somes
TakesGossip (Ok false) before now count count_now nothing = (now ≡ before) × Rose count.nones count_now.nones × nothing
TakesGossip (Err error) before now count count_now nothing = now ≡ before

-- and so a request, where no reply is held
abbrev pub TakesRequest : {E : Type 0} → Result Bool E → Lists → Lists → Answers → Answers → Type 0 → Type 0
TakesRequest (Ok true) before now count count_now nothing = KeepsRequest before now
TakesRequest (Ok false) before now count count_now nothing = (now ≡ before) × (IsTrue (is_some before.state.held) ⊎ (Rose count.nones count_now.nones × nothing))
TakesRequest (Err error) before now count count_now nothing = now ≡ before

-- how many requests there were since the last round, after one that was made or met want of memory
abbrev pub since_after : {E : Type 0} → ℕ → Result ℕ E → ℕ
since_after since (Ok sent) = 0
since_after since (Err error) = since

-- a round, or none
abbrev pub RoundsIf : {E : Type 0} → Bool → Result ℕ E → Lists → Lists → Counts → Counts → (ℕ → List Bool → Type 0) → Type 0
RoundsIf true result before now count count_now room = Rounds result before now count count_now room
RoundsIf false result before now count count_now room = (result ≡ Ok 0) × (now ≡ before) × (count_now ≡ count)

-- what a turn did that found nothing to do
abbrev pub rests_as : State → Did
rests_as state = if ltb 0 (dirty state) || is_some state.held then did.Blocked else did.Idle
