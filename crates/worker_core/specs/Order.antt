-- In what order a turn does what it does.
use Rattle.std.specs.Prelude.{◌≡◌, ◌⊎◌, ℕ, ◌≤◌, Bool, List, length, Some, None, Result, Ok, Err, ⊤}
use Rattle.lattice_laws.specs.Counts.{Rose}
use Rattle.store_msg.specs.Reply.{PlainReply}
use Rattle.worker_core.specs.State.{Lists, State, dirty}
use Rattle.worker_core.specs.Turns.{AreFirstBack, Counts, HandsOver, IsHeldBack, MayAsk, SomeRose}
use Rattle.worker_core.specs.declared.did.Did.{Did}
use Rattle.worker_core.specs.declared.did.Did.TheVariants as did
use Rattle.worker_core.specs.declared.popped.Popped.{Popped}

-- an earlier call kept a message
abbrev pub HasKept : Lists → Type 0
HasKept before = (message : Popped) × (before.state.kept ≡ Some message)

-- a round is due: as many requests were taken since the last one as make it so, and keys are left to tell
abbrev pub IsDue : State → Type 0
IsDue state = (state.round ≤ state.since) × (1 ≤ dirty state)

-- One was due, and was made in vain: to each mate that is left to tell the first batch came back.
pub record IsDueInVain (before : Lists) (fulls fulls_now : List ℕ) (room : ℕ → List Bool → Type 0) : Type 0 where
  pub due : IsDue before.state
  pub full : SomeRose fulls fulls_now
  pub no_room : AreFirstBack (length before.told) before.state room

-- What is done before a box is asked: no message is kept, a reply that is held was sent again in vain, and a round that is due was made in vain.
pub record AsksGossip (before : Lists) (count count_now : Counts) (room : ℕ → List Bool → Type 0) : Type 0 where
  pub none_kept : before.state.kept ≡ None
  pub held_back : IsHeldBack before.state.held count.reply_fulls count_now.reply_fulls
  pub none_due : MayAsk before.state ⊎ IsDueInVain before count.gossip_fulls count_now.gossip_fulls room

-- and before the box of requests is: no reply is held, and no gossip was found
pub record AsksRequests (before : Lists) (count count_now : Counts) (room : ℕ → List Bool → Type 0) : Type 0 where
  pub first : AsksGossip before count count_now room
  pub no_gossip : Rose count.gossip.nones count_now.gossip.nones
  pub none_held : before.state.held ≡ None

-- No gossip was found and no request, or none was looked for since a reply is held.
pub record FoundNothing (before : Lists) (count count_now : Counts) : Type 0 where
  pub no_gossip : Rose count.gossip.nones count_now.gossip.nones
  pub no_request : Rose count.requests.nones count_now.requests.nones ⊎ ((held : ℕ × PlainReply) × (before.state.held ≡ Some held))

-- A round is made that is due, or where none was due and nothing was found.
pub record MakesRound (before : Lists) (count count_now : Counts) : Type 0 where
  pub none_kept : before.state.kept ≡ None
  pub held_back : IsHeldBack before.state.held count.reply_fulls count_now.reply_fulls
  pub in_time : IsDue before.state ⊎ (MayAsk before.state × FoundNothing before count count_now)

-- A request is worked on that was kept; or else a reply that is held goes out; or else a request is taken, after all else. A reply is held after it only where it
-- came back.
pub record WorksOnRequest (before now : Lists) (count count_now : Counts) (room : ℕ → List Bool → Type 0) : Type 0 where
  pub in_time : HasKept before ⊎ (((before.state.kept ≡ None) × HandsOver before now) ⊎ AsksRequests before count count_now room)
  pub held_back : IsHeldBack now.state.held count.reply_fulls count_now.reply_fulls

-- It rests, while no message is kept and where a reply that is held was sent again in vain.
pub record Rests (before : Lists) (count count_now : Counts) : Type 0 where
  pub none_kept : before.state.kept ≡ None
  pub held_back : IsHeldBack before.state.held count.reply_fulls count_now.reply_fulls

-- By what a turn did: what it had done before.
abbrev pub InOrder : {E : Type 0} → Result Did E → Lists → Lists → Counts → Counts → (ℕ → List Bool → Type 0) → Type 0
InOrder (Ok did.Request) before now count count_now room = WorksOnRequest before now count count_now room
InOrder (Ok did.Gossip) before now count count_now room = HasKept before ⊎ AsksGossip before count count_now room
InOrder (Ok did.Round) before now count count_now room = MakesRound before count count_now
InOrder (Ok did.Blocked) before now count count_now room = Rests before count count_now
InOrder (Ok did.Idle) before now count count_now room = Rests before count count_now
InOrder (Err error) before now count count_now room = ⊤
