-- What a worker keeps from call to call: its share, how far gossip lags, and beside them what the two rest on.
use Rattle.std.specs.Prelude.{◌≡◌, ◌≢◌, ℕ, ◌+◌, ◌<◌, ◌≤◌, ◌^◌, IsTrue, [], All, Contains, length, Option, Some, None, ⊤}
use Rattle.clock_lattice.specs.Clock.{covers}
use Rattle.composed_value.specs.Cell.{IsCell}
use Rattle.composed_value.specs.Put.{IsPut}
use Rattle.merge_world.specs.Effects.{cells_at}
use Rattle.merge_world.specs.World.{is_ascending}
use Rattle.merge_world.specs.declared.private_map.KeyCells.{KeyCells}
use Rattle.store_msg.specs.Reply.{PlainReply, shown_clock}
use Rattle.store_msg.specs.declared.request.Request.{Request}
use Rattle.store_msg.specs.declared.request.Request.TheVariants as requests
use Rattle.gossip_rounds.specs.Batches.{Entries}
use Rattle.worker_core.specs.Lag.{LagsBy}
use Rattle.worker_core.specs.Share.{IsSession, Share, entries_in, mate_lives_at, replies_to, shown_of}
use Rattle.worker_core.specs.State.{Lists, State, changed_of, kept_batch}
use Rattle.worker_core.specs.Turns.{counted}
use Rattle.worker_core.specs.declared.popped.Popped.{Popped}
use Rattle.worker_core.specs.declared.popped.Popped.TheVariants as popped

-- a request that there can be
abbrev pub IsRequest : Request → Type 0
IsRequest (requests.Put key put) = 1 ≤ put.number → IsPut put
IsRequest (requests.Get ask key required) = ⊤

-- entries that there can be
abbrev pub AreEntries : Entries → Type 0
AreEntries entries = All (λ entry. IsCell entry.1) entries

-- while a request is kept no reply is held
abbrev pub IsFree : Option Popped → Option (ℕ × PlainReply) → Type 0
IsFree (Some (popped.Request session request)) held = held ≡ None
IsFree (Some (popped.Batch sender batch)) held = ⊤
IsFree None held = ⊤

-- The changeset has, for a mate, keys that both hold and on which puts were taken, in ascending order.
pub record AreChanged (state : State) (place : ℕ) : Type 0 where
  pub ascending : IsTrue (is_ascending (changed_of state place))
  pub lives : (key : ℕ) → Contains (changed_of state place) key → IsTrue (mate_lives_at state place key)
  pub some : (key : ℕ) → Contains (changed_of state place) key → (at : KeyCells) × (cells_at state.cells key ≡ Some at) × (at.own.clock ≢ [])

-- what a reply shows of a key, what is shown of it now covers
abbrev pub IsBelow : State → PlainReply → Type 0
IsBelow state reply = IsTrue (covers (shown_of (cells_at state.cells reply.key)).clock (shown_clock reply.answered))

pub record IsKept (lists : Lists) : Type 0 where
  pub share : Share lists
  pub lags : LagsBy lists.state.since lists
  pub since : lists.state.since ≤ lists.state.round
  pub round : 1 ≤ lists.state.round
  pub free : IsFree lists.state.kept lists.state.held
  pub kinds : length lists.state.kinds ≡ length lists.state.placement
  pub changed_mates : length lists.state.changed ≡ length lists.told
  pub turned_mates : length lists.state.turned ≡ length lists.told
  pub few_mates : length lists.told + 1 < 2 ^ 16
  pub changed : (place : ℕ) → place < length lists.told → AreChanged lists.state place
  pub requests : All (λ message. IsRequest message.1) lists.received
  pub joined : AreEntries (entries_in share.cells.joined)
  pub kept : AreEntries (entries_in (kept_batch lists.state.kept))
  pub below : (session : ℕ) → IsSession lists session → All (IsBelow lists.state) (replies_to lists session)

-- what a worker keeps, with how many requests it took, counted up to the greatest number of a `u64`, and how many keys its changeset has room for
pub record IsLawful (lists : Lists) (taken most : ℕ) : Type 0 where
  pub keeps : IsKept lists
  pub taken_is : taken ≡ counted (length lists.received)
  pub most_is : most ≡ length lists.state.placement
