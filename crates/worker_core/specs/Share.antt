-- A worker's share of the store: what it holds, replies and tells, by what its own boxes received. No other party is spoken of.
use Rattle.std.specs.Prelude.{◌≡◌, ◌≢◌, ◌==◌, ◌&&◌, ◌⊎◌, ℕ, ◌<◌, ◌≤◌, Bool, true, false, IsTrue, leb, if◌then◌else◌, List, [], ◌∷◌, ◌++◌, All, AllPairs, Contains, filter, is_some, length, map, slice_index_or, Option, Some, None, ⊤}
use Rattle.std.specs.List.{AllZip, flat_map}
use Rattle.lattice_laws.specs.Joins.{joined_all}
use Rattle.clock_lattice.specs.Clock.{covers}
use Rattle.composed_value.specs.Cell.{PlainCell, cell_of, empty_cell, joined_cells}
use Rattle.composed_value.specs.Keyed.{kind_at, puts_on}
use Rattle.composed_value.specs.Kind.{kind_of, kind_of_value}
use Rattle.composed_value.specs.declared.kind.Kind.{Kind}
use Rattle.composed_value.specs.declared.kind.Kind.TheVariants.{Max}
use Rattle.composed_value.specs.declared.put.Put.{Put}
use Rattle.merge_world.specs.Effects.{cells_at, is_kind}
use Rattle.merge_world.specs.declared.private_map.KeyCells.{KeyCells}
use Rattle.store_msg.specs.Reply.{PlainReply, reply_of, shown_clock}
use Rattle.store_msg.specs.declared.request.Request.{Request}
use Rattle.store_msg.specs.declared.request.Request.TheVariants as requests
use Rattle.gossip_rounds.specs.Batches.{Entries}
use Rattle.gossip_rounds.specs.Batches.{told_on}
use Rattle.worker_core.specs.State.{Lists, State, changed_of, kept_batch, kept_request, lives_at, mate_at}

-- the put of a request, with its key; one without a number is none
abbrev pub put_in : Request → List (ℕ × Put)
put_in (requests.Put key put) = if leb 1 put.number then (key, put) ∷ [] else []
put_in (requests.Get ask key required) = []

-- the puts among requests
abbrev pub puts_in : List (ℕ × Request) → List (ℕ × Put)
puts_in messages = flat_map (λ message. put_in message.1) messages

-- those of a kind
abbrev pub of_kind : Kind → List Put → List Put
of_kind kind puts = filter (λ put. is_kind (kind_of put.payload) kind) puts

-- the join of the puts on a key, of its kind, among requests
abbrev pub own_cell : Kind → ℕ → List (ℕ × Request) → PlainCell
own_cell kind key messages = cell_of kind (of_kind kind (puts_on key (puts_in messages)))

-- the entries of batches
abbrev pub entries_in : List (ℕ × Entries) → Entries
entries_in batches = flat_map (λ batch. batch.1) batches

-- the cells of a key, of its kind, among entries
abbrev pub cells_on : Kind → ℕ → Entries → List PlainCell
cells_on kind key entries = map (λ entry. entry.1) (filter (λ entry. entry.0 == key && is_kind (kind_of_value entry.1.value) kind) entries)

-- a cell and others of its kind, joined
abbrev pub joined_with : PlainCell → List PlainCell → PlainCell
joined_with = joined_all joined_cells

-- the batches are those that were handed out, and no others
pub record AreThoseOf (got : ℕ → ℕ → Option Entries) (batches : List (ℕ × Entries)) : Type 0 where
  pub all : (sender place : ℕ) (batch : Entries) → got sender place ≡ Some batch → Contains batches (sender, batch)
  pub no_others : (sender : ℕ) (batch : Entries) → Contains batches (sender, batch) → (place : ℕ) × (got sender place ≡ Some batch)

-- the own cells are the join of the puts that were worked on
abbrev pub AreOwn : List Kind → List (Option KeyCells) → List (ℕ × Request) → Type 0
AreOwn kinds cells worked = (key : ℕ) (at : KeyCells) → cells_at cells key ≡ Some at → at.own ≡ own_cell (kind_at kinds key) key worked

-- the whole cells are the join of the own ones and of the entries that were joined
abbrev pub AreWhole : List Kind → List (Option KeyCells) → List (ℕ × Entries) → Type 0
AreWhole kinds cells joined =
    (key : ℕ) (at : KeyCells) → cells_at cells key ≡ Some at → at.whole ≡ joined_with at.own (cells_on (kind_at kinds key) key (entries_in joined))

-- The cells of each key are the join of what was received: the own cell of the puts that were worked on, and the whole cell of the own cell
-- and of the entries that were joined. A message that is kept was received, and is not worked on yet.
pub record HoldsReceived (kinds : List Kind) (cells : List (Option KeyCells)) (received : List (ℕ × Request)) (kept_request : List (ℕ × Request)) (got : ℕ → ℕ → Option Entries) (kept_batch : List (ℕ × Entries)) : Type 0 where
  pub worked : List (ℕ × Request)
  pub received_is : received ≡ worked ++ kept_request
  pub own : AreOwn kinds cells worked
  pub joined : List (ℕ × Entries)
  pub got_are : AreThoseOf got (joined ++ kept_batch)
  pub whole : AreWhole kinds cells joined

-- a get, and the requests that were worked on before it
pub record Asked : Type 0 where
  pub ask : ℕ
  pub key : ℕ
  pub required : List (ℕ × ℕ)
  pub before : List (ℕ × Request)

abbrev pub asked_by : List (ℕ × Request) → Request → List Asked
asked_by before (requests.Put key put) = []
asked_by before (requests.Get ask key required) = record { ask = ask; key = key; required = required; before = before } ∷ []

-- the gets of a session among requests, where some were worked on before
abbrev pub gets_after : ℕ → List (ℕ × Request) → List (ℕ × Request) → List Asked
gets_after session before [] = []
gets_after session before (message ∷ rest) = (if message.0 == session then asked_by before message.1 else []) ++ gets_after session (before ++ message ∷ []) rest

-- a cell joined from the puts on the key among these requests and from some of these entries
pub record IsMadeFrom (kind : Kind) (key : ℕ) (before : List (ℕ × Request)) (entries : Entries) (cell : PlainCell) : Type 0 where
  pub heard : List PlainCell
  pub are_heard : All (Contains (cells_on kind key entries)) heard
  pub is : cell ≡ joined_with (own_cell kind key before) heard

-- the cell that a get is answered from, by whether the key is held
abbrev pub IsAnswerCell : Bool → Kind → ℕ → List (ℕ × Request) → Entries → PlainCell → Type 0
IsAnswerCell true kind key before entries cell = IsMadeFrom kind key before entries cell
IsAnswerCell false kind key before entries cell = cell ≡ empty_cell Max

-- the present whole cell of a key, and the empty cell of kind max where it is not held
abbrev pub shown_of : Option KeyCells → PlainCell
shown_of None = empty_cell Max
shown_of (Some cells) = cells.whole

-- A reply of a worker answers a get: it has the get's ask, key and required clock and the worker's number, and is made from the puts before
-- it and from entries that were joined.
pub record IsReplyBy (me : ℕ) (placement : List (List ℕ)) (kinds : List Kind) (joined : List (ℕ × Entries)) (get : Asked) (reply : PlainReply) : Type 0 where
  pub cell : PlainCell
  pub is : reply ≡ reply_of get.ask me get.key get.required cell
  pub made : IsAnswerCell (lives_at placement me get.key) (kind_at kinds get.key) get.key get.before (entries_in joined) cell

-- and so of a worker in a state
abbrev pub IsReplyTo : State → List (ℕ × Entries) → Asked → PlainReply → Type 0
IsReplyTo state = IsReplyBy state.me state.placement state.kinds

-- on one key the clock of a later reply covers that of an earlier one
abbrev pub CoversEarlier : PlainReply → PlainReply → Type 0
CoversEarlier earlier later = later.key ≡ earlier.key → IsTrue (covers (shown_clock later.answered) (shown_clock earlier.answered))

-- the reply that is held for a session
abbrev pub held_for : ℕ → Option (ℕ × PlainReply) → List PlainReply
held_for session None = []
held_for session (Some held) = if held.0 == session then held.1 ∷ [] else []

-- the replies to a session, from 1: those that were sent, then the one that is held
abbrev pub owed_to : List (List PlainReply) → Option (ℕ × PlainReply) → ℕ → List PlainReply
owed_to replied held session = slice_index_or ([] ∷ replied) session [] ++ held_for session held

abbrev pub replies_to : Lists → ℕ → List PlainReply
replies_to lists session = owed_to lists.replied lists.state.held session

-- there is a sender of replies to this session
abbrev pub IsSession : Lists → ℕ → Type 0
IsSession lists session = (1 ≤ session) × (session ≤ length lists.replied)

-- a reply is held for one of so many sessions
abbrev pub IsHeldFor : ℕ → Option (ℕ × PlainReply) → Type 0
IsHeldFor sessions None = ⊤
IsHeldFor sessions (Some held) = (1 ≤ held.0) × (held.0 ≤ sessions)

-- The replies to each session answer its gets one by one, and on one key their clocks never go down.
pub record AreAnswered (lists : Lists) (worked : List (ℕ × Request)) (joined : List (ℕ × Entries)) : Type 0 where
  pub held : IsHeldFor (length lists.replied) lists.state.held
  pub each : (session : ℕ) → IsSession lists session → AllZip (IsReplyTo lists.state joined) (gets_after session [] worked) (replies_to lists session)
  pub rising : (session : ℕ) → IsSession lists session → AllPairs CoversEarlier (replies_to lists session)

-- the batches that were sent to a mate, by its place from 0, and the cells of a key in them, in order
abbrev pub told_to : Lists → ℕ → List Entries
told_to lists place = slice_index_or lists.told place []

-- the mate at this place holds the key
abbrev pub mate_lives_at : State → ℕ → ℕ → Bool
mate_lives_at state place key = lives_at state.placement (mate_at state.me place) key

-- a cell that was told is an own cell of some time, and not empty
pub record WasOwn (kind : Kind) (key : ℕ) (worked : List (ℕ × Request)) (cell : PlainCell) : Type 0 where
  pub front : List (ℕ × Request)
  pub back : List (ℕ × Request)
  pub split : worked ≡ front ++ back
  pub is : cell ≡ own_cell kind key front
  pub some : cell.clock ≢ []

-- one cell is at most another
abbrev pub IsAtMost : PlainCell → PlainCell → Type 0
IsAtMost cell other = joined_cells cell other ≡ other

-- What was told to a mate: no empty batch, and of keys that it holds alone; of each key own cells, which never go down.
pub record IsTold (state : State) (worked : List (ℕ × Request)) (place : ℕ) (batches : List Entries) : Type 0 where
  pub some : All (λ batch. 1 ≤ length batch) batches
  pub lives : (key : ℕ) → told_on key batches ≢ [] → IsTrue (mate_lives_at state place key)
  pub were_own : (key : ℕ) → All (WasOwn (kind_at state.kinds key) key worked) (told_on key batches)
  pub rising : (key : ℕ) → AllPairs IsAtMost (told_on key batches)

abbrev pub AreTold : Lists → List (ℕ × Request) → Type 0
AreTold lists worked = (place : ℕ) → place < length lists.told → IsTold lists.state worked place (told_to lists place)

-- a cell is the last of some cells
pub record IsLast (cell : PlainCell) (cells : List PlainCell) : Type 0 where
  pub front : List PlainCell
  pub is : cells ≡ front ++ cell ∷ []

-- A key that a mate holds and that is not in the changeset for it has an empty own cell, or that own cell was the last one told to the mate.
abbrev pub AreClean : Lists → Type 0
AreClean lists =
    (place key : ℕ) (at : KeyCells) → place < length lists.told → IsTrue (mate_lives_at lists.state place key) → cells_at lists.state.cells key ≡ Some at
    → (Contains (changed_of lists.state place) key → ⊥) → (at.own.clock ≡ []) ⊎ IsLast at.own (told_on key (told_to lists place))

-- A worker's share.
pub record Share (lists : Lists) : Type 0 where
  -- it has cells of the keys that it holds, and of no others
  pub holds : (key : ℕ) → is_some (cells_at lists.state.cells key) ≡ lives_at lists.state.placement lists.state.me key
  -- the own and the whole cells
  pub cells : HoldsReceived lists.state.kinds lists.state.cells lists.received (kept_request lists.state.kept) lists.got (kept_batch lists.state.kept)
  pub replies : AreAnswered lists cells.worked cells.joined
  pub told : AreTold lists cells.worked
  pub clean : AreClean lists
