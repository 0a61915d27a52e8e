-- A sealed worker: it receives gossip alone, and tells nothing.
use Rattle.std.specs.Prelude.{◌≡◌, ◌⊎◌, ℕ, Bool, true, false, List, [], ◌∷◌, All, Option, Some, None, Result, Ok, Err}
use Rattle.lattice_laws.specs.Counts.{Rose}
use Rattle.composed_value.specs.declared.kind.Kind.{Kind}
use Rattle.mail_contract.specs.Got.{Added}
use Rattle.mail_contract.specs.Takes.{Answers}
use Rattle.merge_world.specs.Effects.{hears}
use Rattle.merge_world.specs.declared.private_map.KeyCells.{KeyCells}
use Rattle.store_msg.specs.declared.request.Request.{Request}
use Rattle.gossip_rounds.specs.Batches.{Entries}
use Rattle.worker_core.specs.Kept.{AreEntries, IsRequest}
use Rattle.worker_core.specs.Share.{HoldsReceived, entries_in}
use Rattle.worker_core.specs.State.{PlainWorker}
use Rattle.worker_core.specs.declared.popped.Popped.{Popped}
use Rattle.worker_core.specs.declared.popped.Popped.TheVariants as popped

-- its number, the kind of each key, its private map, a batch that met want of memory, and its boxes
pub record PlainSealed (Q G : Type 0) : Type 0 where
  pub me : ℕ
  pub kinds : List Kind
  pub cells : List (Option KeyCells)
  pub kept : Option (ℕ × Entries)
  pub requests : Q
  pub gossip_in : G

-- the kept batch as a list
abbrev pub batch_kept : Option (ℕ × Entries) → List (ℕ × Entries)
batch_kept None = []
batch_kept (Some batch) = batch ∷ []

-- its cells are the join of what was received, by the lists of its boxes
abbrev pub HoldsSealed : {Q G : Type 0} → (Q → List (ℕ × Request)) → (G → ℕ → ℕ → Option Entries) → PlainSealed Q G → Type 0
HoldsSealed received got worker = HoldsReceived worker.kinds worker.cells (received worker.requests) [] (got worker.gossip_in) (batch_kept worker.kept)

-- what it keeps from call to call
pub record KeepsSealed (kinds : List Kind) (cells : List (Option KeyCells)) (received : List (ℕ × Request)) (got : ℕ → ℕ → Option Entries) (kept : Option (ℕ × Entries)) : Type 0 where
  pub holds : HoldsReceived kinds cells received [] got (batch_kept kept)
  pub requests : All (λ message. IsRequest message.1) received
  pub joined : AreEntries (entries_in holds.joined)
  pub kept_are : AreEntries (entries_in (batch_kept kept))

-- a batch that was kept, or that the box handed out now
abbrev pub IsBatch : ℕ → Entries → Option (ℕ × Entries) → (ℕ → ℕ → Option Entries) → (ℕ → ℕ → Option Entries) → Answers → Answers → Type 0
IsBatch sender batch kept got got_now count count_now =
    ((kept ≡ Some (sender, batch)) × (got_now ≡ got)) ⊎ ((kept ≡ None) × Added sender batch got got_now × Rose count.somes count_now.somes)

-- What it hears, by the answer: one batch, or none; where memory was wanting the cells are as before, and a batch is kept or none was handed out.
abbrev pub HearsOne : {E : Type 0} → Result Bool E → List (Option KeyCells) → List (Option KeyCells) → Option (ℕ × Entries) → Option (ℕ × Entries)
    → (ℕ → ℕ → Option Entries) → (ℕ → ℕ → Option Entries) → Answers → Answers → Type 0 → Type 0
HearsOne (Ok true) cells cells_now kept kept_now got got_now count count_now nothing =
    (sender : ℕ) × (batch : Entries) × IsBatch sender batch kept got got_now count count_now × (cells_now ≡ hears batch cells) × (kept_now ≡ None)
HearsOne (Ok false) cells cells_now kept kept_now got got_now count count_now nothing =
    (cells_now ≡ cells) × (kept ≡ None) × (kept_now ≡ None) × (got_now ≡ got) × Rose count.nones count_now.nones × nothing
HearsOne (Err error) cells cells_now kept kept_now got got_now count count_now nothing =
    (cells_now ≡ cells)
    × (((sender : ℕ) × (batch : Entries) × IsBatch sender batch kept got got_now count count_now × (kept_now ≡ Some (sender, batch)))
    ⊎ ((kept ≡ None) × (kept_now ≡ None) × (got_now ≡ got)))

-- how many batches it heard, by the answer
abbrev pub heard_in : {E : Type 0} → Result Bool E → ℕ
heard_in (Ok true) = 1
heard_in result = 0

-- A batch is taken out of its box and kept, by the answer.
abbrev pub TakesBatch : {E : Type 0} → Result Bool E → Option (ℕ × Entries) → (ℕ → ℕ → Option Entries) → (ℕ → ℕ → Option Entries) → Answers → Answers → Type 0 → Type 0
TakesBatch (Ok true) kept_now got got_now count count_now nothing =
    (sender : ℕ) × (batch : Entries) × (kept_now ≡ Some (sender, batch)) × Added sender batch got got_now × Rose count.somes count_now.somes
TakesBatch (Ok false) kept_now got got_now count count_now nothing = (kept_now ≡ None) × (got_now ≡ got) × Rose count.nones count_now.nones × nothing
TakesBatch (Err error) kept_now got got_now count count_now nothing = (kept_now ≡ None) × (got_now ≡ got)

-- The batch that is kept is joined, or memory is wanting and nothing changes.
abbrev pub JoinsKept : {U E : Type 0} → Result U E → List (Option KeyCells) → List (Option KeyCells) → Option (ℕ × Entries) → Option (ℕ × Entries) → Type 0
JoinsKept (Ok done) cells cells_now kept kept_now =
    (sender : ℕ) × (batch : Entries) × (kept ≡ Some (sender, batch)) × (cells_now ≡ hears batch cells) × (kept_now ≡ None)
JoinsKept (Err error) cells cells_now kept kept_now = (cells_now ≡ cells) × (kept_now ≡ kept)

-- the batch that a worker kept
abbrev pub batch_of : Option Popped → Option (ℕ × Entries)
batch_of None = None
batch_of (Some (popped.Request session request)) = None
batch_of (Some (popped.Batch sender batch)) = Some (sender, batch)

-- a worker, sealed
abbrev pub sealed_of : {Q T O G : Type 0} → PlainWorker Q T O G → PlainSealed Q G
sealed_of worker = record {
  me = worker.state.me;
  kinds = worker.state.kinds;
  cells = worker.state.cells;
  kept = batch_of worker.state.kept;
  requests = worker.ends.requests;
  gossip_in = worker.ends.gossip_in;
}
