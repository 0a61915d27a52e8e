-- What a run is once it is drained.
use Rattle.std.specs.Prelude.{◌≡◌, ℕ, ◌++◌, List, All, map, Option, Some}
use Rattle.composed_value.specs.Keyed.{kind_at, puts_on}
use Rattle.composed_value.specs.Sound.{IsSoundCell}
use Rattle.session_known.specs.Accepted.{accepted}
use Rattle.session_known.specs.Script.{IsValidScript}
use Rattle.session_known.specs.declared.report.Report.{Report}
use Rattle.session_known.specs.declared.script.Script.{Script}
use Rattle.store_msg.specs.Reply.{PlainReply}
use Rattle.store_msg.specs.declared.request.Request.{Request}
use Rattle.worker_core.specs.Sealed.{PlainSealed}
use Rattle.worker_core.specs.Share.{cells_on, entries_in, joined_with, own_cell}
use Rattle.worker_core.specs.State.{Entries, PlainWorker}
use Rattle.run_ledger.specs.Came.{Came, IsSettled}
use Rattle.legal_runs.specs.Laws.{IsLegalAndCausal}
use Rattle.run_ledger.specs.Ledger.{Ledger, WorkerEnd}

-- what is in hand of a sealed worker, and of all workers and the boxes of replies
abbrev pub end_in : {Q G : Type 0} → (Q → List (ℕ × Request)) → (G → ℕ → ℕ → Option Entries) → PlainSealed Q G → WorkerEnd
end_in received got worker = record { me = worker.me; cells = worker.cells; received = received worker.requests; got = got worker.gossip_in }

abbrev pub ledger_in : {Q G R : Type 0} → (Q → List (ℕ × Request)) → (G → ℕ → ℕ → Option Entries) → (R → List (ℕ × PlainReply)) → List (PlainSealed Q G) → List R → Ledger
ledger_in received got heard workers boxes = record { workers = map (end_in received got) workers; heard = map heard boxes }

-- The report came from what is in hand, whose gossip has settled; so it is legal, and its puts are causal.
pub record IsDrained (script : Script) (report : Report) (ledger : Ledger) : Type 0 where
  -- where the keys live
  pub table : List (List ℕ)
  pub valid : IsValidScript script table
  pub came : Came script table report ledger
  pub settled : IsSettled table ledger
  pub is : IsLegalAndCausal script table report

-- A sealed worker goes on from one that was handed over: it has that one's box of gossip, received what that one had, and more, and heard what that
-- one had.
pub record GoesOn {Q T O G K : Type 0} (received : Q → List (ℕ × Request)) (key : G → K) (got : G → ℕ → ℕ → Option Entries) (before : PlainWorker Q T O G)
    (now : PlainSealed Q G) : Type 0 where
  pub me : now.me ≡ before.state.me
  pub key_is : key now.gossip_in ≡ key before.ends.gossip_in
  pub more : List (ℕ × Request)
  pub received_is : received now.requests ≡ received before.ends.requests ++ more
  pub got_more : (sender place : ℕ) (batch : Entries) → got before.ends.gossip_in sender place ≡ Some batch → got now.gossip_in sender place ≡ Some batch

-- a batch was handed out, of its sender
abbrev pub WasHeard : (ℕ → ℕ → Option Entries) → ℕ × Entries → Type 0
WasHeard got batch = (place : ℕ) × (got batch.0 place ≡ Some batch.1)

-- What a worker may have had at some time is sound for the accepted puts: of each key the join of the puts in any front of what it received and of
-- the entries of any batches that it heard.
abbrev pub AreFrontsSound : Script → Report → List (ℕ × Request) → (ℕ → ℕ → Option Entries) → Type 0
AreFrontsSound script report received got =
    (key : ℕ) (front back : List (ℕ × Request)) → received ≡ front ++ back → (batches : List (ℕ × Entries)) → All (WasHeard got) batches
    → IsSoundCell (kind_at script.kinds key) (puts_on key (accepted script report))
    (joined_with (own_cell (kind_at script.kinds key) key front) (cells_on (kind_at script.kinds key) key (entries_in batches)))
