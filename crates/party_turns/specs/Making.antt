-- The ends of a run are of one making, and each box is of the parties of the run.
use Rattle.std.specs.Prelude.{◌≡◌, ◌⊎◌, ◌&&◌, ◌==◌, ℕ, ◌+◌, ◌<◌, Bool, false, IsTrue, if◌then◌else◌, List, [], All, length, slice_get, Option, Some, None}
use Rattle.mail_contract.specs.Standing.{About, IsSettled, Settled}
use Rattle.mail_contract.specs.Takes.{from_sender}
use Rattle.placement.specs.Config.{IsOneOf}
use Rattle.session_known.specs.declared.script.Script.{Script}
use Rattle.worker_core.specs.State.{PlainWorker}
use Rattle.party_turns.specs.Rows.{index_in}

-- a worker of a script, by its place from 0
pub record IsOfScript {Q T O G : Type 0} (script : Script) (table : List (List ℕ)) (place : ℕ) (worker : PlainWorker Q T O G) : Type 0 where
  pub me : worker.state.me ≡ place + 1
  -- it makes a round of gossip after as many requests as the script says
  pub round : worker.state.round ≡ script.round
  pub placement : worker.state.placement ≡ table
  pub kinds : worker.state.kinds ≡ script.kinds
  pub sessions : length worker.ends.replies.items ≡ length script.sessions
  pub mates : length worker.ends.gossip_out.items + 1 ≡ script.config.workers

-- Rows of senders and boxes are of one making: in each row is a sender for each box, in order, or, where rows skip, for each but the one of the
-- row's own number; it has the row's number, from 1, and no box has taken in any of them.
pub record AreOfOneMaking {S P M K SK : Type 0} (sender_key : S → SK) (number : S → ℕ) (pairs : K → SK → ℕ → Type 0) (key : P → K) (about : P → ℕ → About M)
    (skips : Bool) (rows : List (List S)) (boxes : List P) : Type 0 where
  pub many : All (λ senders. length senders + (if skips then 1 else 0) ≡ length boxes) rows
  pub numbers : (row : ℕ) (senders : List S) → slice_get rows row ≡ Some senders → All (λ sender. number sender ≡ row + 1) senders
  pub paired : (row place : ℕ) (senders : List S) (sender : S) (box : P) → slice_get rows row ≡ Some senders → slice_get boxes place ≡ Some box → (skips && row == place) ≡ false
      → slice_get senders (index_in skips row place) ≡ Some sender → pairs (key box) (sender_key sender) (number sender)
  pub not_taken_in : (row place : ℕ) (box : P) → row < length rows → slice_get boxes place ≡ Some box → (skips && row == place) ≡ false → IsSettled (about box (row + 1)).standing → ⊥

-- A sender of a box that is none of those of the run was taken in, and had sent nothing.
pub record IsUnused {M : Type 0} (about : About M) : Type 0 where
  pub nothing : about.standing ≡ Settled []
  pub met : IsTrue about.met

-- What a box handed out is of its senders, and each of these is one of those of the run, or unused.
pub record IsBoxOf {M : Type 0} (OfRun : ℕ → Type 0) (senders : ℕ) (received : List (ℕ × M)) (about : ℕ → About M) : Type 0 where
  pub in_range : All (λ message. IsOneOf senders message.0) received
  pub there : (sender : ℕ) → OfRun sender → IsOneOf senders sender
  pub others : (sender : ℕ) → IsOneOf senders sender → OfRun sender ⊎ (IsUnused (about sender) × (from_sender sender received ≡ []))

-- and so a weak box
pub record IsWeakBoxOf {M : Type 0} (OfRun : ℕ → Type 0) (senders : ℕ) (got : ℕ → ℕ → Option M) (about : ℕ → About M) : Type 0 where
  pub in_range : (sender place : ℕ) (message : M) → got sender place ≡ Some message → IsOneOf senders sender
  pub others : (sender : ℕ) → IsOneOf senders sender → OfRun sender ⊎ (IsUnused (about sender) × ((place : ℕ) → got sender place ≡ None))
