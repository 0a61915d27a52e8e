-- What is in hand at the end of a run: of each worker and of each session what went through its own ends.
use Rattle.std.specs.Prelude.{ℕ, List, [], ◌∷◌, slice_index_or, Option, None}
use Rattle.merge_world.specs.declared.private_map.KeyCells.{KeyCells}
use Rattle.store_msg.specs.Reply.{PlainReply}
use Rattle.store_msg.specs.declared.request.Request.{Request}
use Rattle.worker_core.specs.State.{Entries}

-- A worker at the end: its number, its private map, the requests that it received, each with its session, and the batches of gossip that its
-- box handed out, at a sender's number and a place in what that one sent.
pub record WorkerEnd : Type 0 where
  pub me : ℕ
  pub cells : List (Option KeyCells)
  pub received : List (ℕ × Request)
  pub got : ℕ → ℕ → Option Entries

-- The workers, ascending, and for each session the replies that its box handed out, each with its worker.
pub record Ledger : Type 0 where
  pub workers : List WorkerEnd
  pub heard : List (List (ℕ × PlainReply))

-- a worker of which nothing is in hand
abbrev pub no_worker : WorkerEnd
no_worker = record { me = 0; cells = []; received = []; got = λ sender place. None }

-- the worker of a number, from 1
abbrev pub worker_at : Ledger → ℕ → WorkerEnd
worker_at ledger worker = slice_index_or (no_worker ∷ ledger.workers) worker no_worker

-- the replies that came to a session, by its number from 1
abbrev pub heard_by : Ledger → ℕ → List (ℕ × PlainReply)
heard_by ledger session = slice_index_or ([] ∷ ledger.heard) session []
