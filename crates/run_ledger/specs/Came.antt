-- How a report came to be, from what the parties of its run each have in hand: which requests came to each worker, which gossip, and which
-- replies came back. It says of no two parties that one did something before the other.
use Rattle.std.specs.Prelude.{◌≡◌, ◌≢◌, ◌⊎◌, ℕ, ◌+◌, IsTrue, List, [], ◌∷◌, All, AllPairs, Contains, flat_map, is_some, length, map, Some, option_map, ⊤}
use Rattle.std.specs.List.{AllZip, range_with_len}
use Rattle.mail_contract.specs.Takes.{from_sender}
use Rattle.merge_world.specs.Effects.{cells_at}
use Rattle.merge_world.specs.declared.private_map.KeyCells.{KeyCells}
use Rattle.placement.specs.Config.{IsOneOf}
use Rattle.composed_value.specs.Keyed.{kind_at}
use Rattle.session_known.specs.Accepted.{client_of, ends_of, origin_of}
use Rattle.session_known.specs.Form.{final_places}
use Rattle.session_known.specs.Requests.{requests_of}
use Rattle.session_known.specs.Session.{Client, Knowledge, start}
use Rattle.session_known.specs.declared.report.Answer.{Answer}
use Rattle.session_known.specs.declared.report.FinalCell.{FinalCell}
use Rattle.session_known.specs.declared.report.Report.{Report}
use Rattle.session_known.specs.declared.script.Line.{Line}
use Rattle.session_known.specs.declared.script.Script.{Script}
use Rattle.session_known.specs.declared.script.SessionPlan.{SessionPlan}
use Rattle.session_proxy.specs.Run.{AreAnswered}
use Rattle.session_proxy.specs.Share.{to_worker}
use Rattle.store_msg.specs.Reply.{PlainReply}
use Rattle.worker_core.specs.Kept.{IsRequest}
use Rattle.worker_core.specs.Share.{CoversEarlier, HoldsReceived, IsReplyBy, WasOwn, gets_after}
use Rattle.worker_core.specs.State.{Entries, lives_at}
use Rattle.run_ledger.specs.Ledger.{Ledger, WorkerEnd, heard_by, worker_at}

-- the final cell of a key at a worker, by its whole cell
abbrev pub final_of : ℕ → ℕ → KeyCells → FinalCell
final_of key worker cells = record { key = key; worker = worker; clock = cells.whole.clock; top = cells.whole.top; value = cells.whole.value }

-- The final cell is the whole cell of its worker.
abbrev pub IsWhole : Ledger → FinalCell → Type 0
IsWhole ledger cell = option_map (final_of cell.key cell.worker) (cells_at (worker_at ledger cell.worker).cells cell.key) ≡ Some cell

-- Of a session that knows `origin` at its start: all its lines are answered, by the replies to their asks, which are, in order, all that its box handed out, of workers alone; and
-- what came to each worker of it is, in order, what its lines send there.
pub record CameOfSession (table : List (List ℕ)) (ledger : Ledger) (client : Client) (origin : Knowledge) (lines : List Line) (answers : List Answer) (heard : List (ℕ × PlainReply)) : Type 0 where
  pub whole : length answers ≡ length lines
  pub replies : List (List PlainReply)
  pub answered : AreAnswered table client (start origin) 1 lines answers replies
  pub heard_are : map (λ message. message.1) heard ≡ flat_map (λ answering. answering) replies
  pub of_workers : All (λ message. IsOneOf (length ledger.workers) message.0) heard
  pub requests : All (λ worker. from_sender client.session worker.received ≡ to_worker worker.me (requests_of table client origin (map length replies) lines answers)) ledger.workers

-- and so of the sessions from a number on, where `ends` is what each knows after its last line
abbrev pub CameOfSessions : List (List ℕ) → Ledger → List Knowledge → ℕ → List SessionPlan → List (List Answer) → List (List (ℕ × PlainReply)) → Type 0
CameOfSessions table ledger ends number [] [] [] = ⊤
CameOfSessions table ledger ends number (plan ∷ plans) (answers ∷ others) (heard ∷ more) =
    CameOfSession table ledger (client_of number plan) (origin_of ends plan.after) plan.lines answers heard × CameOfSessions table ledger ends (number + 1) plans others more
CameOfSessions table ledger ends number plans answers heard = ⊥

-- A batch of gossip came from another worker: each of its entries is the join of the puts on its key in some front of what that one received,
-- and is not empty.
pub record CameFrom (script : Script) (ledger : Ledger) (me sender : ℕ) (batch : Entries) : Type 0 where
  pub worker : IsOneOf (length ledger.workers) sender
  pub another : sender ≢ me
  pub entries : All (λ entry. WasOwn (kind_at script.kinds entry.0) entry.0 (worker_at ledger sender).received entry.1) batch

-- Of a worker: it holds the keys that live there, and its cells are the join of what it received, which is of sessions alone; to each session
-- it gave, in order, one reply for each of its gets, and on one key their clocks never go down; and the gossip that it heard came from workers.
pub record CameToWorker (script : Script) (table : List (List ℕ)) (ledger : Ledger) (worker : WorkerEnd) : Type 0 where
  pub keys : (key : ℕ) → is_some (cells_at worker.cells key) ≡ lives_at table worker.me key
  pub holds : HoldsReceived script.kinds worker.cells worker.received [] worker.got []
  pub of_sessions : All (λ message. IsOneOf (length script.sessions) message.0) worker.received
  pub requests : All (λ message. IsRequest message.1) worker.received
  pub replies : (session : ℕ) → IsOneOf (length script.sessions) session
      → AllZip (IsReplyBy worker.me table script.kinds holds.joined) (gets_after session [] worker.received) (from_sender worker.me (heard_by ledger session))
  pub rising : (session : ℕ) → IsOneOf (length script.sessions) session → AllPairs CoversEarlier (from_sender worker.me (heard_by ledger session))
  pub gossip : (sender place : ℕ) (batch : Entries) → worker.got sender place ≡ Some batch → CameFrom script ledger worker.me sender batch

-- How a report of a script, whose keys live as the table says, came to be.
pub record Came (script : Script) (table : List (List ℕ)) (report : Report) (ledger : Ledger) : Type 0 where
  pub numbered : map (λ worker. worker.me) ledger.workers ≡ range_with_len 1 script.config.workers
  pub sessions : CameOfSessions table ledger (ends_of script report) 1 script.sessions report.answers ledger.heard
  pub workers : All (CameToWorker script table ledger) ledger.workers
  pub places : map (λ cell. (cell.key, cell.worker)) report.finals ≡ final_places script table
  pub finals : All (IsWhole ledger) report.finals

-- Gossip has settled: of each key that lives at two workers, each heard the present own cell of the other, where that is not empty.
abbrev pub IsSettled : List (List ℕ) → Ledger → Type 0
IsSettled table ledger =
    (key worker other : ℕ) (at : KeyCells) → IsTrue (lives_at table worker key) → IsTrue (lives_at table other key) → worker ≢ other
    → cells_at (worker_at ledger other).cells key ≡ Some at
    → (at.own.clock ≡ []) ⊎ ((place : ℕ) × (batch : Entries) × ((worker_at ledger worker).got other place ≡ Some batch) × Contains batch (key, at.own))
