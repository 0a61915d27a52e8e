-- The parties of a run while it goes on: its workers, and its sessions of whichever level.
use Rattle.std.specs.Prelude.{◌≡◌, ℕ, ◌+◌, ◌-◌, false, true, IsTrue, List, All, length, map, slice_get, Option, Some, None}
use Rattle.placement.specs.Config.{IsOneOf}
use Rattle.session_known.specs.Accepted.{client_of}
use Rattle.session_known.specs.Script.{IsValidScript}
use Rattle.session_known.specs.Session.{Knowledge, handed, nothing_known}
use Rattle.session_known.specs.declared.script.Script.{Script}
use Rattle.session_known.specs.declared.script.SessionPlan.{SessionPlan}
use Rattle.session_proxy.specs.Share.{Share}
use Rattle.session_proxy.specs.State.{Course, Knew, Origin, PlainProxy, WaitsFor, has_begun, lists_of, state_now}
use Rattle.store_msg.specs.Reply.{PlainReply}
use Rattle.store_msg.specs.declared.request.Request.{Request}
use Rattle.worker_core.specs.State.{PlainWorker}
use Rattle.party_turns.specs.Making.{AreOfOneMaking, IsBoxOf, IsOfScript, IsWeakBoxOf}
use Rattle.party_turns.specs.Mates.{IsMate}
use Rattle.party_turns.specs.Ends.{Ends}

-- A session of a script, by its place from 0, that keeps its share: it has a sender of requests for each worker, and replies of workers alone.
pub record IsSessionOf {S R : Type 0} (asked : S → List Request) (received : R → List (ℕ × PlainReply)) (table : List (List ℕ)) (workers place : ℕ)
    (plan : SessionPlan) (proxy : PlainProxy S R) : Type 0 where
  pub client_is : proxy.course.client ≡ client_of (place + 1) plan
  pub table_is : proxy.course.table ≡ table
  pub lines_are : proxy.course.lines ≡ plan.lines
  pub senders : length proxy.ends.requests.items ≡ workers
  pub share : Share (lists_of asked received proxy)
  pub of_workers : All (λ message. IsOneOf workers message.0) (received proxy.ends.replies)

-- how far each session is
abbrev pub courses_of : {S R : Type 0} → List (PlainProxy S R) → List Course
courses_of = map (λ proxy. proxy.course)

-- The session of a number, from 1, has ended: it has begun, and all its lines are answered. It hands this over.
pub record HandsOver (courses : List Course) (session : ℕ) (known : Knowledge) : Type 0 where
  pub course : Course
  pub there : slice_get courses (session - 1) ≡ Some course
  pub begun : IsTrue (has_begun course)
  pub answered : length course.answers ≡ length course.lines
  pub known_is : known ≡ handed (state_now course).knows

-- A session has begun, or waits, as its plan says: one that comes after no other knew nothing at its start; one that comes after another waits for that one,
-- or knew then what that one handed over.
abbrev pub BeginsAs : List Course → Option ℕ → Origin → Type 0
BeginsAs courses None origin = origin ≡ Knew nothing_known
BeginsAs courses (Some after) (Knew known) = HandsOver courses after known
BeginsAs courses (Some after) (WaitsFor session) = session ≡ after

-- The ends of all parties are of one making, and each box has messages of the parties alone; each worker has the number after its place.
pub record HaveEnds {S T O Q G R SK TK OK QK GK RK : Type 0}
    (mail : Ends S T O Q G R SK TK OK QK GK RK)
    (workers : List (PlainWorker Q T O G)) (sessions : List (PlainProxy S R)) : Type 0 where
  pub requests : AreOfOneMaking mail.request_tx.key mail.request_tx.number mail.request_rx.pairs (λ (worker : PlainWorker Q T O G). mail.request_rx.key worker.ends.requests) (λ worker. mail.request_rx.about worker.ends.requests)
      false (map (λ its. its.ends.requests.items) sessions) workers
  pub replies : AreOfOneMaking mail.reply_tx.key mail.reply_tx.number mail.reply_rx.pairs mail.reply_rx.key mail.reply_rx.about false (map (λ worker. worker.ends.replies.items) workers) (map (λ its. its.ends.replies) sessions)
  pub gossip : AreOfOneMaking mail.gossip_tx.key mail.gossip_tx.number mail.gossip_rx.pairs (λ (worker : PlainWorker Q T O G). mail.gossip_rx.key worker.ends.gossip_in) (λ worker. mail.gossip_rx.about worker.ends.gossip_in)
      true (map (λ worker. worker.ends.gossip_out.items) workers) workers
  pub request_boxes : (place : ℕ) (worker : PlainWorker Q T O G) → slice_get workers place ≡ Some worker
      → IsBoxOf (IsOneOf (length sessions)) (mail.request_rx.senders (mail.request_rx.key worker.ends.requests)) (mail.request_rx.received worker.ends.requests) (mail.request_rx.about worker.ends.requests)
  pub gossip_boxes : (place : ℕ) (worker : PlainWorker Q T O G) → slice_get workers place ≡ Some worker
      → IsWeakBoxOf (IsMate (length workers) (place + 1)) (mail.gossip_rx.senders (mail.gossip_rx.key worker.ends.gossip_in)) (mail.gossip_rx.got worker.ends.gossip_in) (mail.gossip_rx.about worker.ends.gossip_in)
  pub reply_boxes : (place : ℕ) (proxy : PlainProxy S R) → slice_get sessions place ≡ Some proxy → mail.reply_rx.senders (mail.reply_rx.key proxy.ends.replies) ≡ length workers
  pub numbered : (place : ℕ) (worker : PlainWorker Q T O G) → slice_get workers place ≡ Some worker → worker.state.me ≡ place + 1

-- The workers and the sessions of one run of a script.
pub record AreRunning {S T O Q G R SK TK OK QK GK RK : Type 0}
    (mail : Ends S T O Q G R SK TK OK QK GK RK)
    (script : Script) (workers : List (PlainWorker Q T O G)) (sessions : List (PlainProxy S R)) : Type 0 where
  -- where the keys live
  pub table : List (List ℕ)
  pub valid : IsValidScript script table
  pub as_many : length workers ≡ script.config.workers
  pub workers_are : (place : ℕ) (worker : PlainWorker Q T O G) → slice_get workers place ≡ Some worker → IsOfScript script table place worker
  pub as_many_sessions : length sessions ≡ length script.sessions
  pub sessions_are : (place : ℕ) (plan : SessionPlan) (proxy : PlainProxy S R) → slice_get script.sessions place ≡ Some plan → slice_get sessions place ≡ Some proxy
      → IsSessionOf mail.request_tx.sent mail.reply_rx.received table script.config.workers place plan proxy
  pub begins : (place : ℕ) (plan : SessionPlan) (proxy : PlainProxy S R) → slice_get script.sessions place ≡ Some plan → slice_get sessions place ≡ Some proxy
      → BeginsAs (courses_of sessions) plan.after proxy.course.origin
  pub ends : HaveEnds mail workers sessions

-- A run goes on: there are as many workers and sessions as before, each worker has its box of gossip, and what held of their ends and of them all still does.
pub record GoesOn {S T O Q G R SK TK OK QK GK RK : Type 0}
    (mail : Ends S T O Q G R SK TK OK QK GK RK)
    (workers workers_now : List (PlainWorker Q T O G)) (sessions sessions_now : List (PlainProxy S R)) : Type 0 where
  pub workers_long : length workers_now ≡ length workers
  pub sessions_long : length sessions_now ≡ length sessions
  -- each worker has the box of gossip that it had
  pub gossip_keys : map (λ (worker : PlainWorker Q T O G). mail.gossip_rx.key worker.ends.gossip_in) workers_now ≡ map (λ (worker : PlainWorker Q T O G). mail.gossip_rx.key worker.ends.gossip_in) workers
  pub ends : HaveEnds mail workers sessions
      → HaveEnds mail workers_now sessions_now
  pub running : (script : Script) → AreRunning mail script workers sessions
      → AreRunning mail script workers_now sessions_now
