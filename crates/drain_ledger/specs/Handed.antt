-- What is handed over of a run whose sessions have ended: its workers, and of each session its answers and its ends.
use Rattle.std.specs.Prelude.{◌≡◌, ℕ, ◌+◌, false, true, List, [], ◌∷◌, All, length, map, slice_get, slice_index_or, Option, Some}
use Rattle.mail_contract.specs.Standing.{About}
use Rattle.mail_contract.specs.Takes.{IsFront, from_sender}
use Rattle.placement.specs.Config.{IsOneOf}
use Rattle.session_known.specs.Script.{IsValidScript}
use Rattle.session_known.specs.declared.report.Answer.{Answer}
use Rattle.session_known.specs.declared.script.Script.{Script}
use Rattle.session_proxy.specs.State as sessions
use Rattle.store_msg.specs.Reply.{PlainReply}
use Rattle.store_msg.specs.declared.ends.SessionEndsOver.{SessionEndsOver}
use Rattle.store_msg.specs.declared.request.Request.{Request}
use Rattle.worker_core.specs.State.{Entries, PlainWorker}
use Rattle.run_ledger.specs.Parties.{HaveEnded, known_then}
use Rattle.party_turns.specs.Mates.{IsMate}
use Rattle.party_turns.specs.Making.{IsOfScript, AreOfOneMaking, IsBoxOf, IsWeakBoxOf}
use Rattle.party_turns.specs.Ends.{Ends}

-- what is made of the items that stand at the same places of two lists
abbrev pub paired : {X Y Z : Type 0} → (X → Y → Z) → List X → List Y → List Z
paired make [] ys = []
paired make (x ∷ xs) [] = []
paired make (x ∷ xs) (y ∷ ys) = make x y ∷ paired make xs ys

-- how far a session came, and what went through its ends, where it left its answers and these ends; and so of all sessions
abbrev pub left_of : {A S R : Type 0} → (S → List Request) → (R → List (ℕ × PlainReply)) → sessions.Course → A × SessionEndsOver S R → sessions.Lists
left_of sent received course its = record { course = course; sent = map sent its.1.requests.items; received = received its.1.replies }

abbrev pub lists_left : {A S R : Type 0} → (S → List Request) → (R → List (ℕ × PlainReply)) → List sessions.Course → List (A × SessionEndsOver S R) → List sessions.Lists
lists_left sent received = paired (left_of sent received)

-- What a session received of a worker is a front of what that one sent it.
abbrev pub AreFrontsOfSent : {A S R Q T O G : Type 0} → (T → List PlainReply) → (R → List (ℕ × PlainReply)) → List (PlainWorker Q T O G) → List (A × SessionEndsOver S R) → Type 0
AreFrontsOfSent {A} {S} {R} {Q} {T} {O} {G} sent received workers left =
    (place session : ℕ) (worker : PlainWorker Q T O G) (its : A × SessionEndsOver S R) → slice_get workers place ≡ Some worker → slice_get left session ≡ Some its
    → IsFront (from_sender (place + 1) (received its.1.replies)) (slice_index_or (map sent worker.ends.replies.items) session [])

-- The workers and the ended sessions of one run of a script, with the ends that were made for them.
pub record AreOfOneRun {S T O Q G R SK TK OK QK GK RK : Type 0}
    (request_key : S → SK) (request_number : S → ℕ) (asked : S → List Request)
    (reply_key : T → TK) (reply_number : T → ℕ)
    (gossip_key : O → OK) (gossip_number : O → ℕ)
    (requests_key : Q → QK) (requests_pairs : QK → SK → ℕ → Type 0) (requests_senders : QK → ℕ) (requests_received : Q → List (ℕ × Request)) (requests_about : Q → ℕ → About Request)
    (in_key : G → GK) (in_pairs : GK → OK → ℕ → Type 0) (in_senders : GK → ℕ) (got : G → ℕ → ℕ → Option Entries) (in_about : G → ℕ → About Entries)
    (replies_key : R → RK) (replies_pairs : RK → TK → ℕ → Type 0) (replies_received : R → List (ℕ × PlainReply)) (replies_about : R → ℕ → About PlainReply)
    (script : Script) (workers : List (PlainWorker Q T O G)) (left : List (List Answer × SessionEndsOver S R)) : Type 0 where
  -- where the keys live
  pub table : List (List ℕ)
  pub valid : IsValidScript script table
  pub as_many : length workers ≡ script.config.workers
  pub workers_are : (place : ℕ) (worker : PlainWorker Q T O G) → slice_get workers place ≡ Some worker → IsOfScript script table place worker
  -- the sessions kept their shares to the end
  pub courses : List sessions.Course
  pub courses_are : map (λ course. course.answers) courses ≡ map (λ its. its.0) left
  pub ended : HaveEnded table script.config.workers (known_then (lists_left asked replies_received courses left)) 1 script.sessions (lists_left asked replies_received courses left)
  -- the ends
  pub requests : AreOfOneMaking request_key request_number requests_pairs (λ (worker : PlainWorker Q T O G). requests_key worker.ends.requests) (λ worker. requests_about worker.ends.requests)
      false (map (λ its. its.1.requests.items) left) workers
  pub replies : AreOfOneMaking reply_key reply_number replies_pairs replies_key replies_about false (map (λ worker. worker.ends.replies.items) workers) (map (λ its. its.1.replies) left)
  pub gossip : AreOfOneMaking gossip_key gossip_number in_pairs (λ (worker : PlainWorker Q T O G). in_key worker.ends.gossip_in) (λ worker. in_about worker.ends.gossip_in)
      true (map (λ worker. worker.ends.gossip_out.items) workers) workers
  pub request_boxes : (place : ℕ) (worker : PlainWorker Q T O G) → slice_get workers place ≡ Some worker
      → IsBoxOf (IsOneOf (length script.sessions)) (requests_senders (requests_key worker.ends.requests)) (requests_received worker.ends.requests) (requests_about worker.ends.requests)
  pub gossip_boxes : (place : ℕ) (worker : PlainWorker Q T O G) → slice_get workers place ≡ Some worker
      → IsWeakBoxOf (IsMate script.config.workers (place + 1)) (in_senders (in_key worker.ends.gossip_in)) (got worker.ends.gossip_in) (in_about worker.ends.gossip_in)
  pub reply_boxes : (session : ℕ) (its : List Answer × SessionEndsOver S R) → slice_get left session ≡ Some its
      → All (λ message. IsOneOf script.config.workers message.0) (replies_received its.1.replies)

-- so by what their ends tell, in one value
abbrev pub AreHandedOver : {S T O Q G R SK TK OK QK GK RK : Type 0} → Ends S T O Q G R SK TK OK QK GK RK → Script → List (PlainWorker Q T O G)
    → List (List Answer × SessionEndsOver S R) → Type 0
AreHandedOver mail =
    AreOfOneRun mail.request_tx.key mail.request_tx.number mail.request_tx.sent mail.reply_tx.key mail.reply_tx.number mail.gossip_tx.key mail.gossip_tx.number
    mail.request_rx.key mail.request_rx.pairs mail.request_rx.senders mail.request_rx.received mail.request_rx.about
    mail.gossip_rx.key mail.gossip_rx.pairs mail.gossip_rx.senders mail.gossip_rx.got mail.gossip_rx.about
    mail.reply_rx.key mail.reply_rx.pairs mail.reply_rx.received mail.reply_rx.about
