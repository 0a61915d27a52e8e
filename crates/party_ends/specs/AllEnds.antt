-- All ends of a run's parties, of one making.
use Rattle.std.specs.Prelude.{◌≡◌, ℕ, ◌+◌, false, true, List, [], All, length, map, slice_get, Some, None}
use Rattle.placement.specs.Config.{IsOneOf}
use Rattle.store_msg.specs.declared.ends.SessionEndsOver.{SessionEndsOver}
use Rattle.store_msg.specs.declared.ends.WorkerEndsOver.{WorkerEndsOver}
use Rattle.party_turns.specs.Making.{AreOfOneMaking, IsBoxOf, IsWeakBoxOf}
use Rattle.party_turns.specs.Mates.{IsMate}
use Rattle.party_turns.specs.Ends.{Ends}

-- The ends of so many workers and so many sessions are of one making, and nothing has gone through any of them. Each session has a sender to each worker,
-- each worker one to each session and one of gossip to each other worker.
pub record AreAllEnds {S T O Q G R SK TK OK QK GK RK : Type 0}
    (mail : Ends S T O Q G R SK TK OK QK GK RK)
    (many_workers many_sessions : ℕ) (workers : List (WorkerEndsOver Q T O G)) (sessions : List (SessionEndsOver S R)) : Type 0 where
  pub workers_are : length workers ≡ many_workers
  pub sessions_are : length sessions ≡ many_sessions
  -- nothing was sent
  pub none_asked : All (λ its. All (λ sender. mail.request_tx.sent sender ≡ []) its.requests.items) sessions
  pub none_replied : All (λ its. All (λ sender. mail.reply_tx.sent sender ≡ []) its.replies.items) workers
  pub none_told : All (λ its. All (λ sender. mail.gossip_tx.sent sender ≡ []) its.gossip_out.items) workers
  -- and nothing taken
  pub none_received : All (λ its. mail.request_rx.received its.requests ≡ []) workers
  pub none_heard : All (λ its. mail.reply_rx.received its.replies ≡ []) sessions
  pub none_got : All (λ its. (sender place : ℕ) → mail.gossip_rx.got its.gossip_in sender place ≡ None) workers
  -- the ends
  pub requests : AreOfOneMaking mail.request_tx.key mail.request_tx.number mail.request_rx.pairs (λ (its : WorkerEndsOver Q T O G). mail.request_rx.key its.requests) (λ its. mail.request_rx.about its.requests)
      false (map (λ its. its.requests.items) sessions) workers
  pub replies : AreOfOneMaking mail.reply_tx.key mail.reply_tx.number mail.reply_rx.pairs mail.reply_rx.key mail.reply_rx.about false (map (λ its. its.replies.items) workers) (map (λ its. its.replies) sessions)
  pub gossip : AreOfOneMaking mail.gossip_tx.key mail.gossip_tx.number mail.gossip_rx.pairs (λ (its : WorkerEndsOver Q T O G). mail.gossip_rx.key its.gossip_in) (λ its. mail.gossip_rx.about its.gossip_in)
      true (map (λ its. its.gossip_out.items) workers) workers
  pub request_boxes : All (λ its. IsBoxOf (IsOneOf many_sessions) (mail.request_rx.senders (mail.request_rx.key its.requests)) (mail.request_rx.received its.requests) (mail.request_rx.about its.requests)) workers
  pub gossip_boxes : (place : ℕ) (its : WorkerEndsOver Q T O G) → slice_get workers place ≡ Some its
      → IsWeakBoxOf (IsMate many_workers (place + 1)) (mail.gossip_rx.senders (mail.gossip_rx.key its.gossip_in)) (mail.gossip_rx.got its.gossip_in) (mail.gossip_rx.about its.gossip_in)
  pub reply_boxes : All (λ its. mail.reply_rx.senders (mail.reply_rx.key its.replies) ≡ many_workers) sessions
