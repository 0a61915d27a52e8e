-- What a worker and a session know of each other once they were held beside each other.
use Rattle.std.specs.Prelude.{◌≡◌, ℕ, ◌+◌, ◌≤◌, IsTrue, List, [], length, map, slice_get, slice_index_or, Some}
use Rattle.mail_contract.specs.Parts.{Parts}
use Rattle.mail_contract.specs.Standing.{About, Shown, parted}
use Rattle.mail_contract.specs.Takes.{IsFront, from_sender}
use Rattle.session_proxy.specs.State.{PlainProxy}
use Rattle.worker_core.specs.Share.{Share}
use Rattle.worker_core.specs.State.{PlainWorker}
use Rattle.party_turns.specs.Ends.{Ends, worker_lists}

-- what the sender at a place has sent
abbrev pub sent_at : {T M : Type 0} → (T → List M) → List T → ℕ → List M
sent_at sent senders place = slice_index_or (map sent senders) place []

-- A sender finds a place for the next message once all that it had sent was taken.
abbrev pub IsFreed : {T M : Type 0} → Parts → (T → Type 0) → (T → List M) → List T → ℕ → List M → Type 0
IsFreed {T} keeps clear sent senders place taken =
    IsTrue keeps.freed → length (sent_at sent senders place) ≤ length taken → (sender : T) → slice_get senders place ≡ Some sender → clear sender

-- A worker and a session, by their places from 0, that were held beside each other, and neither has sent or taken anything since: each box shows what
-- the other's sender has sent, what was taken is a front of that, and a sender all of whose messages were taken finds a place for the next; and the
-- worker has its share.
pub record IsBeside {S T O Q G R SK TK OK QK GK RK : Type 0} (mail : Ends S T O Q G R SK TK OK QK GK RK)
    (place at : ℕ) (worker : PlainWorker Q T O G) (proxy : PlainProxy S R) : Type 0 where
  pub share : Share (worker_lists mail worker)
  pub requests : IsTrue mail.request_rx.keeps.shows → (mail.request_rx.about worker.ends.requests (at + 1)).standing ≡ Shown (sent_at mail.request_tx.sent proxy.ends.requests.items place)
  pub requests_told : IsTrue mail.request_rx.keeps.complete → IsFront (from_sender (at + 1) (mail.request_rx.received worker.ends.requests)) (sent_at mail.request_tx.sent proxy.ends.requests.items place)
  pub asks_freed : IsFreed mail.request_rx.keeps mail.request_tx.clear mail.request_tx.sent proxy.ends.requests.items place (from_sender (at + 1) (mail.request_rx.received worker.ends.requests))
  pub replies : IsTrue mail.reply_rx.keeps.shows → (mail.reply_rx.about proxy.ends.replies (place + 1)).standing ≡ Shown (sent_at mail.reply_tx.sent worker.ends.replies.items at)
  pub replies_told : IsTrue mail.reply_rx.keeps.complete → IsFront (from_sender (place + 1) (mail.reply_rx.received proxy.ends.replies)) (sent_at mail.reply_tx.sent worker.ends.replies.items at)
  pub replies_freed : IsFreed mail.reply_rx.keeps mail.reply_tx.clear mail.reply_tx.sent worker.ends.replies.items at (from_sender (place + 1) (mail.reply_rx.received proxy.ends.replies))

-- nobody is beside a box
abbrev pub IsApart : {M : Type 0} → (ℕ → About M) → Type 0
IsApart about = (sender : ℕ) → parted (about sender).standing ≡ (about sender).standing

module _ {S T O Q G R SK TK OK QK GK RK : Type 0} (mail : Ends S T O Q G R SK TK OK QK GK RK) where
  -- the worker at a place knows how many batches are left of the one at another
  abbrev pub HasMet : ℕ → ℕ → List (PlainWorker Q T O G) → Type 0
  HasMet place other workers =
      (worker : PlainWorker Q T O G) → slice_get workers place ≡ Some worker → IsTrue (mail.gossip_rx.about worker.ends.gossip_in (other + 1)).met

  -- a worker and a session that stand at these places are beside each other
  abbrev pub AreBeside : ℕ → ℕ → List (PlainWorker Q T O G) → List (PlainProxy S R) → Type 0
  AreBeside place at workers sessions =
      (worker : PlainWorker Q T O G) (proxy : PlainProxy S R) → slice_get workers place ≡ Some worker → slice_get sessions at ≡ Some proxy → IsBeside mail place at worker proxy
