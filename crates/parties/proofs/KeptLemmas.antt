-- The ends of a run's parties stay of one making where each worker and each session keeps its own.
use Rattle.std.specs.Prelude.{◌≡◌, ℕ, ◌+◌, List, length, map, slice_get, Some}
use Rattle.std.proofs.Common.{◌∙◌, ap, refl, subst, sym}
use Rattle.std.proofs.lemmas.List.{length-map}
use Rattle.mail_contract.specs.Standing.{About, IsSettled}
use Rattle.placement.specs.Config.{IsOneOf}
use Rattle.session_proxy.specs.State.{PlainProxy}
use Rattle.session_proxy.specs.State as sessions
use Rattle.worker_core.specs.State.{PlainWorker}
use Rattle.worker_core.specs.State as workers
use Rattle.party_turns.proofs.ItemsLemmas.{there_too}
use Rattle.party_turns.specs.Mates.{IsMate}
use Rattle.party_turns.specs.Making.{IsBoxOf, IsWeakBoxOf}
use Rattle.party_turns.proofs.MakingLemmas.{making_stays}
use Rattle.party_turns.specs.Running.{HaveEnds}
use Rattle.parties.proofs.ChangedLemmas.{done_to_made}
use Rattle.party_turns.specs.Ends.{Ends}

-- no sender more was taken in
abbrev pub NoneTakenIn : {M : Type 0} → (ℕ → About M) → (ℕ → About M) → Type 0
NoneTakenIn before now = (sender : ℕ) → (IsSettled (before sender).standing → ⊥) → IsSettled (now sender).standing → ⊥

-- A worker, by its place among so many, keeps its ends for so many sessions: their keys and numbers stay, no sender more was taken in, and its boxes
-- have messages of the parties alone still.
pub record KeepsWorkerEnds {S T O Q G R SK TK OK QK GK RK : Type 0} (mail : Ends S T O Q G R SK TK OK QK GK RK)
    (many many_sessions place : ℕ) (was is : PlainWorker Q T O G) : Type 0 where
  pub me : is.state.me ≡ was.state.me
  pub keys : workers.KeysStay mail.request_rx.key mail.reply_tx.key mail.reply_tx.number mail.gossip_tx.key mail.gossip_tx.number mail.gossip_rx.key was is
  pub no_session : NoneTakenIn (mail.request_rx.about was.ends.requests) (mail.request_rx.about is.ends.requests)
  pub no_mate : NoneTakenIn (mail.gossip_rx.about was.ends.gossip_in) (mail.gossip_rx.about is.ends.gossip_in)
  pub request_box : IsBoxOf (IsOneOf many_sessions) (mail.request_rx.senders (mail.request_rx.key was.ends.requests)) (mail.request_rx.received was.ends.requests) (mail.request_rx.about was.ends.requests)
      → IsBoxOf (IsOneOf many_sessions) (mail.request_rx.senders (mail.request_rx.key is.ends.requests)) (mail.request_rx.received is.ends.requests) (mail.request_rx.about is.ends.requests)
  pub gossip_box : IsWeakBoxOf (IsMate many (place + 1)) (mail.gossip_rx.senders (mail.gossip_rx.key was.ends.gossip_in)) (mail.gossip_rx.got was.ends.gossip_in) (mail.gossip_rx.about was.ends.gossip_in)
      → IsWeakBoxOf (IsMate many (place + 1)) (mail.gossip_rx.senders (mail.gossip_rx.key is.ends.gossip_in)) (mail.gossip_rx.got is.ends.gossip_in) (mail.gossip_rx.about is.ends.gossip_in)

-- A session keeps its ends: their keys and numbers stay, and no sender more was taken in.
pub record KeepsSessionEnds {S T O Q G R SK TK OK QK GK RK : Type 0} (mail : Ends S T O Q G R SK TK OK QK GK RK)
    (was is : PlainProxy S R) : Type 0 where
  pub keys : sessions.KeysStay mail.request_tx.key mail.request_tx.number mail.reply_rx.key was is
  pub no_worker : NoneTakenIn (mail.reply_rx.about was.ends.replies) (mail.reply_rx.about is.ends.replies)

-- a worker that is as it was keeps its ends
pub worker_keeps : {S T O Q G R SK TK OK QK GK RK : Type 0} {mail : Ends S T O Q G R SK TK OK QK GK RK}
    (many many_sessions place : ℕ) (worker : PlainWorker Q T O G)
    → KeepsWorkerEnds mail
    many many_sessions place worker worker
worker_keeps many many_sessions place worker = record {
  me = refl;
  keys = record { requests_key = refl; replies_keys = refl; replies_numbers = refl; gossip_out_keys = refl; gossip_out_numbers = refl; gossip_in_key = refl };
  no_session = λ sender not. not;
  no_mate = λ sender not. not;
  request_box = λ box. box;
  gossip_box = λ box. box;
}

-- and so does a session
pub session_keeps : {S T O Q G R SK TK OK QK GK RK : Type 0} {mail : Ends S T O Q G R SK TK OK QK GK RK}
    (proxy : PlainProxy S R) → KeepsSessionEnds mail proxy proxy
session_keeps proxy = record { keys = record { requests_keys = refl; requests_numbers = refl; replies_key = refl }; no_worker = λ sender not. not }

-- as many things are made of lists that are as long
as_many : {X Y : Type 0} (f : X → Y) (before now : List X) → length now ≡ length before → length (map f now) ≡ length (map f before)
as_many f before now long = length-map now f ∙ long ∙ sym (length-map before f)

module _ {S T O Q G R SK TK OK QK GK RK : Type 0} {mail : Ends S T O Q G R SK TK OK QK GK RK}
    (workers workers_now : List (PlainWorker Q T O G)) (sessions sessions_now : List (PlainProxy S R))
    (long : length workers_now ≡ length workers) (long_sessions : length sessions_now ≡ length sessions)
    (each : (place : ℕ) (was is : PlainWorker Q T O G) → slice_get workers place ≡ Some was → slice_get workers_now place ≡ Some is
    → KeepsWorkerEnds mail
    (length workers) (length sessions) place was is)
    (each_session : (place : ℕ) (was is : PlainProxy S R) → slice_get sessions place ≡ Some was → slice_get sessions_now place ≡ Some is
    → KeepsSessionEnds mail was is) where
  -- the ends of all stay of one making
  pub ends_kept : HaveEnds mail workers sessions
      → HaveEnds mail workers_now sessions_now
  ends_kept have = record {
    requests =
        making_stays (map asks_of sessions) (map asks_of sessions_now) workers workers_now have.requests (as_many asks_of sessions sessions_now long_sessions) long
        (done_to_made (λ was is. map mail.request_tx.key is ≡ map mail.request_tx.key was) asks_of sessions sessions_now
        (λ place was is there also. (each_session place was is there also).keys.requests_keys))
        (done_to_made (λ was is. map mail.request_tx.number is ≡ map mail.request_tx.number was) asks_of sessions sessions_now
        (λ place was is there also. (each_session place was is there also).keys.requests_numbers))
        (λ place was is there also. (each place was is there also).keys.requests_key)
        (λ row place was is there also kept. (each place was is there also).no_session (row + 1));
    replies =
        making_stays (map replies_of workers) (map replies_of workers_now) (map box_of sessions) (map box_of sessions_now) have.replies
        (as_many replies_of workers workers_now long) (as_many box_of sessions sessions_now long_sessions)
        (done_to_made (λ was is. map mail.reply_tx.key is ≡ map mail.reply_tx.key was) replies_of workers workers_now (λ place was is there also. (each place was is there also).keys.replies_keys))
        (done_to_made (λ was is. map mail.reply_tx.number is ≡ map mail.reply_tx.number was) replies_of workers workers_now
        (λ place was is there also. (each place was is there also).keys.replies_numbers))
        (done_to_made (λ was is. mail.reply_rx.key is ≡ mail.reply_rx.key was) box_of sessions sessions_now (λ place was is there also. (each_session place was is there also).keys.replies_key))
        (λ row place was is there also kept.
        done_to_made (λ was is. NoneTakenIn (mail.reply_rx.about was) (mail.reply_rx.about is)) box_of sessions sessions_now
        (λ place was is there also. (each_session place was is there also).no_worker) place was is there also (row + 1));
    gossip =
        making_stays (map mates_of workers) (map mates_of workers_now) workers workers_now have.gossip (as_many mates_of workers workers_now long) long
        (done_to_made (λ was is. map mail.gossip_tx.key is ≡ map mail.gossip_tx.key was) mates_of workers workers_now (λ place was is there also. (each place was is there also).keys.gossip_out_keys))
        (done_to_made (λ was is. map mail.gossip_tx.number is ≡ map mail.gossip_tx.number was) mates_of workers workers_now
        (λ place was is there also. (each place was is there also).keys.gossip_out_numbers))
        (λ place was is there also. (each place was is there also).keys.gossip_in_key)
        (λ row place was is there also kept. (each place was is there also).no_mate (row + 1));
    request_boxes = λ place is there.
        let was = there_too workers workers_now place is long there in
        subst (λ n. IsBoxOf (IsOneOf n) (mail.request_rx.senders (mail.request_rx.key is.ends.requests)) (mail.request_rx.received is.ends.requests) (mail.request_rx.about is.ends.requests)) (sym long_sessions)
        ((each place was.0 is was.1 there).request_box (have.request_boxes place was.0 was.1));
    gossip_boxes = λ place is there.
        let was = there_too workers workers_now place is long there in
        subst (λ n. IsWeakBoxOf (IsMate n (place + 1)) (mail.gossip_rx.senders (mail.gossip_rx.key is.ends.gossip_in)) (mail.gossip_rx.got is.ends.gossip_in) (mail.gossip_rx.about is.ends.gossip_in)) (sym long)
        ((each place was.0 is was.1 there).gossip_box (have.gossip_boxes place was.0 was.1));
    reply_boxes = λ place is there.
        let was = there_too sessions sessions_now place is long_sessions there in
        ap mail.reply_rx.senders (each_session place was.0 is was.1 there).keys.replies_key ∙ have.reply_boxes place was.0 was.1 ∙ sym long;
    numbered = λ place is there.
        let was = there_too workers workers_now place is long there in
        (each place was.0 is was.1 there).me ∙ have.numbered place was.0 was.1;
  }
    where
      asks_of : PlainProxy S R → List S
      asks_of its = its.ends.requests.items

      box_of : PlainProxy S R → R
      box_of its = its.ends.replies

      replies_of : PlainWorker Q T O G → List T
      replies_of worker = worker.ends.replies.items

      mates_of : PlainWorker Q T O G → List O
      mates_of worker = worker.ends.gossip_out.items
