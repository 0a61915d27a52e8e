-- A worker and a session that are held beside each other: what they know of each other then, and that others know of them what they knew.
use Rattle.std.specs.Prelude.{◌≡◌, ◌≢◌, ℕ, ◌+◌, ◌-◌, ◌≤◌, IsTrue, [], length, slice_get, slice_index_or, Some}
use Rattle.std.proofs.Common.{◌∙◌, ap, arith, refl, subst, sym}
use Rattle.std.proofs.lemmas.Option.{get_or_from_slice_get, slice_get-get_or, slice_get_within}
use Rattle.mail_contract.specs.Boxes.{Shows, box_of}
use Rattle.mail_contract.specs.Standing.{Learned, Shown}
use Rattle.mail_contract.specs.Takes.{IsFront, from_sender}
use Rattle.parties.specs.Beside.{IsBeside, sent_at}
use Rattle.session_proxy.specs.State.{PlainProxy}
use Rattle.session_proxy.specs.State as sessions
use Rattle.worker_core.specs.Room.{LearnsRoomOf}
use Rattle.worker_core.specs.Share.{Share}
use Rattle.worker_core.specs.State.{PlainWorker}
use Rattle.worker_core.specs.State as workers
use Rattle.parties.proofs.BesideLemmas.{KnowStill}
use Rattle.party_turns.specs.Ends.{Ends, session_lists, worker_lists}

-- a session's sender to a worker, by the worker's number, finds a place for the next message
abbrev pub IsClearTo : {S R : Type 0} → (S → Type 0) → PlainProxy S R → ℕ → Type 0
IsClearTo {S} clear proxy worker = (sender : S) → slice_index_or proxy.ends.requests.items (worker - 1) sender ≡ sender → clear sender

-- What holding a worker and a session beside each other tells of both: by the worker's number, the place of the session's sender to it and the worker's number at the
-- session's box, and by the place of the worker's sender to the session and the session's number at the worker's box.
pub record AreHeld {S T O Q G R SK TK OK QK GK RK : Type 0} (mail : Ends S T O Q G R SK TK OK QK GK RK) (me place number at session : ℕ) (was is : PlainWorker Q T O G) (proxy_was proxy_is : PlainProxy S R) : Type 0 where
  pub shows : Shows mail.request_rx.keeps session (sent_at mail.request_tx.sent proxy_was.ends.requests.items place)
      (box_of mail.request_rx.received mail.request_rx.answers mail.request_rx.about was.ends.requests) (box_of mail.request_rx.received mail.request_rx.answers mail.request_rx.about is.ends.requests)
  pub freed : IsTrue mail.request_rx.keeps.freed → length (sent_at mail.request_tx.sent proxy_was.ends.requests.items place) ≤ length (from_sender session (mail.request_rx.received was.ends.requests))
      → IsClearTo mail.request_tx.clear proxy_is me
  pub other_workers : (other : ℕ) → 1 ≤ other → other ≢ me → IsClearTo mail.request_tx.clear proxy_was other → IsClearTo mail.request_tx.clear proxy_is other
  pub learned : Learned mail.reply_rx.keeps number (sent_at mail.reply_tx.sent was.ends.replies.items at) (mail.reply_rx.about proxy_was.ends.replies) (mail.reply_rx.about proxy_is.ends.replies)
  pub told : IsTrue mail.reply_rx.keeps.complete → IsFront (from_sender me (mail.reply_rx.received proxy_was.ends.replies)) (sent_at mail.reply_tx.sent was.ends.replies.items at)
  pub room : LearnsRoomOf mail.reply_tx.clear mail.reply_tx.unseen is.ends.replies.items at mail.reply_rx.keeps
      (from_sender me (mail.reply_rx.received proxy_was.ends.replies)) (sent_at mail.reply_tx.sent was.ends.replies.items at)
  pub other_sessions : (other : ℕ) → other ≢ at → slice_get is.ends.replies.items other ≡ slice_get was.ends.replies.items other

module _ {S T O Q G R SK TK OK QK GK RK : Type 0} {mail : Ends S T O Q G R SK TK OK QK GK RK} {place at : ℕ} {was is : PlainWorker Q T O G} {proxy_was proxy_is : PlainProxy S R}
    (held : AreHeld mail (place + 1) place (place + 1) at (at + 1) was is proxy_was proxy_is) where
  -- the place before the next number
  back : (n : ℕ) → n + 1 - 1 ≡ n
  back n = omega arith

  -- they are beside each other
  pub held_beside : worker_lists mail was ≡ worker_lists mail is → session_lists mail proxy_was ≡ session_lists mail proxy_is → Share (worker_lists mail is)
      → IsBeside mail place at is proxy_is
  held_beside same its_same share = record {
    share = share;
    requests = λ shows. held.shows.learned.shown shows ∙ ap (λ lists. Shown (slice_index_or lists.sent place [])) its_same;
    requests_told = λ complete.
        subst (λ (both : workers.Lists × sessions.Lists). IsFront (from_sender (at + 1) both.0.received) (slice_index_or both.1.sent place []))
        (λ j. (same j, its_same j)) (held.shows.told complete);
    asks_freed = λ freed enough sender there.
        held.freed freed (subst (λ (both : workers.Lists × sessions.Lists). length (slice_index_or both.1.sent place []) ≤ length (from_sender (at + 1) both.0.received))
        (λ j. (sym same j, sym its_same j)) enough) sender
        (subst (λ n. slice_index_or proxy_is.ends.requests.items n sender ≡ sender) (sym (back place))
        (get_or_from_slice_get proxy_is.ends.requests.items place sender sender there));
    replies = λ shows. held.learned.shown shows ∙ ap (λ lists. Shown (slice_index_or lists.replied at [])) same;
    replies_told = λ complete.
        subst (λ (both : workers.Lists × sessions.Lists). IsFront (from_sender (place + 1) both.1.received) (slice_index_or both.0.replied at []))
        (λ j. (same j, its_same j)) (held.told complete);
    replies_freed = λ freed enough sender there.
        (held.room sender there).freed freed (subst (λ (both : workers.Lists × sessions.Lists). length (slice_index_or both.0.replied at []) ≤ length (from_sender (place + 1) both.1.received))
        (λ j. (sym same j, sym its_same j)) enough);
  }

  -- the worker and each other session know of each other what they knew,
  pub worker_knows : (other : ℕ) (proxy : PlainProxy S R) → other ≢ at → KnowStill mail place other was is proxy proxy
  worker_knows other proxy apart = record {
    requests = ap (λ its. its.standing) (held.shows.learned.others (other + 1) (λ same. apart (omega (arith, same))));
    asks = λ clear. clear;
    replies = refl;
    reply_senders = λ clear sender there. clear sender (sym (held.other_sessions other apart) ∙ there);
  }

  -- and so do the session and each other worker
  pub session_knows : length proxy_is.ends.requests.items ≡ length proxy_was.ends.requests.items → (other : ℕ) (worker : PlainWorker Q T O G) → other ≢ place
      → KnowStill mail other at worker worker proxy_was proxy_is
  session_knows long other worker apart =
      let were = proxy_was.ends.requests.items in
      let are = proxy_is.ends.requests.items in
      record {
        requests = refl;
        asks = λ clear sender there.
            let within = slice_get_within are other sender there in
            held.other_workers (other + 1) (omega arith) (λ same. apart (omega (arith, same)))
            (λ one is_it. clear one (slice_get-get_or were other one (omega (arith, within, long)) ∙ ap Some (ap (λ n. slice_index_or were n one) (sym (back other)) ∙ is_it)))
            sender (ap (λ n. slice_index_or are n sender) (back other) ∙ get_or_from_slice_get are other sender sender there);
        replies = ap (λ its. its.standing) (held.learned.others (other + 1) (λ same. apart (omega (arith, same))));
        reply_senders = λ clear. clear;
      }
