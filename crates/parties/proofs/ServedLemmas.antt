-- What a worker that is held beside all sessions knows of them, and that it has served them all once it rests.
use Rattle.std.specs.Prelude.{◌≡◌, ◌≢◌, ℕ, ◌+◌, ◌-◌, ◌<◌, ◌≤◌, Bool, true, false, IsTrue, is_some, List, [], length, map, slice_get, Option, Some, None}
use Rattle.std.proofs.Common.{◌∙◌, refl, sym, ap, subst, inl, inr, arith}
use Rattle.std.proofs.lemmas.Bool.{false≢true}
use Rattle.std.proofs.lemmas.List.{length-map}
use Rattle.std.proofs.lemmas.Option.{get_or_from_slice_get}
use Rattle.mail_contract.proofs.FrontLemmas.{front_full, front_short}
use Rattle.mail_contract.specs.Boxes.{FindsNothing, box_of}
use Rattle.mail_contract.specs.Standing.{About, AreMet, OfSent, Settled, Shown, Standing}
use Rattle.mail_contract.specs.Takes.{IsFront, IsFrontOfSent, from_sender}
use Rattle.placement.specs.Config.{IsOneOf}
use Rattle.session_proxy.specs.Share as proxies
use Rattle.session_proxy.specs.State as sessions
use Rattle.store_msg.specs.Reply.{PlainReply}
use Rattle.worker_core.specs.Share.{IsHeldFor, Share}
use Rattle.worker_core.specs.State.{Entries, PlainWorker}
use Rattle.run_waiting.proofs.HeldLemmas.{held_find_places}
use Rattle.run_waiting.specs.Waiting.{AreSigned}
use Rattle.party_turns.proofs.ItemsLemmas.{mapped, there_is}
use Rattle.party_turns.specs.Mates.{IsMate}
use Rattle.party_turns.specs.Turning.{AreKnown, HasSentSince, IsKnown}
use Rattle.party_turns.specs.Making.{IsBoxOf, IsWeakBoxOf}
use Rattle.parties.specs.Beside.{IsBeside, sent_at}
use Rattle.parties.specs.Turning.{HasRested}
use Rattle.parties.specs.Sweeping.{FreeBoth, HasServedAll}
use Rattle.party_turns.specs.Ends.{Ends, session_lists, worker_lists}

module _ {M : Type 0} where
  -- it is known what a complete box shows of a sender, and what was taken is a front of that
  shown_known : (complete : Bool) (standing : Standing M) (sent front : List M) → IsTrue complete → standing ≡ Shown sent → IsFront front sent
      → IsKnown complete standing × OfSent complete standing (IsFront front)
  shown_known true standing sent front is shown told = subst (λ its. IsKnown true its × OfSent true its (IsFront front)) (sym shown) (refl, told)
  shown_known false standing sent front is shown told = absurd (false≢true is)

  -- and so of one that is settled
  settled_known : (complete : Bool) (standing : Standing M) (sent front : List M) → standing ≡ Settled sent → IsFront front sent
      → IsKnown complete standing × OfSent complete standing (IsFront front)
  settled_known complete standing sent front settled told = subst (λ its. IsKnown complete its × OfSent complete its (IsFront front)) (sym settled) (tt, told)

  -- what a complete box tells of a sender that it shows is told of what that one had sent
  pub of_shown : (complete : Bool) (standing : Standing M) (sent : List M) (holds : List M → Type 0) → IsTrue complete → standing ≡ Shown sent → OfSent complete standing holds → holds sent
  of_shown true standing sent holds is shown told = subst (λ its. OfSent true its holds) shown told
  of_shown false standing sent holds is shown told = absurd (false≢true is)

module _ {S T O Q G R SK TK OK QK GK RK : Type 0} {mail : Ends S T O Q G R SK TK OK QK GK RK}
    (free : FreeBoth mail.request_rx.keeps mail.reply_rx.keeps) (place : ℕ) (those : List (sessions.PlainProxy S R)) (was : PlainWorker Q T O G)
    (beside : (at : ℕ) (proxy : sessions.PlainProxy S R) → slice_get those at ≡ Some proxy
    → IsBeside mail place at was proxy) where
  -- what was received of a session is a front of what it sent, and that is known
  known_of : (at : ℕ) (proxy : sessions.PlainProxy S R) → slice_get those at ≡ Some proxy
      → IsKnown mail.request_rx.keeps.complete (mail.request_rx.about was.ends.requests (at + 1)).standing
      × IsFrontOfSent mail.request_rx.keeps.complete (mail.request_rx.received was.ends.requests) (mail.request_rx.about was.ends.requests) (at + 1)
  known_of at proxy there =
      let its = beside at proxy there in
      shown_known mail.request_rx.keeps.complete (mail.request_rx.about was.ends.requests (at + 1)).standing (sent_at mail.request_tx.sent proxy.ends.requests.items place)
      (from_sender (at + 1) (mail.request_rx.received was.ends.requests)) free.0.complete (its.requests free.0.shows) (its.requests_told free.0.complete)

  -- so of all its senders, where each is a session or unused
  pub known_beside : (senders : ℕ) → IsBoxOf (IsOneOf (length those)) senders (mail.request_rx.received was.ends.requests) (mail.request_rx.about was.ends.requests)
      → AreKnown mail.request_rx.keeps.complete senders (mail.request_rx.received was.ends.requests) (mail.request_rx.about was.ends.requests)
  known_beside senders box sender one_of = elim (box.others sender one_of) [
    | inl of_run ↦
        let same : sender - 1 + 1 ≡ sender = omega (arith, of_run.0) in
        let proxy = there_is those (sender - 1) (omega (arith, of_run.0, of_run.1)) in
        subst (λ n. IsKnown mail.request_rx.keeps.complete (mail.request_rx.about was.ends.requests n).standing
        × IsFrontOfSent mail.request_rx.keeps.complete (mail.request_rx.received was.ends.requests) (mail.request_rx.about was.ends.requests) n) same (known_of (sender - 1) proxy.0 proxy.1)
    | inr unused ↦
        settled_known mail.request_rx.keeps.complete (mail.request_rx.about was.ends.requests sender).standing [] (from_sender sender (mail.request_rx.received was.ends.requests)) unused.0.nothing
        (subst (λ front. IsFront front []) (sym unused.1) refl)
  ]

  module _ (is : PlainWorker Q T O G) (rested : HasRested mail was is)
      (share : Share (worker_lists mail is)) (long : length was.ends.replies.items ≡ length those) (long_now : length is.ends.replies.items ≡ length those)
      (of_run : (at : ℕ) (proxy : sessions.PlainProxy S R) → slice_get those at ≡ Some proxy
      → proxies.Share (session_lists mail proxy) × AreSigned (session_lists mail proxy)
      × IsOneOf (length (map mail.request_tx.sent proxy.ends.requests.items)) (place + 1)) where
    -- how the box stands to a session once the worker rests
    stands_so : (at : ℕ) (proxy : sessions.PlainProxy S R) → slice_get those at ≡ Some proxy
        → (mail.request_rx.about is.ends.requests (at + 1)).standing ≡ Shown (sent_at mail.request_tx.sent proxy.ends.requests.items place)
    stands_so at proxy there = (rested.stands (at + 1)).0 ∙ (beside at proxy there).requests free.0.shows

    -- a reply that is held would be one more than the session asked for: its sender found a place, or has sent one more than was asked for
    not_held_at : (at : ℕ) (reply : PlainReply) → at < length those → is.state.held ≡ Some (at + 1, reply) → ⊥
    not_held_at at reply low held =
        let proxy = there_is those at low in
        let its = beside at proxy.0 proxy.1 in
        let of = of_run at proxy.0 proxy.1 in
        let heard : List PlainReply = from_sender (place + 1) (mail.reply_rx.received proxy.0.ends.replies) in
        let at_first : List PlainReply = sent_at mail.reply_tx.sent was.ends.replies.items at in
        let sender = there_is was.ends.replies.items at (omega (arith, low, long)) in
        let sender_now = there_is is.ends.replies.items at (omega (arith, low, long_now)) in
        let front = of_shown mail.request_rx.keeps.complete (mail.request_rx.about is.ends.requests (at + 1)).standing (sent_at mail.request_tx.sent proxy.0.ends.requests.items place)
        (IsFront (from_sender (at + 1) (mail.request_rx.received is.ends.requests))) free.0.complete (stands_so at proxy.0 proxy.1) (rested.fronts (at + 1) (known_of at proxy.0 proxy.1).1)
        in
        let few = held_find_places (at + 1) (place + 1) (session_lists mail proxy.0) (worker_lists mail is) reply of.0 of.1 of.2 share
        (subst (λ n. IsFront (from_sender (at + 1) (mail.request_rx.received is.ends.requests)) (sent_at mail.request_tx.sent proxy.0.ends.requests.items n)) (omega arith) front) held
        in
        let few_so : length (sent_at mail.reply_tx.sent is.ends.replies.items at) ≤ length heard =
        subst (λ n. length (sent_at mail.reply_tx.sent is.ends.replies.items n) ≤ length heard) (omega arith) few
        in
        let whole : heard ≡ at_first = front_full heard at_first (its.replies_told free.1.complete) (omega (arith, front_short at_first (sent_at mail.reply_tx.sent is.ends.replies.items at) (rested.replied_more at), few_so)) in
        let as_long = ap length whole in
        let clear = its.replies_freed free.1.freed (omega (arith, as_long)) sender.0 sender.1 in
        let wants = subst (HasSentSince mail.reply_tx.clear mail.reply_tx.sent was.ends.replies.items is.ends.replies.items) held rested.wants_place in
        let place_is : at ≡ at + 1 - 1 = omega arith in
        let sent = wants sender.0 sender_now.0 (subst (λ n. slice_get was.ends.replies.items n ≡ Some sender.0) place_is sender.1)
        (subst (λ n. slice_get is.ends.replies.items n ≡ Some sender_now.0) place_is sender_now.1) clear
        in
        let was_sent = ap length (get_or_from_slice_get (map mail.reply_tx.sent was.ends.replies.items) at (mail.reply_tx.sent sender.0) [] (mapped mail.reply_tx.sent was.ends.replies.items at sender.0 sender.1)) in
        let is_sent = ap length (get_or_from_slice_get (map mail.reply_tx.sent is.ends.replies.items) at (mail.reply_tx.sent sender_now.0) [] (mapped mail.reply_tx.sent is.ends.replies.items at sender_now.0 sender_now.1)) in
        let same = ap length whole in
        omega (arith, sent, was_sent, is_sent, same, few_so)

    none_held_by : (held : Option (ℕ × PlainReply)) → is.state.held ≡ held → is.state.held ≡ None
    none_held_by None held = held
    none_held_by (Some (session, reply)) held =
        let within : IsOneOf (length (map mail.reply_tx.sent is.ends.replies.items)) session = subst (IsHeldFor (length (map mail.reply_tx.sent is.ends.replies.items))) held share.replies.held in
        let many = length-map is.ends.replies.items mail.reply_tx.sent in
        let same : session ≡ session - 1 + 1 = omega (arith, within.0) in
        absurd (not_held_at (session - 1) reply (omega (arith, within.0, within.1, many, long_now)) (held ∙ ap (λ n. Some (n, reply)) same))

    -- so none is held,
    pub none_held : is.state.held ≡ None
    none_held = none_held_by is.state.held refl

    -- and the worker has served each session
    pub served_all : (at : ℕ) (proxy : sessions.PlainProxy S R) → slice_get those at ≡ Some proxy
        → HasServedAll (at + 1) (session_lists mail proxy) (place + 1) (worker_lists mail is)
    served_all at proxy there =
        let nothing : FindsNothing mail.request_rx.keeps (box_of mail.request_rx.received mail.request_rx.answers mail.request_rx.about is.ends.requests) = elim rested.no_request [
          | inl held ↦ absurd (false≢true (sym (ap is_some none_held) ∙ held))
          | inr nothing ↦ nothing
        ]
        in
        let taken = of_shown mail.request_rx.keeps.complete (mail.request_rx.about is.ends.requests (at + 1)).standing (sent_at mail.request_tx.sent proxy.ends.requests.items place)
        (λ sent. from_sender (at + 1) (mail.request_rx.received is.ends.requests) ≡ sent) free.0.complete (stands_so at proxy there) (nothing.none (at + 1))
        in
        let place_is : place ≡ place + 1 - 1 = omega arith in
        record { requests = taken ∙ ap (λ n. sent_at mail.request_tx.sent proxy.ends.requests.items n) place_is; none_held = none_held }

-- of each mate it is known how many batches are left, where it is known of the others
pub met_beside : (place many senders : ℕ) (got : ℕ → ℕ → Option Entries) (about : ℕ → About Entries) → IsWeakBoxOf (IsMate many (place + 1)) senders got about
    → ((other : ℕ) → other ≢ place → other < many → IsTrue (about (other + 1)).met) → AreMet senders about
met_beside place many senders got about box each sender low high = elim (box.others sender (low, high)) [
  | inl mate ↦
      let same : sender - 1 + 1 ≡ sender = omega (arith, mate.0.0) in
      subst (λ n. IsTrue (about n).met) same (each (sender - 1) (λ here. mate.1 (omega (arith, here, mate.0.0))) (omega (arith, mate.0.0, mate.0.1)))
  | inr unused ↦ unused.0.met
]
