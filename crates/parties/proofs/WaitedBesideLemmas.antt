-- A session that is held beside workers which have served it does not wait: it moves when it is polled, or has ended.
use Rattle.std.specs.Prelude.{◌≡◌, ℕ, ◌+◌, ◌-◌, ◌<◌, List, length, map, slice_get, Some, None}
use Rattle.std.proofs.Common.{◌∙◌, sym, ap, subst, inl, inr, arith}
use Rattle.std.proofs.lemmas.List.{length-map}
use Rattle.mail_contract.specs.Boxes.{FindsNothing, box_of}
use Rattle.mail_contract.specs.Takes.{from_sender}
use Rattle.placement.specs.Config.{IsOneOf}
use Rattle.session_proxy.specs.State as sessions
use Rattle.worker_core.specs.State.{Lists, PlainWorker}
use Rattle.run_measure.proofs.PlacedLemmas.{goes_to_worker}
use Rattle.run_measure.specs.Laws.{IsOfWorkers, IsPlaced}
use Rattle.run_waiting.proofs.VainLemmas.{waits_not}
use Rattle.run_waiting.specs.Laws.{HaveTakenAll, IsWorkerOf}
use Rattle.run_waiting.specs.Waiting.{AwaitsMissing}
use Rattle.party_turns.proofs.ItemsLemmas.{of_mapped, there_is}
use Rattle.parties.specs.Beside.{IsBeside, sent_at}
use Rattle.parties.specs.Polling.{HasWaited}
use Rattle.parties.specs.Sweeping.{FreeBoth, HasServedAll}
use Rattle.parties.proofs.ServedLemmas.{of_shown}
use Rattle.party_turns.specs.Ends.{Ends, session_lists, worker_lists}

module _ {S T O Q G R SK TK OK QK GK RK : Type 0} {mail : Ends S T O Q G R SK TK OK QK GK RK}
    (free : FreeBoth mail.request_rx.keeps mail.reply_rx.keeps) (at : ℕ) (workers : List (PlainWorker Q T O G)) (proxy : sessions.PlainProxy S R)
    (beside : (place : ℕ) (worker : PlainWorker Q T O G) → slice_get workers place ≡ Some worker
    → IsBeside mail place at worker proxy)
    (of_run : (place : ℕ) (worker : PlainWorker Q T O G) → slice_get workers place ≡ Some worker
    → (worker.state.me ≡ place + 1) × IsOneOf (length worker.ends.replies.items) (at + 1) × (worker.state.kept ≡ None)
    × HasServedAll (at + 1) (session_lists mail proxy) (place + 1) (worker_lists mail worker))
    (of_workers : IsOfWorkers (length workers) (session_lists mail proxy)) (placed : IsPlaced (session_lists mail proxy)) where
  -- Its next request finds a place, since all were taken that it sent.
  finds_place : (place : ℕ) → place < length workers → (sender : S) → slice_get proxy.ends.requests.items place ≡ Some sender → mail.request_tx.clear sender
  finds_place place low sender there =
      let worker = there_is workers place low in
      let beside_it = beside place worker.0 worker.1 in
      let served = (of_run place worker.0 worker.1).3 in
      let place_is : place + 1 - 1 ≡ place = omega arith in
      let taken : from_sender (at + 1) (mail.request_rx.received worker.0.ends.requests) ≡ sent_at mail.request_tx.sent proxy.ends.requests.items place =
      served.requests ∙ ap (λ n. sent_at mail.request_tx.sent proxy.ends.requests.items n) place_is
      in
      let long = ap length taken in
      beside_it.asks_freed free.0.freed (omega (arith, long)) sender there

  module _ (waited : HasWaited mail.request_tx mail.reply_rx proxy)
      (nothing : FindsNothing mail.reply_rx.keeps (box_of mail.reply_rx.received mail.reply_rx.answers mail.reply_rx.about waited.now.ends.replies)) where
    -- Where its box has nothing, it and each worker took all of each other.
    all_taken : (place : ℕ) (worker : Lists) → slice_get (map (worker_lists mail) workers) place ≡ Some worker
        → IsWorkerOf (at + 1) (place + 1) worker × HaveTakenAll (at + 1) (session_lists mail proxy) (place + 1) worker
    all_taken place worker there =
        let one = of_mapped (worker_lists mail) workers place worker there in
        let beside_it = beside place one.0 one.1 in
        let of = of_run place one.0 one.1 in
        let heard = of_shown mail.reply_rx.keeps.complete (mail.reply_rx.about waited.now.ends.replies (place + 1)).standing (sent_at mail.reply_tx.sent one.0.ends.replies.items at)
        (λ sent. from_sender (place + 1) (mail.reply_rx.received waited.now.ends.replies) ≡ sent) free.1.complete
        ((waited.stands (place + 1)).0 ∙ beside_it.replies free.1.shows) (nothing.none (place + 1))
        in
        let same : mail.reply_rx.received waited.now.ends.replies ≡ mail.reply_rx.received proxy.ends.replies = ap (λ (lists : sessions.Lists). lists.received) waited.polls.0 in
        let at_is : at ≡ at + 1 - 1 = omega arith in
        let many = length-map one.0.ends.replies.items mail.reply_tx.sent in
        subst (λ worker. IsWorkerOf (at + 1) (place + 1) worker × HaveTakenAll (at + 1) (session_lists mail proxy) (place + 1) worker) one.2 (
          record { share = beside_it.share; me = of.0; session_is = (of.1.0, omega (arith, of.1.1, many)); none_kept = of.2 },
          record {
            requests = of.3.requests;
            none_held = of.3.none_held;
            replies = sym (ap (from_sender (place + 1)) same) ∙ heard ∙ ap (λ n. sent_at mail.reply_tx.sent one.0.ends.replies.items n) at_is;
          },
        )

  -- So it has not waited when it was polled.
  pub not_waited : AwaitsMissing (session_lists mail proxy)
      → HasWaited mail.request_tx mail.reply_rx proxy → ⊥
  not_waited awaits waited =
      let its : sessions.Lists = session_lists mail proxy in
      elim waited.polls.1 [
        | inl back ↦
            let within : IsOneOf (length its.sent) back.worker = goes_to_worker its placed proxy.course.out back.worker back.item back.next in
            let many = length-map proxy.ends.requests.items mail.request_tx.sent in
            let low : back.worker - 1 < length workers = omega (arith, within.0, within.1, of_workers.senders) in
            let sender = there_is proxy.ends.requests.items (back.worker - 1) (omega (arith, within.0, within.1, many)) in
            back.no_room.0 sender.0 sender.1 (finds_place (back.worker - 1) low sender.0 sender.1)
        | inr hears ↦
            waits_not (map (worker_lists mail) workers) (at + 1) its
            (subst (λ many. IsOfWorkers many its) (sym (length-map workers (worker_lists mail))) of_workers) placed awaits
            (all_taken waited hears.told) hears.waits
      ]
