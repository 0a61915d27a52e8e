-- What is told of the parties of a run that were held beside each other.
use Rattle.std.specs.Prelude.{◌≡◌, ℕ, suc, ◌+◌, ◌-◌, List, [], ◌∷◌, length, map, slice_index_or}
use Rattle.std.proofs.Common.{◌∙◌, ap, arith, length-append, subst}
use Rattle.mail_contract.proofs.FrontLemmas.{front_short}
use Rattle.mail_contract.specs.Takes.{IsFront, from_sender}
use Rattle.session_proxy.specs.State as sessions
use Rattle.worker_core.specs.Share.{held_for}
use Rattle.worker_core.specs.State as workers
use Rattle.drain_ledger.specs.Handed.{AreFrontsOfSent}
use Rattle.party_turns.proofs.ItemsLemmas.{mapped, of_mapped}
use Rattle.party_turns.specs.Ends.{Ends, session_lists, worker_lists}
use Rattle.parties.specs.Polling.{left_by}
use Rattle.run_measure.specs.Measure.{AreAllCounted, replied}
use Rattle.parties.specs.Told.{AreAllTold}

-- the place of a number from 1
place_of : (at : ℕ) → at + 1 - 1 ≡ at
place_of at = omega arith

-- what a worker replied to a session is what it sent to it, and the reply that it holds for it
with_held : (at : ℕ) (worker : workers.Lists) → replied (at + 1) worker ≡ length (slice_index_or worker.replied at []) + length (held_for (at + 1) worker.state.held)
with_held at worker =
    let next : at + 1 ≡ suc at = omega arith in
    length-append (slice_index_or ([] ∷ worker.replied) (at + 1) []) (held_for (at + 1) worker.state.held)
    ∙ ap (λ place. length (slice_index_or ([] ∷ worker.replied) place []) + length (held_for (at + 1) worker.state.held)) next

-- no more was taken than was sent
pub all_counted : (all : List workers.Lists) (those : List sessions.Lists) → AreAllTold all those → AreAllCounted all those
all_counted all those told place at worker its there here =
    let is = told place at worker its there here in
    record {
      requests = front_short _ _ is.requests;
      replies =
          let few = front_short _ _ is.replies in
          let sent = ap (λ session. length (slice_index_or worker.replied session [])) (place_of at) in
          omega (arith, few, sent, with_held at worker);
    }

module _ {S T O Q G R SK TK OK QK GK RK : Type 0} (mail : Ends S T O Q G R SK TK OK QK GK RK) where
  -- and of the sessions that left their ends it is told what they received of the workers
  pub all_fronts : (those : List (workers.PlainWorker Q T O G)) (proxies : List (sessions.PlainProxy S R))
      → AreAllTold (map (worker_lists mail) those) (map (session_lists mail) proxies)
      → AreFrontsOfSent mail.reply_tx.sent mail.reply_rx.received those (map left_by proxies)
  all_fronts those proxies all place session worker its there left =
      let proxy = of_mapped left_by proxies session its left in
      let told_of_it =
      all place session (worker_lists mail worker) (session_lists mail proxy.0)
      (mapped (worker_lists mail) those place worker there) (mapped (session_lists mail) proxies session proxy.0 proxy.1)
      in
      let sent = map mail.reply_tx.sent worker.ends.replies.items in
      let front =
      subst (λ at. IsFront (from_sender (place + 1) (mail.reply_rx.received proxy.0.ends.replies)) (slice_index_or sent at [])) (place_of session) told_of_it.replies
      in
      subst (λ its. IsFront (from_sender (place + 1) (mail.reply_rx.received its.1.replies)) (slice_index_or sent session [])) proxy.2 front
