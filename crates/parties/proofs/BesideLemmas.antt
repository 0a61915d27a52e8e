-- What a worker and a session know of each other, once they were held beside each other, stays where nothing changes that it speaks of.
use Rattle.std.specs.Prelude.{◌≡◌, ◌≢◌, ℕ, ◌+◌, ◌-◌, ◌<◌, ◌≤◌, IsTrue, List, [], length, map, slice_get, slice_index_or, slice_set, Some}
use Rattle.std.proofs.Common.{◌∙◌, ap, arith, refl, subst, sym}
use Rattle.mail_contract.specs.Takes.{IsFront, from_sender}
use Rattle.parties.specs.Beside.{IsBeside, sent_at, AreBeside}
use Rattle.run_waiting.specs.Told.{AreAllTold, IsTold}
use Rattle.session_proxy.specs.State.{PlainProxy}
use Rattle.session_proxy.specs.State as sessions
use Rattle.worker_core.specs.Share.{Share}
use Rattle.worker_core.specs.State.{PlainWorker}
use Rattle.worker_core.specs.State as workers
use Rattle.party_turns.proofs.ItemsLemmas.{also_there, of_mapped}
use Rattle.parties.proofs.ChangedLemmas.{done_to_one}
use Rattle.party_turns.specs.Ends.{Ends, session_lists, worker_lists}
use Rattle.parties.specs.Staying.{AllStay}
use Rattle.mail_contract.specs.Standing.{Shown}

-- the sender at a place finds a place for the next message, where it did
abbrev pub StaysClearAt : {T : Type 0} → (T → Type 0) → List T → List T → ℕ → Type 0
StaysClearAt {T} clear before now place =
    ((sender : T) → slice_get before place ≡ Some sender → clear sender) → (sender : T) → slice_get now place ≡ Some sender → clear sender

-- A worker and a session, by their places, know still what they knew of each other: each one's box stands to the other's sender as before, and each one's
-- sender finds a place, where it did.
pub record KnowStill {S T O Q G R SK TK OK QK GK RK : Type 0} (mail : Ends S T O Q G R SK TK OK QK GK RK)
    (place at : ℕ) (was is : PlainWorker Q T O G) (proxy_was proxy_is : PlainProxy S R) : Type 0 where
  pub requests : (mail.request_rx.about is.ends.requests (at + 1)).standing ≡ (mail.request_rx.about was.ends.requests (at + 1)).standing
  pub asks : StaysClearAt mail.request_tx.clear proxy_was.ends.requests.items proxy_is.ends.requests.items place
  pub replies : (mail.reply_rx.about proxy_is.ends.replies (place + 1)).standing ≡ (mail.reply_rx.about proxy_was.ends.replies (place + 1)).standing
  pub reply_senders : StaysClearAt mail.reply_tx.clear was.ends.replies.items is.ends.replies.items at

-- those that are as they were do
pub know_still : {S T O Q G R SK TK OK QK GK RK : Type 0} {mail : Ends S T O Q G R SK TK OK QK GK RK}
    (place at : ℕ) (worker : PlainWorker Q T O G) (proxy : PlainProxy S R) → KnowStill mail place at worker worker proxy proxy
know_still place at worker proxy = record { requests = refl; asks = λ clear. clear; replies = refl; reply_senders = λ clear. clear }

module _ {S T O Q G R SK TK OK QK GK RK : Type 0} {mail : Ends S T O Q G R SK TK OK QK GK RK}
    (place at : ℕ) (was is : PlainWorker Q T O G) (proxy_was proxy_is : PlainProxy S R)
    (same : worker_lists mail was ≡ worker_lists mail is)
    (its_same : session_lists mail proxy_was ≡ session_lists mail proxy_is)
    (still : KnowStill mail place at was is proxy_was proxy_is) where
  -- so they are beside each other still, where the same is told of both
  pub stays_beside : IsBeside mail place at was proxy_was
      → IsBeside mail place at is proxy_is
  stays_beside beside = record {
    share = subst Share same beside.share;
    requests = λ shows. still.requests ∙ beside.requests shows ∙ ap (λ lists. Shown (slice_index_or lists.sent place [])) its_same;
    requests_told = λ complete.
        subst (λ (both : workers.Lists × sessions.Lists). IsFront (from_sender (at + 1) both.0.received) (slice_index_or both.1.sent place []))
        (λ j. (same j, its_same j)) (beside.requests_told complete);
    asks_freed = λ freed enough. still.asks (beside.asks_freed freed
        (subst (λ (both : workers.Lists × sessions.Lists). length (slice_index_or both.1.sent place []) ≤ length (from_sender (at + 1) both.0.received))
        (λ j. (sym same j, sym its_same j)) enough));
    replies = λ shows. still.replies ∙ beside.replies shows ∙ ap (λ lists. Shown (slice_index_or lists.replied at [])) same;
    replies_told = λ complete.
        subst (λ (both : workers.Lists × sessions.Lists). IsFront (from_sender (place + 1) both.1.received) (slice_index_or both.0.replied at []))
        (λ j. (same j, its_same j)) (beside.replies_told complete);
    replies_freed = λ freed enough. still.reply_senders (beside.replies_freed freed
        (subst (λ (both : workers.Lists × sessions.Lists). length (slice_index_or both.0.replied at []) ≤ length (from_sender (place + 1) both.1.received))
        (λ j. (sym same j, sym its_same j)) enough));
  }

module _ {S T O Q G R SK TK OK QK GK RK : Type 0} (mail : Ends S T O Q G R SK TK OK QK GK RK) where
  -- so two of a run of which nothing changes are beside each other still, where they know what they knew
  pub stay_beside : (workers_were workers_are : List (PlainWorker Q T O G)) (proxies_were proxies_are : List (PlainProxy S R))
      → AllStay mail workers_were workers_are proxies_were proxies_are → (place at : ℕ)
      → ((was is : PlainWorker Q T O G) (proxy_was proxy_is : PlainProxy S R) → slice_get workers_were place ≡ Some was → slice_get workers_are place ≡ Some is
      → slice_get proxies_were at ≡ Some proxy_was → slice_get proxies_are at ≡ Some proxy_is
      → KnowStill mail place at was is proxy_was proxy_is)
      → AreBeside mail place at workers_were proxies_were → AreBeside mail place at workers_are proxies_are
  stay_beside workers_were workers_are proxies_were proxies_are stay place at still beside worker proxy there here =
      let was = also_there (worker_lists mail) workers_were workers_are stay.workers_told place worker there in
      let proxy_was = also_there (session_lists mail) proxies_were proxies_are stay.sessions_told at proxy here in
      stays_beside place at was.0 worker proxy_was.0 proxy was.2 proxy_was.2 (still was.0 worker proxy_was.0 proxy was.1 there proxy_was.1 here)
      (beside was.0 proxy_was.0 was.1 proxy_was.1)

  -- and where all are beside each other it is told what they took of each other
  pub all_told : (all : List (PlainWorker Q T O G)) (those : List (PlainProxy S R)) → ((place at : ℕ) → AreBeside mail place at all those)
      → IsTrue mail.request_rx.keeps.complete → IsTrue mail.reply_rx.keeps.complete
      → AreAllTold (map (worker_lists mail) all) (map (session_lists mail) those)
  all_told all those beside complete replies_complete place at lists its_lists lists_there its_there =
      let worker = of_mapped (worker_lists mail) all place lists lists_there in
      let proxy = of_mapped (session_lists mail) those at its_lists its_there in
      let know = beside place at worker.0 proxy.0 worker.1 proxy.1 in
      subst (λ (both : workers.Lists × sessions.Lists). IsTold (at + 1) both.1 (place + 1) both.0) (λ j. (worker.2 j, proxy.2 j)) (record {
        requests = subst (λ n. IsFront (from_sender (at + 1) (mail.request_rx.received worker.0.ends.requests)) (sent_at mail.request_tx.sent proxy.0.ends.requests.items n)) (back place)
            (know.requests_told complete);
        replies = subst (λ n. IsFront (from_sender (place + 1) (mail.reply_rx.received proxy.0.ends.replies)) (sent_at mail.reply_tx.sent worker.0.ends.replies.items n)) (back at)
            (know.replies_told replies_complete);
      })
    where
      back : (n : ℕ) → n ≡ n + 1 - 1
      back n = omega arith

-- One item each of two lists changed. What holds of two items that are as before, and of each of those two with one of the other list, holds of all pairs but
-- that of the two.
pub done_to_pairs : {X Y : Type 0} (Does : ℕ → ℕ → X → X → Y → Y → Type 0) (xs : List X) (ys : List Y) (place at : ℕ) (x x_now : X) (y y_now : Y)
    → place < length xs → x ≡ slice_index_or xs place x → at < length ys → y ≡ slice_index_or ys at y
    → ((one other : ℕ) (its : X) (those : Y) → Does one other its its those those)
    → ((other : ℕ) (its : Y) → other ≢ at → Does place other x x_now its its)
    → ((one : ℕ) (its : X) → one ≢ place → Does one at its its y y_now)
    → (one other : ℕ) → (one ≡ place → other ≡ at → ⊥) → (was is : X) (its_was its_is : Y) → slice_get xs one ≡ Some was → slice_get (slice_set xs place x_now) one ≡ Some is
    → slice_get ys other ≡ Some its_was → slice_get (slice_set ys at y_now) other ≡ Some its_is → Does one other was is its_was its_is
done_to_pairs {X} {Y} Does xs ys place at x x_now y y_now within x_is its_within y_is still first second one other apart was is its_was its_is there also here also_here =
    done_to_one (λ one was is. (other : ℕ) (its_was its_is : Y) → (one ≡ place → other ≡ at → ⊥) → slice_get ys other ≡ Some its_was → slice_get (slice_set ys at y_now) other ≡ Some its_is
    → Does one other was is its_was its_is)
    (λ one its other its_was its_is apart here also_here.
    done_to_one (λ other its_was its_is. (one ≡ place → other ≡ at → ⊥) → Does one other its its its_was its_is) (λ other those apart. still one other its those)
    ys at y y_now its_within y_is (λ apart. second one its (λ same. apart same refl)) other its_was its_is here also_here apart)
    xs place x x_now within x_is
    (λ other its_was its_is apart here also_here.
    done_to_one (λ other its_was its_is. (place ≡ place → other ≡ at → ⊥) → Does place other x x_now its_was its_is) (λ other those apart. first other those (apart refl))
    ys at y y_now its_within y_is (λ apart. absurd (apart refl refl)) other its_was its_is here also_here apart)
    one was is there also other its_was its_is apart here also_here
