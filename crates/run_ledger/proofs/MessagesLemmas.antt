-- Messages of several senders: what holds of those of each sender and of all.
use Rattle.std.specs.Prelude.{ℕ, ◌==◌, true, false, if◌then◌else◌, List, [], ◌∷◌, All}
use Rattle.std.proofs.Common.{refl, subst}
use Rattle.std.proofs.lemmas.Bool.{eq-eqb}
use Rattle.std.proofs.lemmas.List.Elements.{All-cons, All-head, All-map, All-nil, All-tail}
use Rattle.mail_contract.specs.Takes.{from_sender}
use Rattle.session_known.specs.Requests.{Sent}
use Rattle.session_proxy.specs.Share.{request_of, to_worker}
use Rattle.store_msg.specs.declared.request.Request.{Request}

-- what holds of what came of each sender holds of each message
pub each_from : {M : Type 0} (Holds : ℕ → M → Type 0) (InRange : ℕ → Type 0) (received : List (ℕ × M))
    → ((sender : ℕ) → InRange sender → All (Holds sender) (from_sender sender received)) → All (λ message. InRange message.0) received
    → All (λ message. Holds message.0 message.1) received
each_from Holds InRange [] of_each range = All-nil (λ message. Holds message.0 message.1)
each_from Holds InRange (message ∷ received) of_each range =
    let rest = from_sender message.0 received in
    let first : All (Holds message.0) (message.1 ∷ rest) =
    subst (λ t. All (Holds message.0) (if t then message.1 ∷ rest else rest)) (eq-eqb message.0 message.0 refl)
    (of_each message.0 (All-head (λ m. InRange m.0) message received range))
    in
    All-cons (λ m. Holds m.0 m.1) message received (All-head (Holds message.0) message.1 rest first)
    (each_from Holds InRange received (λ sender within.
    elim (message.0 == sender) as (λ t. All (Holds sender) (if t then message.1 ∷ from_sender sender received else from_sender sender received) → All (Holds sender) (from_sender sender received)) [
      | true ↦ λ all. All-tail (Holds sender) message.1 (from_sender sender received) all
      | false ↦ λ all. all
    ] (of_each sender within)) (All-tail (λ m. InRange m.0) message received range))

-- and what holds of each message holds of what came of one sender
pub of_sender : {M : Type 0} (Holds : M → Type 0) (sender : ℕ) (received : List (ℕ × M)) → All (λ message. Holds message.1) received → All Holds (from_sender sender received)
of_sender Holds sender [] all = All-nil Holds
of_sender {M} Holds sender (message ∷ received) all =
    let came : List M = from_sender sender received in
    let rest = of_sender Holds sender received (All-tail (λ m. Holds m.1) message received all) in
    elim (message.0 == sender) as (λ own. All Holds (if own then message.1 ∷ came else came)) [
      | true ↦ All-cons Holds message.1 came (All-head (λ m. Holds m.1) message received all) rest
      | false ↦ rest
    ]

-- so of the requests that go to one worker
pub all_to_worker : (Holds : Request → Type 0) (worker : ℕ) (sent : List (ℕ × Sent)) → All (λ one. Holds (request_of one.1)) sent → All Holds (to_worker worker sent)
all_to_worker Holds worker sent all = All-map Holds request_of (from_sender worker sent) (of_sender (λ item. Holds (request_of item)) worker sent all)
