-- What a box and its senders are when they are made.
use Rattle.std.specs.Prelude.{◌≡◌, ℕ, ◌+◌, List, [], All, length, slice_get, Option, Some, None}
use Rattle.mail_contract.specs.Standing.{About, IsSettled}
use Rattle.placement.specs.Config.{IsOneOf}

-- A box of which nothing was taken, and its senders, so many, each at the place before its number, which have sent nothing and of which none was taken in.
pub record IsFresh {S P M K SK : Type 0} (number : S → ℕ) (sent : S → List M) (sender_key : S → SK) (key : P → K) (pairs : K → SK → ℕ → Type 0) (box_senders : K → ℕ)
    (received : P → List (ℕ × M)) (about : P → ℕ → About M) (many : ℕ) (senders : List S) (box : P) : Type 0 where
  pub long : length senders ≡ many
  pub numbered : (place : ℕ) (sender : S) → slice_get senders place ≡ Some sender → number sender ≡ place + 1
  pub nothing_sent : All (λ sender. sent sender ≡ []) senders
  pub paired : (place : ℕ) (sender : S) → slice_get senders place ≡ Some sender → pairs (key box) (sender_key sender) (number sender)
  pub senders_are : box_senders (key box) ≡ many
  pub received_is : received box ≡ []
  pub not_taken_in : (sender : ℕ) → IsOneOf many sender → IsSettled (about box sender).standing → ⊥

-- And so a weak box, which has handed out nothing.
pub record IsFreshWeak {S P M K SK : Type 0} (number : S → ℕ) (sent : S → List M) (sender_key : S → SK) (key : P → K) (pairs : K → SK → ℕ → Type 0) (box_senders : K → ℕ)
    (got : P → ℕ → ℕ → Option M) (about : P → ℕ → About M) (many : ℕ) (senders : List S) (box : P) : Type 0 where
  pub long : length senders ≡ many
  pub numbered : (place : ℕ) (sender : S) → slice_get senders place ≡ Some sender → number sender ≡ place + 1
  pub nothing_sent : All (λ sender. sent sender ≡ []) senders
  pub paired : (place : ℕ) (sender : S) → slice_get senders place ≡ Some sender → pairs (key box) (sender_key sender) (number sender)
  pub senders_are : box_senders (key box) ≡ many
  pub none_got : (sender place : ℕ) → got box sender place ≡ None
  pub not_taken_in : (sender : ℕ) → IsOneOf many sender → IsSettled (about box sender).standing → ⊥
