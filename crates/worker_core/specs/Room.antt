-- What room a sender has, and what comes back for want of it.
use Rattle.std.specs.Prelude.{◌≡◌, ◌⊎◌, ℕ, ◌+◌, ◌-◌, ◌≤◌, Bool, IsTrue, List, length, min, slice_get, Option, Some, IfSome}
use Rattle.mail_contract.specs.Got.{missing}
use Rattle.mail_contract.specs.Parts.{Parts}

-- What a sender learns of its room where it is held beside its box, from what is not handed out of what it sent.
pub record LearnsRoom {M : Type 0} (clear : Type 0) (unseen : ℕ) (keeps : Parts) (got : ℕ → Option M) (sent : List M) : Type 0 where
  pub roomy : IsTrue keeps.roomy → unseen ≤ missing got sent
  pub freed : IsTrue keeps.freed → missing got sent ≡ 0 → clear

-- and so the sender at a place
abbrev pub LearnsRoomAt : {O M : Type 0} → (O → Type 0) → (O → ℕ) → List O → ℕ → Parts → (ℕ → Option M) → List M → Type 0
LearnsRoomAt {O} {M} clear unseen senders place keeps got sent = (sender : O) → slice_get senders place ≡ Some sender → LearnsRoom (clear sender) (unseen sender) keeps got sent

-- What a sender learns of its room where it is held beside a box in order, from what was received of what it sent.
pub record LearnsRoomInOrder {M : Type 0} (clear : Type 0) (unseen : ℕ) (keeps : Parts) (received sent : List M) : Type 0 where
  pub roomy : IsTrue keeps.roomy → unseen ≡ min 64 (length sent - length received)
  pub freed : IsTrue keeps.freed → length sent ≤ length received → clear

-- and so the sender at a place
abbrev pub LearnsRoomOf : {T M : Type 0} → (T → Type 0) → (T → ℕ) → List T → ℕ → Parts → List M → List M → Type 0
LearnsRoomOf {T} {M} clear unseen senders place keeps received sent =
    (sender : T) → slice_get senders place ≡ Some sender → LearnsRoomInOrder (clear sender) (unseen sender) keeps received sent

-- A sender that found a place for the next message still does, or has sent one since.
abbrev pub StaysClear : {T M : Type 0} → (T → Type 0) → (T → List M) → T → T → Type 0
StaysClear clear sent before now = clear before → clear now ⊎ (length (sent before) + 1 ≤ length (sent now))

-- and so each of many
abbrev pub StayClear : {T M : Type 0} → (T → Type 0) → (T → List M) → List T → List T → Type 0
StayClear {T} clear sent before now = (place : ℕ) (was is : T) → slice_get before place ≡ Some was → slice_get now place ≡ Some is → StaysClear clear sent was is

-- 64 messages or more of it may take up a place, where that is what a sender may want for
abbrev pub HasNoRoom : {T M : Type 0} → Bool → (T → ℕ) → List T → Option (ℕ × M) → Type 0
HasNoRoom {T} roomy unseen senders held = IsTrue roomy → IfSome held (λ held. (sender : T) → slice_get senders (held.0 - 1) ≡ Some sender → 64 ≤ unseen sender)

-- the sender to the session for which a message is held found no place for it
abbrev pub WantsPlace : {T M : Type 0} → (T → Type 0) → List T → Option (ℕ × M) → Type 0
WantsPlace {T} clear senders held = IfSome held (λ held. (sender : T) → slice_get senders (held.0 - 1) ≡ Some sender → clear sender → ⊥)
