-- What a box and one of its senders tell of each other, by what the sender's trait lets contracts see of it.
use Rattle.std.specs.Prelude.{◌≡◌, ℕ, ◌-◌, ◌≤◌, List, length, min, Option}
use Rattle.mail_contract.specs.Got.{AreIn, missing}
use Rattle.mail_contract.specs.Parts.{Parts}
use Rattle.mail_contract.specs.Standing.{About, Learned, Settled}
use Rattle.mail_contract.specs.Takes.{IsFront, from_sender}
use Rattle.mail_contract.specs.declared.tx.Tx as senders

module _ {T M TK : Type 0} (its : senders.Ghosts T M TK) where
  -- a sender that has ended is taken in, with all that it sent
  abbrev pub IsTakenIn : T → (ℕ → About M) → Type 0
  IsTakenIn ended about = (about (its.number ended)).standing ≡ Settled (its.sent ended)

  -- the box learns of a sender that is held beside it
  abbrev pub IsLearned : Parts → T → (ℕ → About M) → (ℕ → About M) → Type 0
  IsLearned keeps sender before now = Learned keeps (its.number sender) (its.sent sender) before now

  -- a sender learns how many of its messages may take up a place, at most 64, from those that were received
  abbrev pub LearnsUnseenBy : List M → T → T → Type 0
  LearnsUnseenBy received before now = its.unseen now ≡ min 64 (length (its.sent before) - length received)

  -- and finds a place for the next where all of them were
  abbrev pub FindsPlaceBy : List M → T → T → Type 0
  FindsPlaceBy received before now = length (its.sent before) ≤ length received → its.clear now

  -- what a box received of it
  abbrev pub received_from : T → List (ℕ × M) → List M
  received_from sender received = from_sender (its.number sender) received

  -- what was received of it is the front of what it sent
  abbrev pub IsFrontOf : T → List (ℕ × M) → Type 0
  IsFrontOf sender received = IsFront (received_from sender received) (its.sent sender)

  -- an ended sender leaves the messages that were not received
  abbrev pub Leaves : T → List (ℕ × M) → (ℕ → About M) → Type 0
  Leaves ended received about = (about (its.number ended)).left ≡ length (its.sent ended) - length (received_from ended received)

  -- how many of its messages may take up a place it learns beside a box that received these,
  abbrev pub LearnsUnseen : List (ℕ × M) → T → T → Type 0
  LearnsUnseen received before now = LearnsUnseenBy (received_from before received) before now

  -- and that it finds a place
  abbrev pub FindsPlace : List (ℕ × M) → T → T → Type 0
  FindsPlace received before now = FindsPlaceBy (received_from before received) before now

  -- how many of the messages that it sent a weak box has not handed out
  abbrev pub missing_of : T → (ℕ → ℕ → Option M) → ℕ
  missing_of sender got = missing (got (its.number sender)) (its.sent sender)

  -- what was handed out of it was sent by it
  abbrev pub HasSent : T → (ℕ → ℕ → Option M) → Type 0
  HasSent sender got = AreIn (got (its.number sender)) (its.sent sender)

  -- an ended sender leaves no more messages than are missing
  abbrev pub LeavesWeak : T → (ℕ → ℕ → Option M) → (ℕ → About M) → Type 0
  LeavesWeak ended got about = (about (its.number ended)).left ≤ missing_of ended got

  -- beside a weak box it learns that no more of its messages may take up a place than are missing,
  abbrev pub LearnsUnseenWeak : (ℕ → ℕ → Option M) → T → T → Type 0
  LearnsUnseenWeak got before now = its.unseen now ≤ missing_of before got

  -- and that it finds a place where none is
  abbrev pub FindsPlaceWeak : (ℕ → ℕ → Option M) → T → T → Type 0
  FindsPlaceWeak got before now = missing_of before got ≡ 0 → its.clear now
