-- What a session and a worker learn of each other where their ends are held together.
use Rattle.std.specs.Prelude.{◌≡◌, ◌≢◌, ℕ, ◌-◌, ◌≤◌, IsTrue, List, length, map, min, slice_index_or}
use Rattle.mail_contract.specs.Lanes.{IsLaneOf}
use Rattle.mail_contract.specs.OverSenders.{number_at, sent_at, unseen_at}
use Rattle.mail_contract.specs.Standing.{Learned}
use Rattle.mail_contract.specs.Takes.{IsFront, from_sender}
use Rattle.mail_contract.specs.declared.rx.Rx as boxes
use Rattle.mail_contract.specs.declared.tx.Tx as senders

-- A session sends to the boxes of several workers: at each it has a number, and what it asked of the worker.
module _ {Q M S QK SK P : Type 0} (its : boxes.Ghosts Q M S QK SK) (number : P → ℕ → ℕ) (asked : P → ℕ → List M) where
  -- what a worker's box received of it
  abbrev pub received_of : P → ℕ → Q → List M
  received_of session worker requests = from_sender (number session worker) (its.received requests)

  -- what the box learns of it
  abbrev pub Learns : P → ℕ → Q → Q → Type 0
  Learns session worker before now = Learned its.keeps (number session worker) (asked session worker) (its.about before) (its.about now)

  -- a complete box tells that what it received is the front of what was asked
  abbrev pub TellsFront : P → ℕ → Q → Type 0
  TellsFront session worker requests = IsTrue its.keeps.complete → IsFront (received_of session worker requests) (asked session worker)

  -- the session learns how many of its requests may take up a place, at most 64: those that were not received
  abbrev pub LearnsUnseen : (P → ℕ → ℕ) → ℕ → Q → P → P → Type 0
  LearnsUnseen unseen worker requests before now =
      IsTrue its.keeps.roomy → unseen now worker ≡ min 64 (length (asked before worker) - length (received_of before worker requests))

  -- and finds a place for the next where all of them were
  abbrev pub FindsPlace : (P → ℕ → Type 0) → ℕ → Q → P → P → Type 0
  FindsPlace clear worker requests before now =
      IsTrue its.keeps.freed → length (asked before worker) ≤ length (received_of before worker requests) → clear now worker

module _ {T M TK : Type 0} (from : senders.Ghosts T M TK) where
  -- the next message of the sender at a place finds a place
  abbrev pub IsClearThere : List T → ℕ → Type 0
  IsClearThere senders place = (sender : T) → slice_index_or senders place sender ≡ sender → from.clear sender

  -- as many messages of the others may take up a place as before
  abbrev pub OthersUnseenStay : ℕ → List T → List T → Type 0
  OthersUnseenStay here before now = (place : ℕ) → place ≢ here → unseen_at from now place ≡ unseen_at from before place

-- the others stay as they are
abbrev pub OthersStayThere : {T : Type 0} → ℕ → List T → List T → Type 0
OthersStayThere {T} here before now = (place : ℕ) (sender : T) → place ≢ here → slice_index_or now place sender ≡ slice_index_or before place sender

-- The senders of a session are a list: that to a worker stands at the place before the worker's number.
module _ {Q M S T QK SK TK : Type 0} (its : boxes.Ghosts Q M S QK SK) (from : senders.Ghosts T M TK) where
  -- what a worker's box learns of the sender at a place,
  abbrev pub LearnsAt : List T → ℕ → Q → Q → Type 0
  LearnsAt = Learns its (number_at from) (sent_at from)

  -- and what it tells of that one's requests
  abbrev pub TellsFrontAt : List T → ℕ → Q → Type 0
  TellsFrontAt = TellsFront its (number_at from) (sent_at from)

  -- what the sender learns of its room,
  abbrev pub LearnsUnseenAt : ℕ → Q → List T → List T → Type 0
  LearnsUnseenAt = LearnsUnseen its (number_at from) (sent_at from) (unseen_at from)

  -- and that it finds a place
  abbrev pub FindsPlaceAt : ℕ → Q → List T → List T → Type 0
  FindsPlaceAt = FindsPlace its (number_at from) (sent_at from) (IsClearThere from)

-- a worker's box is of one making with the session's sender to that worker
abbrev pub IsPaired : {Q M S QK SK : Type 0} → boxes.Ghosts Q M S QK SK → senders.Ghosts S M SK → List S → ℕ → Q → Type 0
IsPaired its from senders worker requests =
    IsLaneOf (λ tx rx. its.pairs rx tx (number_at from senders (worker - 1))) (map from.key senders) (its.key requests) worker
