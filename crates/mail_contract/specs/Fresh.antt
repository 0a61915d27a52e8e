-- What new ends tell: nothing was sent yet, nothing received, and nothing asked for.
use Rattle.std.specs.Prelude.{◌≡◌, ℕ, List, [], map, replicate, None}
use Rattle.std.specs.List.{range_with_len}
use Rattle.mail_contract.specs.Plain.{nothing_sent}
use Rattle.mail_contract.specs.Takes.{Answers}
use Rattle.mail_contract.specs.declared.gossip.GossipRx as gossip
use Rattle.mail_contract.specs.declared.rx.Rx as boxes
use Rattle.mail_contract.specs.declared.tx.Tx as senders

-- the answers of a box that was never asked
abbrev pub no_answers : Answers
no_answers = record { nones = 0; somes = 0 }

-- so many, of each of which this is seen
abbrev pub AllShow : {A B : Type 0} → (A → B) → B → ℕ → List A → Type 0
AllShow seen this many list = map seen list ≡ replicate many this

module _ {T M TK : Type 0} (its : senders.Ghosts T M TK) where
  -- so many senders, which have their numbers from 1 on in their order
  abbrev pub AreNumbered : ℕ → List T → Type 0
  AreNumbered many senders = map its.number senders ≡ range_with_len 1 many

  -- none of them has sent anything
  abbrev pub NoneSent : ℕ → List T → Type 0
  NoneSent many senders = AllShow its.sent [] many senders

module _ {Q M S QK SK : Type 0} (its : boxes.Ghosts Q M S QK SK) where
  -- a box that has received nothing
  abbrev pub NoneReceived : Q → Type 0
  NoneReceived mailbox = its.received mailbox ≡ []

  -- and that was never asked
  abbrev pub NeverAsked : Q → Type 0
  NeverAsked mailbox = its.answers mailbox ≡ no_answers

  -- no sender is shown to it or taken in, and nothing is left of any
  abbrev pub KnowsOfNone : Q → Type 0
  KnowsOfNone mailbox = (sender : ℕ) → its.about mailbox sender ≡ nothing_sent

module _ {G M O GK OK : Type 0} (its : gossip.Ghosts G M O GK OK) where
  -- a weak box that has handed out nothing
  abbrev pub NoneGot : G → Type 0
  NoneGot mailbox = (sender place : ℕ) → its.got mailbox sender place ≡ None

  -- and that was never asked
  abbrev pub NeverAskedWeak : G → Type 0
  NeverAskedWeak mailbox = its.answers mailbox ≡ no_answers
