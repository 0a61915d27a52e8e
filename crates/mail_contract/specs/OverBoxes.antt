-- What a call does to a box, by all that its trait lets contracts see of it.
use Rattle.std.specs.Prelude.{ℕ, List, Option, Result}
use Rattle.mail_contract.specs.Beside.{IsLearned}
use Rattle.mail_contract.specs.Boxes as calls
use Rattle.mail_contract.specs.Standing.{AllStand}
use Rattle.mail_contract.specs.declared.rx.Rx as boxes
use Rattle.mail_contract.specs.declared.tx.Tx as senders

module _ {Q M S QK SK : Type 0} (its : boxes.Ghosts Q M S QK SK) where
  -- what contracts see of it, beside its key
  abbrev pub seen : Q → calls.Box M
  seen = calls.box_of its.received its.answers its.about

  -- how many senders it has
  abbrev pub senders_of : Q → ℕ
  senders_of mailbox = its.senders (its.key mailbox)

  -- a message is taken out of it, by the answer
  abbrev pub Takes : {E : Type 0} → Result (Option (ℕ × M)) E → Q → Q → Type 0
  Takes answer before now = calls.Takes its.keeps (senders_of before) answer (seen before) (seen now)

  -- it is asked once, or not at all
  abbrev pub MayTake : Q → Q → Type 0
  MayTake before now = calls.MayTake its.keeps (senders_of before) (seen before) (seen now)

  -- what it tells where nothing is found in it
  abbrev pub FindsNothing : Q → Type 0
  FindsNothing mailbox = calls.FindsNothing its.keeps (seen mailbox)

  -- a sender of this number, which sent this, is held beside it
  abbrev pub Shows : ℕ → List M → Q → Q → Type 0
  Shows sender sent before now = calls.Shows its.keeps sender sent (seen before) (seen now)

  -- how it stands to its senders stays
  abbrev pub StandingStays : Q → Q → Type 0
  StandingStays before now = AllStand (its.about before) (its.about now)

  -- what it learns of a sender that is held beside it
  abbrev pub Learns : senders.Ghosts S M SK → S → Q → Q → Type 0
  Learns from sender before now = IsLearned from its.keeps sender (its.about before) (its.about now)

  -- a sender that has ended is taken in
  abbrev pub Settles : senders.Ghosts S M SK → S → Q → Q → Type 0
  Settles from ended before now = calls.Settles its.keeps (from.number ended) (from.sent ended) (seen before) (seen now)
