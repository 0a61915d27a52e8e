-- What parcels do to a box of plain mail and to its senders, by all that their traits let contracts see: a key of a box is what was delivered of each sender, and one of a
-- sender is what it gave up.
use Rattle.std.specs.Prelude.{ℕ, List, drop, length, Result}
use Rattle.mail_contract.specs.Carried.{Carried}
use Rattle.mail_contract.specs.Parcels as parcels
use Rattle.mail_contract.specs.Plain as plain
use Rattle.mail_contract.specs.declared.parcels.ParcelFault.{ParcelFault}
use Rattle.mail_contract.specs.declared.gossip.GossipRx as weak
use Rattle.mail_contract.specs.declared.rx.Rx as boxes
use Rattle.mail_contract.specs.declared.tx.Tx as senders

module _ {T M : Type 0} (its : senders.Ghosts T M (List M)) where
  -- what a sender sent since its last parcel
  abbrev pub parcel_since : T → Carried M
  parcel_since sender = record { sender = its.number sender; begin = length (its.key sender); messages = drop (length (its.key sender)) (its.sent sender) }

  -- the sender at a place gives up a parcel
  abbrev pub GivesUp : ℕ → Carried M → List T → List T → Type 0
  GivesUp place parcel before now = parcels.GivesUp its.number its.sent its.key place parcel before now

module _ {Q M S SK : Type 0} (its : boxes.Ghosts Q M S (List (List M)) SK) where
  -- a parcel begins where the last one of its sender ended
  abbrev pub Follows : Carried M → Q → Type 0
  Follows parcel mailbox = plain.Follows (its.key mailbox) (its.about mailbox) parcel

  -- a parcel is delivered to a box, or comes back
  abbrev pub Delivers : {U : Type 0} → Carried M → Result U (ParcelFault M) → Q → Q → Type 0
  Delivers parcel result before now = parcels.Delivers its.key its.received its.answers its.about parcel result before now

module _ {G M O OK : Type 0} (its : weak.Ghosts G M O (List (List M)) OK) where
  -- and so to a weak one
  abbrev pub DeliversWeak : {U : Type 0} → Carried M → Result U (ParcelFault M) → G → G → Type 0
  DeliversWeak parcel result before now = parcels.Delivers its.key its.got its.answers its.about parcel result before now
