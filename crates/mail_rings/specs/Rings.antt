-- Ends of mail over rings.
use Rattle.std.specs.Prelude.{◌≡◌, ℕ, ◌-◌, ◌≤◌, Bool, true, false, [], ◌++◌, length, Option, Some, None}
use denote.RawPtr.{Ptr}
use Rattle.rtrb.specs.Shared.{Names}
use Rattle.rtrb.specs.Ring.{sent, received, known_items}
use Rattle.rtrb.specs.declared.producer.Producer.{Producer}
use Rattle.rtrb.specs.declared.consumer.Consumer.{Consumer}
use Rattle.mail_contract.specs.Lanes.{Lane, about_lane}
use Rattle.mail_contract.specs.Parts.{Parts}
use Rattle.mail_contract.specs.Standing.{Apart, Shown, Settled}
use Rattle.mail_contract.specs.declared.rx.Rx as boxes
use Rattle.mail_rings.specs.declared.tx.RingTx.{RingTx}

-- rings keep all but that a box makes room for the order in which it takes
abbrev pub ring_parts : Parts
ring_parts = record {
  shows = true;
  bounded = true;
  roomy = true;
  finite = true;
  advances = true;
  freed = true;
  complete = true;
  exact = true;
  turns = true;
  sure = false;
}

module _ {T A P : Type 0} where
  -- which ring it is
  abbrev pub tx_ring : Producer T A P → Ptr × Ptr × Names × A
  tx_ring producer = (producer.end.words, producer.end.slots, producer.end.names, producer.end.heap)

  abbrev pub rx_ring : Consumer T A P → Ptr × Ptr × Names × A
  rx_ring consumer = (consumer.end.words, consumer.end.slots, consumer.end.names, consumer.end.heap)

module _ {M A P : Type 0} where
  -- a ring whose sender is kept beside it, one whose sender was shown, and one that knows nothing of its sender
  abbrev pub lane_of : Option (RingTx M) → Bool → Consumer M A P → Lane M
  lane_of (Some ended) shown ring = record {
    taken = received ring;
    standing = Settled (sent ended.ring);
    met = true;
    left = length (sent ended.ring) - length (received ring);
  }
  lane_of None true ring = record {
    taken = received ring;
    standing = Shown (received ring ++ known_items ring);
    met = true;
    left = length (known_items ring);
  }
  lane_of None false ring = record { taken = received ring; standing = Apart; met = false; left = 0 }

-- a ring of which nothing was taken, and which knows nothing of its sender
abbrev pub new_lane : {M : Type 0} → Lane M
new_lane = record { taken = []; standing = Apart; met = false; left = 0 }

-- a box of so many new rings knows nothing of its senders
abbrev pub KnowsNothing : {Q M S QK SK : Type 0} → boxes.Ghosts Q M S QK SK → ℕ → Q → Type 0
KnowsNothing its senders mailbox = (sender : ℕ) → 1 ≤ sender → sender ≤ senders → its.about mailbox sender ≡ about_lane new_lane
