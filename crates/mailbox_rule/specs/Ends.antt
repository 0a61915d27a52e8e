-- What the ends of a mailbox tell.
use Rattle.std.specs.Prelude.{◌==◌, if◌then◌else◌, ℕ, true, false, List, [], ◌∷◌}
use Rattle.crossbeam_queue.specs.SegTies.{SegId}
use Rattle.mail_contract.specs.Parts.{Parts}
use Rattle.mail_contract.specs.Standing.{About, Standing, Apart, Settled}
use Rattle.mailbox_rule.specs.Rule.{ended_in}
use Rattle.mailbox_rule.specs.declared.rule.View.{View}

-- which queue it is
abbrev pub key_of : {A : Type 0} → SegId A → (ℕ × ℕ) × A
key_of queue = (queue.web, queue.heap)

-- there is always a place for the next message
abbrev pub queue_parts : Parts
queue_parts = record {
  shows = false;
  bounded = false;
  roomy = false;
  finite = false;
  advances = false;
  freed = true;
  complete = false;
  exact = false;
  turns = false;
  sure = true;
}

module _ {M : Type 0} where
  -- how a box stands to a sender where these were taken in, each with all that it sent
  abbrev pub standing_in : List (ℕ × List M) → ℕ → Standing M
  standing_in [] sender = Apart
  standing_in (list ∷ lists) sender = if list.0 == sender then Settled list.1 else standing_in lists sender

  -- a queue never knows how many messages are left
  abbrev pub about_in : View M → ℕ → About M
  about_in view sender = record { standing = standing_in (ended_in view) sender; met = true; left = 0 }
