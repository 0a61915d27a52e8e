-- What a box knows of a sender.
use Rattle.std.specs.Prelude.{◌≡◌, ◌≢◌, ℕ, ◌+◌, ◌*◌, ◌≤◌, Bool, IsFalse, IsTrue, List, sum_by, if◌then◌else◌, Option, Some, None, IfSome, ⊤}
use Rattle.std.specs.List.{range_with_len}
use Rattle.mail_contract.specs.Parts.{Parts}

-- how a box stands to a sender
pub data Standing (M : Type 0) : Type 0 where
  -- neither shown nor taken in
  Apart : Standing M
  -- shown: what it had sent when the two were last beside each other
  Shown : List M → Standing M
  -- taken in, when it had ended: all that it sent
  Settled : List M → Standing M

pub record About (M : Type 0) : Type 0 where
  pub standing : Standing M
  -- it is known how many of its messages are left to take
  pub met : Bool
  -- how many are, where that is known
  pub left : ℕ

-- what holds of a sender still does
abbrev pub StillAll : (ℕ → Bool) → (ℕ → Bool) → Type 0
StillAll before now = (sender : ℕ) → IsTrue (before sender) → IsTrue (now sender)

module _ {M : Type 0} where
  abbrev pub OnShown : Standing M → (List M → Type 0) → Type 0
  OnShown Apart holds = ⊤
  OnShown (Shown sent) holds = holds sent
  OnShown (Settled sent) holds = ⊤

  -- what a box tells of what a sender sent: all of a settled one, and, where the box is complete, what a shown one had sent
  abbrev pub sent_of : Bool → Standing M → Option (List M)
  sent_of complete Apart = None
  sent_of complete (Shown sent) = if complete then Some sent else None
  sent_of complete (Settled sent) = Some sent

  abbrev pub OfSent : Bool → Standing M → (List M → Type 0) → Type 0
  OfSent complete standing holds = IfSome (sent_of complete standing) holds

  abbrev pub IsSettled : Standing M → Type 0
  IsSettled Apart = ⊥
  IsSettled (Shown sent) = ⊥
  IsSettled (Settled sent) = ⊤

  -- once nobody is beside the box
  abbrev pub parted : Standing M → Standing M
  parted Apart = Apart
  parted (Shown sent) = Apart
  parted (Settled sent) = Settled sent

  -- a call changes what is known of this sender alone
  abbrev pub OthersStay : ℕ → (ℕ → About M) → (ℕ → About M) → Type 0
  OthersStay sender before now = (other : ℕ) → other ≢ sender → now other ≡ before other

  -- What is learned where a sender is held beside the box: of it alone, and nothing where the box shows nobody; where it does,
  -- what the sender has sent, and that no more than 64 of its messages are left.
  pub record Learned (keeps : Parts) (sender : ℕ) (sent : List M) (before now : ℕ → About M) : Type 0 where
    pub others : OthersStay sender before now
    pub still : IsFalse keeps.shows → now ≡ before
    pub shown : IsTrue keeps.shows → (now sender).standing ≡ Shown sent
    pub left : IsTrue keeps.shows → (now sender).left ≤ 64
    pub met : IsTrue (now sender).met

  -- a take leaves how the box stands to its senders, and of which it knows how many messages are left
  abbrev pub AllStand : (ℕ → About M) → (ℕ → About M) → Type 0
  AllStand before now = (sender : ℕ) → ((now sender).standing ≡ (before sender).standing) × ((now sender).met ≡ (before sender).met)

  -- nobody is shown any longer; of the settled all stays
  abbrev pub AllPart : (ℕ → About M) → (ℕ → About M) → Type 0
  AllPart before now = (sender : ℕ) → ((now sender).standing ≡ parted (before sender).standing) × (IsSettled (before sender).standing → now sender ≡ before sender)

  -- of each of so many senders it is known how many messages are left
  abbrev pub AreMet : ℕ → (ℕ → About M) → Type 0
  AreMet senders about = (sender : ℕ) → 1 ≤ sender → sender ≤ senders → IsTrue (about sender).met

  -- how many messages of so many senders are left
  abbrev pub left_of_all : ℕ → (ℕ → About M) → ℕ
  left_of_all senders about = sum_by (λ sender. (about sender).left) (range_with_len 1 senders)

  -- how often messages are handed out at most where so many are left: each of them twice, and eight that are held
  abbrev pub most_of_left : ℕ → (ℕ → About M) → ℕ
  most_of_left senders about = 2 * (left_of_all senders about + 8)

  -- of no sender more messages are left than before, where it was known how many are
  abbrev pub NoMoreLeft : (ℕ → About M) → (ℕ → About M) → Type 0
  NoMoreLeft before now = (sender : ℕ) → IsTrue (before sender).met → (now sender).left ≤ (before sender).left
