-- What a weak box has handed out: at a sender's number and a place in what that one sent, a message.
use Rattle.std.specs.Prelude.{◌≡◌, ◌⊎◌, ℕ, ◌+◌, ◌<◌, ◌≤◌, Bool, IsTrue, List, length, slice_get, sum_by, Option, Some, None, Result, Ok, Err}
use Rattle.std.specs.List.{range_with_len}
use Rattle.mail_contract.specs.Standing.{About, Standing, OnShown, OfSent}
use Rattle.mail_contract.specs.Takes.{OnSome, from_sender}

module _ {M : Type 0} where
  -- what was handed out where messages come in order
  abbrev pub got_of : List (ℕ × M) → ℕ → ℕ → Option M
  got_of received sender place = slice_get (from_sender sender received) place

  -- the message stands at some place of its sender's, where it may have stood before, and all else is as it was
  pub record Added (sender : ℕ) (message : M) (before now : ℕ → ℕ → Option M) : Type 0 where
    pub place : ℕ
    pub here : now sender place ≡ Some message
    pub free : (before sender place ≡ None) ⊎ (before sender place ≡ Some message)
    pub others : (other i : ℕ) → ((other ≡ sender) × (i ≡ place) → ⊥) → now other i ≡ before other i

  abbrev pub HandedOut : {E : Type 0} → Result (Option (ℕ × M)) E → (ℕ → ℕ → Option M) → (ℕ → ℕ → Option M) → Type 0
  HandedOut (Ok (Some message)) before now = Added message.0 message.1 before now
  HandedOut (Ok None) before now = now ≡ before
  HandedOut (Err error) before now = now ≡ before

  -- each message that was handed out stands there in what was sent
  abbrev pub AreIn : (ℕ → Option M) → List M → Type 0
  AreIn got sent = (i : ℕ) (message : M) → got i ≡ Some message → slice_get sent i ≡ Some message

  -- and each that was sent was handed out
  abbrev pub AreAll : (ℕ → Option M) → List M → Type 0
  AreAll got sent = (i : ℕ) → i < length sent → got i ≡ slice_get sent i

  -- how many messages of what was sent are not handed out
  abbrev pub missing_one : Option M → ℕ
  missing_one None = 1
  missing_one (Some message) = 0

  abbrev pub missing : (ℕ → Option M) → List M → ℕ
  missing got sent = sum_by (λ i. missing_one (got i)) (range_with_len 0 (length sent))

  -- what was handed out of a sender was sent by it
  abbrev pub IsOfSent : Bool → (ℕ → ℕ → Option M) → (ℕ → About M) → ℕ → Type 0
  IsOfSent complete got about sender = OfSent complete (about sender).standing (AreIn (got sender))

  -- all that they sent was handed out
  abbrev pub AreAllOfSent : Bool → (ℕ → ℕ → Option M) → (ℕ → About M) → Type 0
  AreAllOfSent complete got about = (sender : ℕ) → OfSent complete (about sender).standing (AreAll (got sender))

  -- nothing was handed out of a shown sender but what it had sent when it was last beside the box
  abbrev pub IsOfShown : (ℕ → ℕ → Option M) → (ℕ → About M) → ℕ → Type 0
  IsOfShown got about sender = OnShown (about sender).standing (AreIn (got sender))

  -- of what a shown sender had sent when it was last beside the box a message came that was missing
  abbrev pub FewerMissing : (ℕ → Option M) → (ℕ → Option M) → Standing M → Type 0
  FewerMissing got got_now standing = OnShown standing (λ sent. missing got_now sent + 1 ≤ missing got sent)

  -- a sender stays due until such a message comes
  abbrev pub StayDue : (ℕ → ℕ → Option M) → (ℕ → ℕ → Option M) → (ℕ → About M) → (ℕ → Bool) → (ℕ → Bool) → Type 0
  StayDue got got_now about due now = (sender : ℕ) → IsTrue (due sender) → IsTrue (now sender) ⊎ FewerMissing (got sender) (got_now sender) (about sender).standing

  -- of those that are shown and due all was handed out that they had sent when they were last beside the box
  abbrev pub AreDueHandedOut : (ℕ → ℕ → Option M) → (ℕ → About M) → (ℕ → Bool) → Type 0
  AreDueHandedOut got about due = (sender : ℕ) → IsTrue (due sender) → OnShown (about sender).standing (AreAll (got sender))

-- what was handed out of each sender stays of what it sent, so far as the box tells that
abbrev pub StayOfSent : {G M : Type 0} → Bool → (G → ℕ → ℕ → Option M) → (G → ℕ → About M) → G → G → Type 0
StayOfSent complete got about before now = (sender : ℕ) → IsOfSent complete (got before) (about before) sender → IsOfSent complete (got now) (about now) sender

-- of a shown sender no message is handed out but those that it had sent when it was last beside the box
abbrev pub HandsOutShown : {M E : Type 0} → Result (Option (ℕ × M)) E → (ℕ → ℕ → Option M) → (ℕ → About M) → Type 0
HandsOutShown answer got about = OnSome answer (λ sender message. IsOfShown got about sender)
