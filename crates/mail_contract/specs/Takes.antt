-- What a take answers.
use Rattle.std.specs.Prelude.{◌≡◌, ◌≢◌, ◌⊎◌, ℕ, ◌+◌, ◌<◌, ◌≤◌, ◌==◌, if◌then◌else◌, Bool, IsTrue, List, [], ◌∷◌, ◌++◌, length, map, take, slice_index_or, Option, Some, None, Result, Ok, Err, ⊤}
use Rattle.lattice_laws.specs.Counts.{one_more}
use Rattle.mail_contract.specs.Standing.{About, OnShown, OfSent}

-- how often a box answered, each counted up to the greatest number of a `u64`
pub record Answers : Type 0 where
  pub nones : ℕ
  pub somes : ℕ

-- one list is the front of another
abbrev pub IsFront : {M : Type 0} → List M → List M → Type 0
IsFront front whole = take (length front) whole ≡ front

-- what a list of messages has of one sender, in order
abbrev pub from_sender : {M : Type 0} → ℕ → List (ℕ × M) → List M
from_sender sender [] = []
from_sender sender (message ∷ messages) = if message.0 == sender then message.1 ∷ from_sender sender messages else from_sender sender messages

module _ {M E : Type 0} where
  -- by the answer
  abbrev pub OnSome : Result (Option (ℕ × M)) E → (ℕ → M → Type 0) → Type 0
  OnSome (Ok (Some message)) holds = holds message.0 message.1
  OnSome result holds = ⊤

  abbrev pub OnNone : Result (Option (ℕ × M)) E → Type 0 → Type 0
  OnNone (Ok None) holds = holds
  OnNone result holds = ⊤

  -- what was received before and after
  abbrev pub Took : Result (Option (ℕ × M)) E → List (ℕ × M) → List (ℕ × M) → Type 0
  Took (Ok (Some message)) before now = now ≡ before ++ message ∷ []
  Took (Ok None) before now = now ≡ before
  Took (Err error) before now = now ≡ before

  -- one count rises, that of the answer, and by one
  abbrev pub Counted : Result (Option (ℕ × M)) E → Answers → Answers → Type 0
  Counted (Ok (Some message)) before now = (now.nones ≡ before.nones) × (before.somes ≤ now.somes) × (now.somes ≡ one_more before.somes)
  Counted (Ok None) before now = (before.nones ≤ now.nones) × (now.nones ≡ one_more before.nones) × (now.somes ≡ before.somes)
  Counted (Err error) before now = now ≡ before

  -- a message that is taken is one less that its sender has left, where that is known
  abbrev pub LeftFalls : Result (Option (ℕ × M)) E → (ℕ → About M) → (ℕ → About M) → Type 0
  LeftFalls (Ok (Some message)) before now =
      (IsTrue (before message.0).met → (now message.0).left + 1 ≡ (before message.0).left)
      × ((other : ℕ) → other ≢ message.0 → (now other).left ≡ (before other).left)
  LeftFalls (Ok None) before now = (sender : ℕ) → (now sender).left ≡ (before sender).left
  LeftFalls (Err error) before now = (sender : ℕ) → (now sender).left ≡ (before sender).left

-- nothing is left of any sender
abbrev pub IsNothingLeft : {M : Type 0} → (ℕ → About M) → Type 0
IsNothingLeft about = (sender : ℕ) → (about sender).left ≡ 0

module _ {M : Type 0} where
  -- what was received of a sender is the front of what it sent
  abbrev pub IsFrontOfSent : Bool → List (ℕ × M) → (ℕ → About M) → ℕ → Type 0
  IsFrontOfSent complete received about sender = OfSent complete (about sender).standing (λ sent. IsFront (from_sender sender received) sent)

  -- it is all of it
  abbrev pub AreAllOfSent : Bool → List (ℕ × M) → (ℕ → About M) → Type 0
  AreAllOfSent complete received about = (sender : ℕ) → OfSent complete (about sender).standing (λ sent. from_sender sender received ≡ sent)

  -- nothing was received of a shown sender but what it had sent when it was last beside the box
  abbrev pub IsOfShown : List (ℕ × M) → (ℕ → About M) → ℕ → Type 0
  IsOfShown received about sender = OnShown (about sender).standing (λ sent. IsFront (from_sender sender received) sent)

-- what was received of each sender stays the front of what it sent, so far as the box tells that
abbrev pub FrontsStay : {Q M : Type 0} → Bool → (Q → List (ℕ × M)) → (Q → ℕ → About M) → Q → Q → Type 0
FrontsStay complete received about before now =
    (sender : ℕ) → IsFrontOfSent complete (received before) (about before) sender → IsFrontOfSent complete (received now) (about now) sender

-- after the turn of the last, 0 where there was none, the turn of one comes before that of another; turns go up, and begin again
abbrev pub ComesBefore : ℕ → ℕ → ℕ → Type 0
ComesBefore last one other = ((last < one) × (one < other)) ⊎ ((other ≤ last) × ((last < one) ⊎ (one < other)))

-- the sender of the last message, 0 where there is none
abbrev pub last_sender : {M : Type 0} → List (ℕ × M) → ℕ
last_sender messages = slice_index_or (0 ∷ map (λ message. message.0) messages) (length messages) 0

-- of each other sender whose turn came before, nothing is left
abbrev pub IsInTurn : {M : Type 0} → ℕ → ℕ → (ℕ → About M) → ℕ → Type 0
IsInTurn senders last about sender = (other : ℕ) → 1 ≤ other → other ≤ senders → ComesBefore last other sender → (about other).left ≡ 0

module _ {M E : Type 0} where
  -- of a shown sender no message is taken but those that it had sent when it was last beside the box
  abbrev pub TakesShown : Result (Option (ℕ × M)) E → List (ℕ × M) → (ℕ → About M) → Type 0
  TakesShown answer received about = OnSome answer (λ sender message. IsOfShown received about sender)

  -- a message is taken only in the turn of its sender, after what was received before
  abbrev pub TakesInTurn : Result (Option (ℕ × M)) E → ℕ → List (ℕ × M) → (ℕ → About M) → Type 0
  TakesInTurn answer senders received about = OnSome answer (λ sender message. IsInTurn senders (last_sender received) about sender)
