-- The box of one sender, and boxes of several senders that are made of these.
use Rattle.std.specs.Prelude.{◌≡◌, ℕ, ◌+◌, ◌-◌, ◌<◌, ◌≤◌, ◌==◌, if◌then◌else◌, Bool, true, false, IsTrue, List, [], ◌∷◌, ◌++◌, length, map, take, drop, slice_index_or, slice_set, Option, Some, None, Result, Ok, Err, ⊤}
use Rattle.mail_contract.specs.Parts.{Parts}
use Rattle.mail_contract.specs.Standing.{Standing, Apart, Shown, Settled, About, OnShown, OfSent}
use Rattle.mail_contract.specs.Takes.{IsFront}

-- what was taken of a sender, and what is known of it
pub record Lane (M : Type 0) : Type 0 where
  pub taken : List M
  pub standing : Standing M
  pub met : Bool
  pub left : ℕ

-- how often a number stands in a list
abbrev pub count : ℕ → List ℕ → ℕ
count number [] = 0
count number (head ∷ rest) = if head == number then count number rest + 1 else count number rest

module _ {M : Type 0} where
  -- a lane of which nothing was taken, and nothing is left
  abbrev pub nothing : Lane M
  nothing = record { taken = []; standing = Apart; met = true; left = 0 }

  -- once its next message is taken
  abbrev pub with_taken : M → Lane M → Lane M
  with_taken message lane = record lane { taken = lane.taken ++ message ∷ []; left = lane.left - 1 }

  -- once its sender is taken in
  abbrev pub with_sender : List M → Lane M → Lane M
  with_sender sent lane = record { taken = lane.taken; standing = Settled sent; met = true; left = length sent - length lane.taken }

  -- once its sender is no longer beside it
  abbrev pub told_apart : Standing M → Lane M → Lane M
  told_apart Apart lane = lane
  told_apart (Shown sent) lane = record { taken = lane.taken; standing = Apart; met = false; left = 0 }
  told_apart (Settled sent) lane = lane

  abbrev pub lane_apart : Lane M → Lane M
  lane_apart lane = told_apart lane.standing lane

  -- what is known of a lane's sender
  abbrev pub about_lane : Lane M → About M
  about_lane lane = record { standing = lane.standing; met = lane.met; left = lane.left }

  -- a lane of which nothing is found to take
  pub record IsDry (keeps : Parts) (lane : Lane M) : Type 0 where
    pub all : OfSent keeps.complete lane.standing (λ sent. lane.taken ≡ sent)
    pub exact : IsTrue keeps.exact → lane.left ≡ 0

  -- a lane before and after a message is taken
  pub record IsGiven (keeps : Parts) (before now : Lane M) : Type 0 where
    pub told : OfSent keeps.complete now.standing (IsFront now.taken)
    pub bounded : IsTrue keeps.bounded → OnShown now.standing (IsFront now.taken)
    pub some : IsTrue keeps.finite → IsTrue before.met → 1 ≤ before.left

  module _ {E : Type 0} where
    -- a lane before and after a draw
    abbrev pub Drew : Result (Option M) E → Lane M → Lane M → Type 0
    Drew (Ok (Some message)) before now = now ≡ with_taken message before
    Drew (Ok None) before now = now ≡ before
    Drew (Err error) before now = now ≡ before

    abbrev pub OnDrawn : Result (Option M) E → Type 0 → Type 0
    OnDrawn (Ok (Some message)) holds = holds
    OnDrawn result holds = ⊤

    abbrev pub OnDry : Result (Option M) E → Type 0 → Type 0
    OnDry (Ok None) holds = holds
    OnDry result holds = ⊤

  -- the lane at a place, from 0
  abbrev pub at_place : List (Lane M) → ℕ → Lane M
  at_place lanes i = slice_index_or lanes i nothing

  -- the lane of a sender, from 1
  abbrev pub of_sender : List (Lane M) → ℕ → Lane M
  of_sender lanes sender = slice_index_or (nothing ∷ lanes) sender nothing

  -- the messages of several senders in the order in which they were taken, where `taken` has those of each
  abbrev pub woven : List ℕ → (ℕ → List M) → List (ℕ × M)
  woven [] taken = []
  woven (sender ∷ senders) taken =
      map (λ message. (sender, message)) (take 1 (taken sender)) ++ woven senders (λ other. if other == sender then drop 1 (taken other) else taken other)

  -- where the order has the sender of each message that was taken of the lanes
  abbrev pub AreCounted : List ℕ → List (Lane M) → Type 0
  AreCounted order lanes = (sender : ℕ) → length (of_sender lanes sender).taken ≡ count sender order

  -- what was taken of them
  abbrev pub received_of : List ℕ → List (Lane M) → List (ℕ × M)
  received_of order lanes = woven order (λ sender. (of_sender lanes sender).taken)

  -- what is known of their senders
  abbrev pub about_of : List (Lane M) → ℕ → About M
  about_of lanes sender = about_lane (of_sender lanes sender)

  module _ {E : Type 0} where
    -- lanes before and after one of them, at the place of the answer, gave a message
    abbrev pub Scanned : Result (Option (ℕ × M)) E → List (Lane M) → List (Lane M) → Type 0
    Scanned (Ok (Some found)) before now = (found.0 < length before) × (now ≡ slice_set before found.0 (with_taken found.1 (at_place before found.0)))
    Scanned (Ok None) before now = now ≡ before
    Scanned (Err error) before now = now ≡ before

-- the lane of a number and a sender of that number are of one making
abbrev pub IsLaneOf : {A B : Type 0} → (A → B → Type 0) → List A → B → ℕ → Type 0
IsLaneOf {A} pairs lanes sender number =
    (1 ≤ number) × (number ≤ length lanes) × ((lane : A) → slice_index_or lanes (number - 1) lane ≡ lane → pairs lane sender)
