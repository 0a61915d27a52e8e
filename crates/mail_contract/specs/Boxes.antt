-- What a call does to a box, each in one word.
use Rattle.std.specs.Prelude.{◌≡◌, ◌⊎◌, ℕ, ◌+◌, ◌-◌, ◌≤◌, length, Bool, IsTrue, IsOk, List, Option, Result}
use Rattle.lattice_laws.specs.declared.lattice.NoMemory.{NoMemory}
use Rattle.mail_contract.specs.Got.{HandedOut, HandsOutShown, AreIn, StayOfSent, AreAllOfSent as AreAllGot, StayDue, AreDueHandedOut, missing}
use Rattle.mail_contract.specs.Parts.{Parts}
use Rattle.mail_contract.specs.Standing.{About, AllStand, AreMet, Learned, NoMoreLeft, OthersStay, Settled, StillAll, most_of_left}
use Rattle.mail_contract.specs.Takes.{Answers, OnSome, OnNone, Took, Counted, LeftFalls, IsFront, FrontsStay, AreAllOfSent, TakesShown, TakesInTurn, IsNothingLeft, from_sender}

-- what contracts see of a box, beside its key
pub record Box (M : Type 0) : Type 0 where
  pub received : List (ℕ × M)
  pub answers : Answers
  pub about : ℕ → About M

-- what a take of it does, by its answer
pub record Takes {M E : Type 0} (keeps : Parts) (senders : ℕ) (answer : Result (Option (ℕ × M)) E) (before now : Box M) : Type 0 where
  pub sender : OnSome answer (λ sender message. (1 ≤ sender) × (sender ≤ senders))
  pub received : Took answer before.received now.received
  pub answers : Counted answer before.answers now.answers
  pub standing : AllStand before.about now.about
  pub told : FrontsStay keeps.complete (λ (box : Box M). box.received) (λ (box : Box M). box.about) before now
  pub none : OnNone answer (AreAllOfSent keeps.complete now.received now.about)
  pub bounded : IsTrue keeps.bounded → TakesShown answer now.received now.about
  pub left : IsTrue keeps.finite → LeftFalls answer before.about now.about
  pub exact : IsTrue keeps.exact → OnNone answer (IsNothingLeft now.about)
  pub turns : IsTrue keeps.turns → TakesInTurn answer senders before.received now.about
  pub sure : IsTrue keeps.sure → IsOk answer

-- a box was asked once, or not at all
abbrev pub MayTake : {M : Type 0} → Parts → ℕ → Box M → Box M → Type 0
MayTake {M} keeps senders before now = (now ≡ before) ⊎ ((answer : Result (Option (ℕ × M)) NoMemory) × Takes keeps senders answer before now)

-- what contracts see of a weak box, beside its key
pub record WeakBox (M : Type 0) : Type 0 where
  pub got : ℕ → ℕ → Option M
  pub answers : Answers
  pub about : ℕ → About M
  pub due : ℕ → Bool
  pub most : ℕ

-- what a take of it does, by its answer
pub record HandsOut {M E : Type 0} (keeps : Parts) (senders : ℕ) (answer : Result (Option (ℕ × M)) E) (before now : WeakBox M) : Type 0 where
  pub sender : OnSome answer (λ sender message. (1 ≤ sender) × (sender ≤ senders))
  pub got : HandedOut answer before.got now.got
  pub answers : Counted answer before.answers now.answers
  pub standing : AllStand before.about now.about
  pub told : StayOfSent keeps.complete (λ (box : WeakBox M). box.got) (λ (box : WeakBox M). box.about) before now
  pub none : OnNone answer (AreAllGot keeps.complete now.got now.about)
  pub bounded : IsTrue keeps.bounded → HandsOutShown answer now.got now.about
  pub at_most_left : IsTrue keeps.bounded → IsTrue keeps.finite → LeftFalls answer before.about now.about
  pub left : IsTrue keeps.finite → NoMoreLeft before.about now.about
  pub most : IsTrue keeps.finite → AreMet senders before.about → now.most ≤ before.most
  pub falls : IsTrue keeps.finite → AreMet senders before.about → OnSome answer (λ sender message. now.most + 1 ≤ before.most)
  pub exact : IsTrue keeps.exact → OnNone answer (IsNothingLeft now.about)
  pub due : StayDue before.got now.got before.about before.due now.due
  pub advances : IsTrue keeps.advances → OnNone answer (AreDueHandedOut now.got now.about now.due)
  pub sure : IsTrue keeps.sure → IsOk answer

-- a weak box was asked once, or not at all
abbrev pub MayHandOut : {M : Type 0} → Parts → ℕ → WeakBox M → WeakBox M → Type 0
MayHandOut {M} keeps senders before now = (now ≡ before) ⊎ ((answer : Result (Option (ℕ × M)) NoMemory) × HandsOut keeps senders answer before now)

abbrev pub box_of : {Q M : Type 0} → (Q → List (ℕ × M)) → (Q → Answers) → (Q → ℕ → About M) → Q → Box M
box_of received answers about box = record { received = received box; answers = answers box; about = about box }

abbrev pub weak_box_of : {G M : Type 0} → (G → ℕ → ℕ → Option M) → (G → Answers) → (G → ℕ → About M) → (G → ℕ → Bool) → (G → ℕ) → G → WeakBox M
weak_box_of got answers about due most box = record { got = got box; answers = answers box; about = about box; due = due box; most = most box }

-- what it tells where a box finds nothing
pub record FindsNothing {M : Type 0} (keeps : Parts) (box : Box M) : Type 0 where
  pub none : AreAllOfSent keeps.complete box.received box.about
  pub exact : IsTrue keeps.exact → IsNothingLeft box.about

pub record FindsNothingWeak {M : Type 0} (keeps : Parts) (box : WeakBox M) : Type 0 where
  pub none : AreAllGot keeps.complete box.got box.about
  pub exact : IsTrue keeps.exact → IsNothingLeft box.about
  pub advances : IsTrue keeps.advances → AreDueHandedOut box.got box.about box.due

-- a sender that has ended is taken in
pub record Settles {M : Type 0} (keeps : Parts) (sender : ℕ) (sent : List M) (before now : Box M) : Type 0 where
  pub received : now.received ≡ before.received
  pub answers : now.answers ≡ before.answers
  pub others : OthersStay sender before.about now.about
  pub settled : (now.about sender).standing ≡ Settled sent
  pub met : IsTrue (now.about sender).met
  pub told : IsFront (from_sender sender before.received) sent
  pub left : IsTrue keeps.finite → (now.about sender).left ≡ length sent - length (from_sender sender before.received)

pub record SettlesWeak {M : Type 0} (keeps : Parts) (senders sender : ℕ) (sent : List M) (before now : WeakBox M) : Type 0 where
  pub got : now.got ≡ before.got
  pub answers : now.answers ≡ before.answers
  pub others : OthersStay sender before.about now.about
  pub settled : (now.about sender).standing ≡ Settled sent
  pub met : IsTrue (now.about sender).met
  pub told : AreIn (before.got sender) sent
  pub left : IsTrue keeps.finite → (now.about sender).left ≤ missing (before.got sender) sent
  pub most : IsTrue keeps.finite → now.most ≤ most_of_left senders now.about
  pub still_due : StillAll before.due now.due

-- a sender is held beside the weak box
pub record ShowsWeak {M : Type 0} (keeps : Parts) (senders sender : ℕ) (sent : List M) (before now : WeakBox M) : Type 0 where
  pub got : now.got ≡ before.got
  pub answers : now.answers ≡ before.answers
  pub learned : Learned keeps sender sent before.about now.about
  pub most : IsTrue keeps.finite → now.most ≤ most_of_left senders now.about
  pub due : IsTrue (now.due sender)
  pub still_due : StillAll before.due now.due
  pub told : IsTrue keeps.complete → AreIn (before.got sender) sent

-- a sender is held beside the box
pub record Shows {M : Type 0} (keeps : Parts) (sender : ℕ) (sent : List M) (before now : Box M) : Type 0 where
  pub received : now.received ≡ before.received
  pub answers : now.answers ≡ before.answers
  pub learned : Learned keeps sender sent before.about now.about
  pub told : IsTrue keeps.complete → IsFront (from_sender sender before.received) sent
