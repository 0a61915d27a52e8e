-- What the words of this crate come to.
use Rattle.std.specs.Prelude.{◌≡◌, ◌≢◌, ℕ, ◌<◌, ◌≤◌, Bool, IsTrue, List, length, Option, Some, None, Ok, Err}
use Rattle.lattice_laws.specs.Counts.{Rose, one_more}
use Rattle.lattice_laws.specs.declared.lattice.NoMemory.{NoMemory}
use Rattle.mail_contract.specs.Got.{StayDue, missing}
use Rattle.mail_contract.specs.Scrambled.{IsFull}
use Rattle.mail_contract.specs.Standing.{About, Shown}
use Rattle.mail_contract.specs.Takes.{Answers, Counted, IsInTurn}
use Rattle.mail_contract.specs.declared.scramble.Held.{Held}

-- Each answer of a box is counted once, and under its own name.
pub record AnswersAreCounted : Type 0 where
  pub some : (sender message : ℕ) (before now : Answers) → Counted {E = NoMemory} (Ok (Some (sender, message))) before now
      → now ≡ record { nones = before.nones; somes = one_more before.somes }
  pub none : (before now : Answers) → Counted {M = ℕ} {E = NoMemory} (Ok None) before now → now ≡ record { nones = one_more before.nones; somes = before.somes }
  pub error : (error : NoMemory) (before now : Answers) → Counted {M = ℕ} (Err error) before now → now ≡ before

-- Where senders take turns, one comes twice in a row only where nothing is left of the others.
abbrev pub SendersTakeTurns : Type 0
SendersTakeTurns =
    (senders sender other : ℕ) (about : ℕ → About ℕ) → IsInTurn senders sender about sender → 1 ≤ other → other ≤ senders → other ≢ sender → (about other).left ≡ 0

-- A shown sender that was due still is, where as many of its messages are missing as before.
abbrev pub SendersStayDue : Type 0
SendersStayDue =
    (got got_now : ℕ → ℕ → Option ℕ) (about : ℕ → About ℕ) (due now : ℕ → Bool) (sender : ℕ) (sent : List ℕ) → StayDue got got_now about due now
    → (about sender).standing ≡ Shown sent → missing (got_now sender) sent ≡ missing (got sender) sent → IsTrue (due sender) → IsTrue (now sender)

-- A scramble that holds fewer than eight messages asked until its box found nothing.
abbrev pub ScramblesFill : Type 0
ScramblesFill = (filled : List (Held ℕ)) (before now : Answers) → IsFull filled before now → length filled < 8 → Rose before.nones now.nones
