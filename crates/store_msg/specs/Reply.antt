-- Replies, and what they answer.
use Rattle.std.specs.Prelude.{◌≡◌, ℕ, Bool, true, false, List, if◌then◌else◌}
use Rattle.clock_lattice.specs.Clock.{covers}
use Rattle.composed_value.specs.Cell.{PlainCell}
use Rattle.store_msg.specs.declared.reply.Answered.{Answered}
use Rattle.store_msg.specs.declared.reply.Answered.TheVariants.{Found, Again}

-- a reply as plain data
pub record PlainReply : Type 0 where
  pub ask : ℕ
  pub worker : ℕ
  pub key : ℕ
  pub required : List (ℕ × ℕ)
  pub answered : Answered

abbrev pub is_found : Answered → Bool
is_found (Found cell) = true
is_found (Again clock) = false

-- the clock that an answer shows
abbrev pub shown_clock : Answered → List (ℕ × ℕ)
shown_clock (Found cell) = cell.clock
shown_clock (Again clock) = clock

-- a cell is found exactly where its clock covers what was required
abbrev pub IsAnswer : List (ℕ × ℕ) → Answered → Type 0
IsAnswer required answered = is_found answered ≡ covers (shown_clock answered) required

-- what a cell answers where this clock is required: itself, or its clock alone where that does not cover it
abbrev pub answer_of : PlainCell → List (ℕ × ℕ) → Answered
answer_of cell required = if covers cell.clock required then Found cell else Again cell.clock

-- the reply of a worker to an ask for a key, by its cell
abbrev pub reply_of : ℕ → ℕ → ℕ → List (ℕ × ℕ) → PlainCell → PlainReply
reply_of ask worker key required cell = record { ask = ask; worker = worker; key = key; required = required; answered = answer_of cell required }
