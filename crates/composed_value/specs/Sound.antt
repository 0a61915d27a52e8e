-- When a cell is sound: it holds exactly the puts that its clock counts.
use Rattle.std.specs.Prelude.{◌≢◌, ℕ, ◌≤◌, Bool, leb, List, length, map, filter, All, AllPairs}
use Rattle.lattice_laws.specs.Greatest.{IsGreatestOrZero}
use Rattle.clock_lattice.specs.Clock.{count_of}
use Rattle.clock_lattice.specs.Needs.{clock_at}
use Rattle.composed_value.specs.Cell.{PlainCell}
use Rattle.composed_value.specs.PlainValue.{IsPutOf, IsValueOf, puts_of_session}
use Rattle.composed_value.specs.declared.kind.Kind.{Kind}
use Rattle.composed_value.specs.declared.put.Put.{Put}
use Rattle.composed_value.specs.declared.value.Value.{Value}

-- a clock counts a put whose number is at most the count of its session
abbrev pub is_counted : List (ℕ × ℕ) → Put → Bool
is_counted clock put = leb put.number (count_of put.session clock)

-- the puts that a clock counts
abbrev pub counted : List Put → List (ℕ × ℕ) → List Put
counted puts clock = filter (is_counted clock) puts

-- A cell is sound for the accepted puts on its key: its clock counts no more puts of a session than were accepted, its value is
-- the plain value of those that it counts, and its top is their greatest Lamport number, 0 for none.
pub record IsSound (kind : Kind) (puts : List Put) (clock : List (ℕ × ℕ)) (top : ℕ) (value : Value) : Type 0 where
  pub counts : (session : ℕ) → count_of session clock ≤ length (puts_of_session session puts)
  pub value_is : IsValueOf kind (counted puts clock) value
  pub top_is : IsGreatestOrZero (map (λ put. put.lamport) (counted puts clock)) top

-- Its needs are sound too: for each key and session the greatest count in the needs of the puts that its clock counts.
abbrev pub AreSoundNeeds : List Put → List (ℕ × ℕ) → List (ℕ × List (ℕ × ℕ)) → Type 0
AreSoundNeeds puts clock needs =
    (needed session : ℕ) → IsGreatestOrZero (map (λ put. count_of session (clock_at needed put.needs)) (counted puts clock)) (count_of session (clock_at needed needs))

-- a cell all of whose parts are sound
pub record IsSoundCell (kind : Kind) (puts : List Put) (cell : PlainCell) : Type 0 where
  pub shown : IsSound kind puts cell.clock cell.top cell.value
  pub needs : AreSoundNeeds puts cell.clock cell.needs

-- puts with the numbers 1, 2 and so on, each once, in any order
pub record AreNumbered (puts : List Put) : Type 0 where
  pub different : AllPairs (λ put other. put.number ≢ other.number) puts
  pub within : All (λ put. (1 ≤ put.number) × (put.number ≤ length puts)) puts

-- Accepted puts on a key: each of the key's kind, and those of each session numbered 1, 2 and so on, each once.
pub record AreAccepted (kind : Kind) (puts : List Put) : Type 0 where
  pub of_kind : All (IsPutOf kind) puts
  pub numbered : (session : ℕ) → AreNumbered (puts_of_session session puts)
