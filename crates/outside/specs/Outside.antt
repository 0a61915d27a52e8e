-- What passes through the ends of a program: bytes taken, bytes written, and faults.
use Rattle.std.specs.Prelude.{◌≡◌, ℕ, ◌<◌, ◌≤◌, ◌↔◌, ◌⊎◌, List, [], ◌++◌, take, length, Option, Some, None, Result, Ok, Err, OnErr, ⊤}
use Rattle.lattice_laws.specs.Counts.{one_more, Rose}
use Rattle.outside.specs.declared.Failed.{Failed}

-- a count of faults after a call that counts one fault where it failed, and else none
abbrev pub faults_after : {T E : Type 0} → ℕ → Result T E → ℕ
faults_after faults (Ok done) = faults
faults_after faults (Err failed) = one_more faults

-- The count has not fallen, and where the call failed it rose.
abbrev pub HasCause : {T E : Type 0} → ℕ → ℕ → Result T E → Type 0
HasCause before now result = (before ≤ now) × OnErr result (Rose before now)

-- What was left is these bytes, and then what is left now, where the source tells its bytes.
abbrev pub Took : Option (List ℕ) → Option (List ℕ) → List ℕ → Type 0
Took (Some before) (Some now) bytes = before ≡ bytes ++ now
Took None None bytes = ⊤
Took (Some before) None bytes = ⊥
Took None (Some now) bytes = ⊥

-- No byte is left, where the source tells its bytes.
abbrev pub NoneLeft : Option (List ℕ) → Type 0
NoneLeft (Some left) = left ≡ []
NoneLeft None = ⊤

-- One call of take: Ok n moved the next n bytes to the front of into, and n is 0 exactly where none was left; a failed call took nothing.
abbrev pub Takes : Option (List ℕ) → Option (List ℕ) → Result ℕ Failed → List ℕ → Type 0
Takes (Some before) (Some now) (Ok n) into = (before ≡ take n into ++ now) × ((n ≡ 0) ↔ (before ≡ []))
Takes (Some before) (Some now) (Err failed) into = now ≡ before
Takes None None result into = ⊤
Takes (Some before) None result into = ⊥
Takes None (Some now) result into = ⊥

-- What is written is what was, and then these bytes, where the sink tells its bytes. It may stop telling them.
abbrev pub Grew : Option (List ℕ) → Option (List ℕ) → List ℕ → Type 0
Grew (Some before) (Some now) bytes = now ≡ before ++ bytes
Grew before None bytes = ⊤
Grew None (Some now) bytes = ⊥

-- The bytes that read_all took, at most `most`: all that was left, or the first `most` of it.
pub record TookMost (most : ℕ) (before now : Option (List ℕ)) (bytes : List ℕ) : Type 0 where
  pub bound : length bytes ≤ most
  pub taken : Took before now bytes
  pub whole : length bytes < most → NoneLeft now

-- Some bytes were taken, at most so many.
abbrev pub TookSome : ℕ → Option (List ℕ) → Option (List ℕ) → Type 0
TookSome most before now = (bytes : List ℕ) × (length bytes ≤ most) × Took before now bytes

-- A front of the text was written.
abbrev pub GrewByFront : Option (List ℕ) → Option (List ℕ) → List ℕ → Type 0
GrewByFront before now text = (n : ℕ) × (n ≤ length text) × Grew before now (take n text)

-- How writing a text ends: with this status where the text was written whole, and else with that of a write fault, where
-- the sink's count of faults rose and a front of the text was written.
abbrev pub Writes : {Status : Type 0} → Status → Type 0 → Option (List ℕ) → Option (List ℕ) → Status → List ℕ → Status → Type 0
Writes write_fault sink_rose before now status text answer =
    ((answer ≡ status) × Grew before now text)
    ⊎ ((answer ≡ write_fault) × sink_rose × GrewByFront before now text)

-- How a program ends, where Owed says which status goes with which text: it wrote a text that is owed, and ends as writing
-- that text ends.
abbrev pub Ends : {Status : Type 0} → Status → (Status → List ℕ → Type 0) → Type 0 → Option (List ℕ) → Option (List ℕ) → Status → Type 0
Ends {Status} write_fault Owed sink_rose before now answer =
    (status : Status) × (text : List ℕ) × Owed status text × Writes write_fault sink_rose before now status text answer

-- how many bytes of a text are gathered before they are given to a sink
abbrev pub block_size : ℕ
block_size = 16384
