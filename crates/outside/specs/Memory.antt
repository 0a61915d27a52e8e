-- Ends over memory: which calls of theirs fail.
use Rattle.std.specs.Prelude.{ℕ, ◌+◌, ◌-◌, ◌^◌, min, nat_le, Bool, true, not, ◌||◌, if◌then◌else◌, List, ◌++◌, length, Contains, Option, Some, None, Result}
use Rattle.outside.specs.Outside.{faults_after}

-- the number of the next call, from 1, at most 2 ^ 32 - 1
abbrev pub next_call : ℕ → ℕ
next_call calls = min (calls + 1) (2 ^ 32 - 1)

-- bytes that are kept in a room of fixed size
pub record KeptBytes : Type 0 where
  pub bytes : List ℕ
  pub room : ℕ

-- a sink that never fails: the bytes that it keeps, whether there is a gap after them, and its room
pub record BoundedSink : Type 0 where
  pub kept : List ℕ
  pub gap : Bool
  pub room : ℕ

-- what it tells: all that was written, until there is a gap
abbrev pub written_of : BoundedSink → Option (List ℕ)
written_of sink = if sink.gap then None else Some sink.kept

-- The sink with one more piece: from the first that does not fit on there is a gap, and nothing more is kept.
abbrev pub with_piece : BoundedSink → List ℕ → BoundedSink
with_piece sink piece =
    if sink.gap || not (nat_le (length sink.kept + length piece) sink.room) then record sink { gap = true } else record sink { kept = sink.kept ++ piece }

-- the numbers of the calls that fail, how many calls there were, and how many faults
pub record Faults : Type 0 where
  pub failing : List ℕ
  pub calls : ℕ
  pub faults : ℕ

abbrev pub new_plan : List ℕ → Faults
new_plan failing = record { failing = failing; calls = 0; faults = 0 }

-- the next call is one of those that fail
abbrev pub FailsNext : Faults → Type 0
FailsNext plan = Contains plan.failing (next_call plan.calls)

-- the plan after one more call: it is counted, and a fault where it failed
abbrev pub after_call : {T E : Type 0} → Faults → Result T E → Faults
after_call plan result = record plan { calls = next_call plan.calls; faults = faults_after plan.faults result }

-- a source: the bytes that are left, and which of its calls fail
pub record FailingSource : Type 0 where
  pub left : List ℕ
  pub plan : Faults

-- how many bytes such a sink has room for
abbrev pub mem_sink_room : ℕ
mem_sink_room = 1048576

-- a sink: the bytes that were written, and which of its calls fail
pub record FailingSink : Type 0 where
  pub written : List ℕ
  pub plan : Faults
