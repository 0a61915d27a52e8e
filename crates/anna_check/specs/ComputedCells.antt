-- Cells by key and worker: what a call asks of them and answers.
use Rattle.std.specs.Prelude.{◌≡◌, ◌↔◌, ℕ, ◌-◌, Bool, IsTrue, List, [], length, map, replicate, slice_index_or, Result, IfOk}
use Rattle.lattice_laws.specs.declared.lattice.NoMemory.{NoMemory}
use Rattle.composed_value.specs.Cell.{PlainCell, empty_cell, cell_of}
use Rattle.composed_value.specs.Sound.{counted}
use Rattle.composed_value.specs.declared.kind.Kind.{Kind}
use Rattle.composed_value.specs.declared.put.Put.{Put}
use Rattle.composed_value.specs.Keyed.{puts_on, kind_at}
use Rattle.session_known.specs.Accepted.{made_on, AreNext}
use Rattle.session_known.specs.Lawful.{IsSoundReply}
use Rattle.session_known.specs.Legal.{IsLawfulFinal}
use Rattle.placement.specs.Config.{IsOneOf}
use Rattle.session_known.specs.declared.report.FinalCell.{FinalCell}
use Rattle.session_known.specs.declared.report.Shown.{Shown}
use Rattle.anna_check.specs.Counted.{AreOfTheirPuts, with_cell}

-- there is a cell of the key at the worker
abbrev pub HasCellAt : List (List PlainCell) → ℕ → ℕ → Type 0
HasCellAt cells key worker = IsOneOf (length (slice_index_or cells (key - 1) [])) worker

-- the empty cells of keys of these kinds, at so many workers
abbrev pub no_cells : ℕ → List Kind → List (List PlainCell)
no_cells workers kinds = map (λ kind. replicate workers (empty_cell kind)) kinds

-- the cells with that of the puts that a clock counts for the key at the worker
abbrev pub with_counted : List (List PlainCell) → ℕ → ℕ → Kind → List Put → List (ℕ × ℕ) → List (List PlainCell)
with_counted cells key worker kind puts clock = with_cell cells key worker (cell_of kind (counted puts clock))

-- the puts of each session on each key are numbered one by one
abbrev pub AreAllNext : List (ℕ × Put) → Type 0
AreAllNext accepted = (session key : ℕ) → AreNext 0 (made_on session key accepted)

-- cells that were made are those of the accepted puts that their clocks count
abbrev pub StartOfTheirPuts : List Kind → ℕ → Result (List (List PlainCell)) NoMemory → Type 0
StartOfTheirPuts kinds workers result =
    (accepted : List (ℕ × Put)) → AreAllNext accepted → IfOk result (AreOfTheirPuts kinds workers accepted)

-- and so they stay, where these are the accepted puts on the key, of its kind
abbrev pub StayOfTheirPuts : Kind → List Put → ℕ → List (List PlainCell) → List (List PlainCell) → Type 0
StayOfTheirPuts kind puts key cells after =
    (kinds : List Kind) (workers : ℕ) (accepted : List (ℕ × Put)) → kind ≡ kind_at kinds key → puts ≡ puts_on key accepted
    → AreOfTheirPuts kinds workers accepted cells → AreOfTheirPuts kinds workers accepted after

-- what is answered holds of the kinds and the accepted puts of which these are those on the key, numbered one by one
abbrev IsAnsweredOf : Kind → List Put → ℕ → Result Bool NoMemory → (List Kind → List (ℕ × Put) → Type 0) → Type 0
IsAnsweredOf kind puts key result holds =
    (kinds : List Kind) (accepted : List (ℕ × Put)) → kind ≡ kind_at kinds key → puts ≡ puts_on key accepted
    → ((session : ℕ) → AreNext 0 (made_on session key accepted)) → IfOk result (λ yes. IsTrue yes ↔ holds kinds accepted)

-- whether a reply is sound
abbrev pub TellsReplySound : Kind → List Put → ℕ → Shown → Result Bool NoMemory → Type 0
TellsReplySound kind puts key shown result = IsAnsweredOf kind puts key result (λ kinds accepted. IsSoundReply kinds accepted key shown)

-- whether a final cell is lawful
abbrev pub TellsFinalLawful : Kind → List Put → FinalCell → Result Bool NoMemory → Type 0
TellsFinalLawful kind puts last result = IsAnsweredOf kind puts last.key result (λ kinds accepted. IsLawfulFinal kinds accepted last)
