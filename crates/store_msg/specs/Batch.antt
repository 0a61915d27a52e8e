-- Batches of gossip.
use Rattle.std.specs.Prelude.{◌≡◌, ℕ, ◌++◌, ◌∷◌, [], ◌<◌, List, length, Result, Ok, Err}
use Rattle.composed_value.specs.Cell.{PlainCell}

-- an entry is added at the end where fewer than 16 are there, and its cell comes back where 16 are
abbrev pub Added : {U : Type 0} → Result U PlainCell → ℕ → PlainCell → List (ℕ × PlainCell) → List (ℕ × PlainCell) → Type 0
Added (Ok done) key cell before now = (length before < 16) × (now ≡ before ++ (key, cell) ∷ [])
Added (Err back) key cell before now = (length before ≡ 16) × (back ≡ cell) × (now ≡ before)
