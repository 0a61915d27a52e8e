-- What it is for a world to be settled, taken apart: by message, by worker that heard, by key and by worker that told.
use Rattle.std.specs.Prelude.{◌≡◌, ◌≢◌, ℕ, List, [], Contains, Some}
use Rattle.composed_value.specs.Cell.{PlainCell}
use Rattle.merge_world.specs.World.{PlainWorld, IsHeard, cells_of}
use Rattle.merge_world.specs.declared.private_map.KeyCells.{KeyCells}
use Rattle.merge_world.specs.declared.world.Message.{Message}

-- the worker heard this cell of the key
abbrev pub HasHeard : List Message → ℕ → ℕ → PlainCell → Type 0
HasHeard pool worker key cell = (message : Message) × Contains pool message × IsHeard worker key cell message

-- the worker heard this cell of the key, if it holds the key
abbrev pub IsHeardBy : PlainWorld → ℕ → PlainCell → ℕ → Type 0
IsHeardBy world key cell worker = (cells : KeyCells) → cells_of world worker key ≡ Some cells → HasHeard world.pool worker key cell

-- each other worker that holds the key heard this cell of it
abbrev pub AreHeardBy : PlainWorld → ℕ → ℕ → PlainCell → Type 0
AreHeardBy world worker key cell = (other : ℕ) → other ≢ worker → IsHeardBy world key cell other

-- what the worker took itself of the key was heard
abbrev pub IsKeyHeard : PlainWorld → ℕ → ℕ → Type 0
IsKeyHeard world worker key = (cells : KeyCells) → cells_of world worker key ≡ Some cells → cells.own.clock ≢ [] → AreHeardBy world worker key cells.own

-- what the worker took itself of each key was heard
abbrev pub IsWorkerHeard : PlainWorld → ℕ → Type 0
IsWorkerHeard world worker = (key : ℕ) → IsKeyHeard world worker key
