-- The maps of all workers: fewer than 2^16, each with a place for each key.
use Rattle.std.specs.Prelude.{◌≡◌, ℕ, ◌<◌, ◌^◌, All, List, length, Option}
use Rattle.merge_world.specs.declared.private_map.KeyCells.{KeyCells}

abbrev pub AreLong : ℕ → List (List (Option KeyCells)) → Type 0
AreLong keys maps = (length maps < 2 ^ 16) × All (λ map. length map ≡ keys) maps
