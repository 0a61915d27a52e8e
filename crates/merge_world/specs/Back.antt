-- Whole cells that are put back.
use Rattle.std.specs.Prelude.{ℕ, List, [], ◌∷◌, option_map, Option, Some, None}
use Rattle.composed_value.specs.Cell.{PlainCell}
use Rattle.merge_world.specs.Effects.{changed_at}
use Rattle.merge_world.specs.declared.private_map.KeyCells.{KeyCells}

abbrev pub with_whole : PlainCell → KeyCells → KeyCells
with_whole whole cells = record { own = cells.own; whole = whole }

-- the whole cell that was there of a key, and nothing where it is not held
abbrev pub with_back : ℕ → Option PlainCell → List (Option KeyCells) → List (Option KeyCells)
with_back key None map = map
with_back key (Some whole) map = changed_at key (option_map (with_whole whole)) map

-- those of some keys, the last one first
abbrev pub with_all_back : List (ℕ × PlainCell) → List (Option KeyCells) → List (Option KeyCells)
with_all_back [] map = map
with_all_back (entry ∷ entries) map = with_back entry.0 (Some entry.1) (with_all_back entries map)
