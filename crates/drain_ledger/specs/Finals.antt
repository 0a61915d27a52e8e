-- The final cells of workers.
use Rattle.std.specs.Prelude.{ℕ, ◌+◌, List, [], ◌∷◌, flat_map, length, map, slice_index_or, Option, Some, None}
use Rattle.std.specs.List.{range_with_len}
use Rattle.composed_value.specs.Cell.{PlainCell}
use Rattle.merge_world.specs.Effects.{cells_at}
use Rattle.merge_world.specs.declared.private_map.KeyCells.{KeyCells}
use Rattle.run_ledger.specs.Came.{final_of}
use Rattle.session_known.specs.declared.report.FinalCell.{FinalCell}
use Rattle.worker_core.specs.Sealed.{PlainSealed}

-- the private maps of sealed workers
abbrev pub maps_of : {Q G : Type 0} → List (PlainSealed Q G) → List (List (Option KeyCells))
maps_of workers = map (λ worker. worker.cells) workers

-- a cell of a key at a worker, as it is written down
abbrev pub written_down : ℕ → ℕ → PlainCell → FinalCell
written_down key worker cell = record { key = key; worker = worker; clock = cell.clock; top = cell.top; value = cell.value }

-- the final cell of a key at a worker, where the worker holds the key
abbrev pub final_where : ℕ → ℕ → Option KeyCells → List FinalCell
final_where key worker None = []
final_where key worker (Some cells) = final_of key worker cells ∷ []

-- the cells of a worker, by its number from 1
abbrev pub cells_of : List (List (Option KeyCells)) → ℕ → List (Option KeyCells)
cells_of maps worker = slice_index_or ([] ∷ maps) worker []

-- those of a key at each worker that holds it, ascending
abbrev pub finals_of_key : ℕ → List (List (Option KeyCells)) → List FinalCell
finals_of_key key maps = flat_map (λ worker. final_where key worker (cells_at (cells_of maps worker) key)) (range_with_len 1 (length maps))

-- by sealed workers: the final cell of a key at the one at a place, from 0, and at each
abbrev pub final_at : {Q G : Type 0} → ℕ → List (PlainSealed Q G) → ℕ → List FinalCell
final_at key workers place = final_where key (place + 1) (cells_at (slice_index_or (maps_of workers) place []) key)

abbrev pub finals_for : {Q G : Type 0} → ℕ → List (PlainSealed Q G) → List FinalCell
finals_for key workers = finals_of_key key (maps_of workers)

-- and so of so many keys, in order
abbrev pub finals_of : ℕ → List (List (Option KeyCells)) → List FinalCell
finals_of keys maps = flat_map (λ key. finals_of_key key maps) (range_with_len 1 keys)
