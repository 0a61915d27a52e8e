-- Which puts a clock counts.
use Rattle.std.specs.Prelude.{◌≡◌, ℕ, ◌-◌, Bool, not, ◌&&◌, List, [], length, slice_index_or, slice_set, Option, Some, None, All, ⊤}
use Rattle.composed_value.specs.Cell.{PlainCell, empty_cell, cell_of}
use Rattle.composed_value.specs.Sound.{is_counted, counted}
use Rattle.composed_value.specs.declared.kind.Kind.{Kind}
use Rattle.composed_value.specs.declared.kind.Kind.TheVariants.{Max}
use Rattle.composed_value.specs.declared.put.Put.{Put}
use Rattle.composed_value.specs.Keyed.{puts_on, kind_at}
use Rattle.placement.specs.Config.{IsOneOf}
use Rattle.session_known.specs.declared.report.FinalCell.{FinalCell}
use Rattle.session_known.specs.declared.report.Shown.{Shown}

-- the put is counted by the clock, and not by the one before
abbrev pub is_newly_counted : List (ℕ × ℕ) → List (ℕ × ℕ) → Put → Bool
is_newly_counted before clock put = not (is_counted before put) && is_counted clock put

-- the needs are those that are shown, where any are
abbrev pub AreNeedsShown : List (ℕ × List (ℕ × ℕ)) → Option (List (ℕ × List (ℕ × ℕ))) → Type 0
AreNeedsShown needs None = ⊤
AreNeedsShown needs (Some shown) = needs ≡ shown

-- what is shown is the clock, the top and the value of the cell, and its needs where any are shown
pub record IsCellShown (cell : PlainCell) (shown : Shown) : Type 0 where
  pub clock_is : cell.clock ≡ shown.clock
  pub top_is : cell.top ≡ shown.top
  pub value_is : cell.value ≡ shown.value
  pub needs_are : AreNeedsShown cell.needs shown.needs

-- the final cell has the clock, the top and the value of the cell
pub record IsCellFinal (cell : PlainCell) (last : FinalCell) : Type 0 where
  pub clock_is : cell.clock ≡ last.clock
  pub top_is : cell.top ≡ last.top
  pub value_is : cell.value ≡ last.value

-- the cell is that of those of the puts that its clock counts
abbrev pub IsOfItsPuts : Kind → List Put → PlainCell → Type 0
IsOfItsPuts kind puts cell = cell ≡ cell_of kind (counted puts cell.clock)

-- of cells by key and worker that of this key at this worker
abbrev pub cell_at : List (List PlainCell) → ℕ → ℕ → PlainCell
cell_at cells key worker = slice_index_or (slice_index_or cells (key - 1) []) (worker - 1) (empty_cell Max)

-- the cells with this one for the key at the worker
abbrev pub with_cell : List (List PlainCell) → ℕ → ℕ → PlainCell → List (List PlainCell)
with_cell cells key worker cell = slice_set cells (key - 1) (slice_set (slice_index_or cells (key - 1) []) (worker - 1) cell)

-- for each key and worker there is a cell, and it is that of those of the accepted puts on the key that its clock counts
pub record AreOfTheirPuts (kinds : List Kind) (workers : ℕ) (accepted : List (ℕ × Put)) (cells : List (List PlainCell)) : Type 0 where
  pub keys : length cells ≡ length kinds
  pub at_workers : All (λ at. length at ≡ workers) cells
  pub each : (key worker : ℕ) → IsOneOf (length kinds) key → IsOneOf workers worker → IsOfItsPuts (kind_at kinds key) (puts_on key accepted) (cell_at cells key worker)
