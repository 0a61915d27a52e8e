-- A cell as it is read: what answers and final cells share.
use Rattle.std.specs.Prelude.{ℕ, ◌<◌, ◌^◌, List, [], ◌∷◌, codes, Option}
use Rattle.composed_value.specs.Keyed.{kind_at}
use Rattle.composed_value.specs.declared.kind.Kind.{Kind}
use Rattle.session_known.specs.Form.{IsClockIn, IsValueIn}
use Rattle.session_known.specs.declared.script.Script.{Script}
use Rattle.report_lines.specs.Text.{cell_words}
use Rattle.report_reader.specs.Reads.{Reads}
use Rattle.report_reader.specs.declared.cells.Cell.{Cell}

-- a cell of the kind in form
pub record IsCellIn (script : Script) (kind : Kind) (cell : Cell) : Type 0 where
  pub clock_is : IsClockIn script cell.clock
  pub top_fits : cell.top < 2 ^ 64
  pub value_is : IsValueIn script kind cell.value

-- a cell whose clock, top and value are these words
abbrev pub parts_of_cell : List ℕ → List ℕ → List ℕ → List (List ℕ)
parts_of_cell clock top value = codes "clock" ∷ clock ∷ codes "top" ∷ top ∷ codes "value" ∷ value ∷ []

-- a cell of the key was read
abbrev pub ReadsCell : Script → ℕ → List (List ℕ) → Option Cell → Type 0
ReadsCell script key words read = Reads (IsCellIn script (kind_at script.kinds key)) (λ cell. cell_words script cell.clock cell.top cell.value []) words read
