-- Cells: which puts are counted, their causal dependencies, the greatest Lamport number, and the value.
use Rattle.std.specs.Prelude.{◌≡◌, ℕ, ◌<◌, ◌^◌, max, List, [], map}
use Rattle.lattice_laws.specs.Joins.{joined_all}
use Rattle.clock_lattice.specs.Clock.{IsClock, joined_clocks, one_count}
use Rattle.clock_lattice.specs.Needs.{IsNeeds, joined_needs}
use Rattle.composed_value.specs.Kind.{kind_of_value}
use Rattle.composed_value.specs.Put.{value_of_put}
use Rattle.composed_value.specs.Value.{IsValue, empty_value, joined_values}
use Rattle.composed_value.specs.declared.kind.Kind.{Kind}
use Rattle.composed_value.specs.declared.put.Put.{Put}
use Rattle.composed_value.specs.declared.value.Value.{Value}

-- a cell as plain data
pub record PlainCell : Type 0 where
  pub clock : List (ℕ × ℕ)
  pub needs : List (ℕ × List (ℕ × ℕ))
  pub top : ℕ
  pub value : Value

-- a cell that there can be
pub record IsCell (cell : PlainCell) : Type 0 where
  pub clock_is : IsClock cell.clock
  pub needs_are : IsNeeds cell.needs
  pub top_fits : cell.top < 2 ^ 64
  pub value_is : IsValue cell.value

-- two cells are of one kind
abbrev pub AreOfOneKind : PlainCell → PlainCell → Type 0
AreOfOneKind a b = kind_of_value a.value ≡ kind_of_value b.value

-- the join of two cells of one kind: each part joined
abbrev pub joined_cells : PlainCell → PlainCell → PlainCell
joined_cells a b = record {
  clock = joined_clocks a.clock b.clock;
  needs = joined_needs a.needs b.needs;
  top = max a.top b.top;
  value = joined_values a.value b.value;
}

-- the cell of no puts
abbrev pub empty_cell : Kind → PlainCell
empty_cell kind = record { clock = []; needs = []; top = 0; value = empty_value kind }

-- the cell of one put, which counts as many puts of its session as its number says
abbrev pub one_put_cell : Put → PlainCell
one_put_cell put = record { clock = one_count put.session put.number; needs = put.needs; top = put.lamport; value = value_of_put put }

-- The cell of a list of puts of one kind: the join of their one-put cells.
abbrev pub cell_of : Kind → List Put → PlainCell
cell_of kind puts = joined_all joined_cells (empty_cell kind) (map one_put_cell puts)
