use Rattle.composed_value.proofs.CellOfLemmas.{cell_of_is_single}
use Rattle.composed_value.proofs.PlainValueLemmas.{value_is_single}
use Rattle.composed_value.proofs.laws.cells_are_single.Goals as goal

pub returns-clause-value : goal.returns-clause-value
returns-clause-value c = value_is_single

pub returns-clause-cell : goal.returns-clause-cell
returns-clause-cell c = cell_of_is_single
