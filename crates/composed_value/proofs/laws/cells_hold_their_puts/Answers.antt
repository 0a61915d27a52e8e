use Rattle.composed_value.proofs.CellOfLemmas.{cell_of_is_cell, cell_of_by_members, cell_of-append}
use Rattle.composed_value.proofs.laws.cells_hold_their_puts.Goals as goal

pub returns-clause-holds : goal.returns-clause-holds
returns-clause-holds c = λ kind puts all. (cell_of_is_cell kind puts all).1

pub returns-clause-members : goal.returns-clause-members
returns-clause-members c = cell_of_by_members

pub returns-clause-together : goal.returns-clause-together
returns-clause-together c = cell_of-append
