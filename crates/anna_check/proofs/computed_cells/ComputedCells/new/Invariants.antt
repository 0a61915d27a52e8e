use Rattle.std.proofs.Common.{◌≡◌, map, replicate, take}
use Rattle.composed_value.specs.Cell.{empty_cell}
use Rattle.anna_check.proofs.computed_cells.ComputedCells.new.Given as goal

abbrev pub invariant-loop-kind : goal.invariant-loop-kind
invariant-loop-kind l = map (λ cells. cells.items) l.by_key.items ≡ map (λ kind. replicate l.workers (empty_cell kind)) (take l.kind-index l.kinds)
