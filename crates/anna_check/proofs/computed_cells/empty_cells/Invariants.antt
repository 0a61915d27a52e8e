use Rattle.std.proofs.Common.{◌≡◌, replicate}
use Rattle.composed_value.specs.Cell.{empty_cell}
use Rattle.anna_check.proofs.computed_cells.empty_cells.Given as goal

abbrev pub invariant-loop-worker : goal.invariant-loop-worker
invariant-loop-worker l = l.cells.items ≡ replicate l._worker (empty_cell l.fn.kind)
