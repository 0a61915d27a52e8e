use Rattle.std.proofs.Common.{◌≡◌, filter, take}
use Rattle.composed_value.specs.Cell.{cell_of}
use Rattle.anna_check.specs.Counted.{is_newly_counted}
use Rattle.anna_check.proofs.cells.newly_counted_cell.Given as goal

abbrev pub invariant-loop-put : goal.invariant-loop-put
invariant-loop-put l = l.cell ≡ cell_of l.fn.kind (filter (is_newly_counted l.before l.clock) (take l.put-index l.puts))
