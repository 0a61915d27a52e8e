use Rattle.std.proofs.Common.{map, take, decimal}
use Rattle.report_text.specs.Writes.{AddsWords}
use Rattle.report_text.proofs.keys.write_workers.Given as goal

-- the workers that are written
abbrev pub invariant-loop-cell : goal.invariant-loop-cell
invariant-loop-cell g l = AddsWords g.K.Sink l.fn.out l.out (map decimal (map (λ cell. cell.worker) (take l.cell-index l.cells)))
