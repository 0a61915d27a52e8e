use Rattle.std.proofs.Common.{◌≡◌, map}
use Rattle.drain_ledger.specs.Finals.{finals_of}
use Rattle.drain_ledger.proofs.finals.final_cells.Given as goal

abbrev pub invariant-loop-i : goal.invariant-loop-i
invariant-loop-i g l = l.finals.items ≡ finals_of l.i (map (λ worker. worker.cells) l.workers)
