use Rattle.std.proofs.Common.{◌≡◌, ◌++◌, take}
use Rattle.report_reader.specs.ReadLines.{places_at}
use Rattle.report_reader.proofs.lines.push_places.Given as goal

abbrev pub invariant-loop-worker : goal.invariant-loop-worker
invariant-loop-worker l = l.places.items ≡ l.fn.places.items ++ places_at l.key (take l.worker-index l.workers)
