use Rattle.report_reader.proofs.ReadLineLemmas.{AreFinalsSo}
use Rattle.report_reader.proofs.lines.read_finals.Given as goal

abbrev pub invariant-loop-place : goal.invariant-loop-place
invariant-loop-place l = AreFinalsSo l.script l.places l.fn.lines l.place-index l.lines l.cells
