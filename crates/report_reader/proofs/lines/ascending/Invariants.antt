use Rattle.std.proofs.Common.{◌≡◌}
use Rattle.report_reader.specs.ReadLines.{replicas_within}
use Rattle.report_reader.proofs.lines.ascending.Given as goal

abbrev pub invariant-loop-i : goal.invariant-loop-i
invariant-loop-i l = l.ascending.items ≡ replicas_within l.replicas l.i
