use Rattle.report_reader.proofs.ReadLineLemmas.{AreSessionsSo}
use Rattle.report_reader.proofs.lines.read_sessions.Given as goal

abbrev pub invariant-loop-plan : goal.invariant-loop-plan
invariant-loop-plan l = AreSessionsSo l.script l.plans l.fn.lines l.plan-index l.lines l.answers
