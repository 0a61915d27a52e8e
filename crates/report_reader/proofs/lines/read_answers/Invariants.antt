use Rattle.report_reader.proofs.ReadLineLemmas.{AreAnswersSo}
use Rattle.report_reader.proofs.lines.read_answers.Given as goal

abbrev pub invariant-loop-line : goal.invariant-loop-line
invariant-loop-line l = AreAnswersSo l.script l.level l.commands l.fn.lines l.line-index l.lines l.answers
