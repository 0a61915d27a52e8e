use Rattle.std.proofs.Common.{ap, ◌∙◌}
use Rattle.std.specs.Fmt.{decimal}
use Rattle.report_reader.proofs.ReadAnswerLemmas.{none_committed}
use Rattle.report_reader.proofs.answers.read_committed.Goals as goal

pub returns-then-puts-eq0 : goal.returns-then-puts-eq0
returns-then-puts-eq0 c = λ script level x fits same.
    let puts = c.in_ok-puts.ensures in
    none_committed script level x c.args.puts.now c.args.lamport.now (puts.1 ∙ ap decimal c.if-puts-eq0.true) fits same
