use Rattle.std.proofs.Common.{rules}
use Rattle.report_reader.proofs.ReadPartLemmas.{session_line_is}
use Rattle.report_reader.proofs.lines.session_line.Goals as goal

pub returns-clause-line : goal.returns-clause-line
returns-clause-line c = session_line_is c.args.script.now c.args.plan.now c.push_after.new.line.items (search rules)
