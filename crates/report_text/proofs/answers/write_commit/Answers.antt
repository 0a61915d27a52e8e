use Rattle.outside.proofs.GatheringLemmas.{Adds-as}
use Rattle.report_text.proofs.ReportLemmas.{commit_line}
use Rattle.report_text.proofs.WritesLemmas.{Adds-line}
use Rattle.report_text.proofs.answers.write_commit.Goals as goal

pub returns-else-puts-eq0 : goal.returns-else-puts-eq0
returns-else-puts-eq0 g c = Adds-as (commit_line c.args.puts c.args.lamport c.if-puts-eq0.false) (Adds-line _ _ c.write-else-puts-eq0.ensures c.write_stamp.ensures c.write-else-puts-eq0-2.ensures)
