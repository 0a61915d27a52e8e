use Rattle.report_lines.proofs.TextLemmas.{one_report}
use Rattle.report_lines.proofs.laws.texts_tell_reports_apart.Goals as goal

pub returns : goal.returns
returns c = one_report
