use Rattle.report_text.proofs.WritesLemmas.{Adds-line}
use Rattle.report_text.proofs.answers.write_abort.Goals as goal

pub returns : goal.returns
returns g c = Adds-line _ _ c.write.ensures c.write_spaced_number.ensures c.write-2.ensures
