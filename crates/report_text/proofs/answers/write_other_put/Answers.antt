use Rattle.report_text.proofs.WritesLemmas.{Adds-line, Adds-word}
use Rattle.report_text.proofs.answers.write_other_put.Goals as goal

pub returns : goal.returns
returns g c = Adds-line _ _ c.write.ensures (Adds-word _ _ c.write_spaced_key.ensures c.write_spaced.ensures) c.write-2.ensures
