use Rattle.report_text.proofs.WritesLemmas.{Adds-line, Adds-word}
use Rattle.report_text.proofs.report.write_final_line.Goals as goal

pub returns : goal.returns
returns g c = Adds-line _ _ c.write_key.ensures (Adds-word _ _ c.write_spaced_worker.ensures c.write_cell.ensures) c.write.ensures
