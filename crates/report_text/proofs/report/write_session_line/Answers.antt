use Rattle.report_text.proofs.WritesLemmas.{Adds-line, Adds-word, Adds-spaced}
use Rattle.report_text.proofs.report.write_session_line.Goals as goal

pub returns : goal.returns
returns g c =
    Adds-line _ _ c.write.ensures (Adds-word _ _ (Adds-spaced c.write-2.ensures c.write_name.ensures) (Adds-word _ _ (Adds-spaced c.write-3.ensures c.write_level.ensures) c.write_after.ensures)) c.write-4.ensures
