use Rattle.report_text.proofs.WritesLemmas.{Adds-line, Adds-two_words}
use Rattle.report_text.proofs.report.write_short_line.Goals as goal

pub returns : goal.returns
returns g c = Adds-line _ _ c.write_key.ensures (Adds-two_words _ _ _ c.write_clock_words.ensures c.write_value_words.ensures) c.write.ensures
