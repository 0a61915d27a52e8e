use Rattle.outside.proofs.GatheringLemmas.{Adds-then}
use Rattle.report_text.proofs.values.write_stamped.Goals as goal

pub returns : goal.returns
returns g c = Adds-then c.write_word.ensures (Adds-then c.write.ensures (Adds-then c.write_number.ensures (Adds-then c.write-2.ensures (Adds-then c.write_session.ensures (Adds-then c.write-3.ensures c.write_number-2.ensures)))))
