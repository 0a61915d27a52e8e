use Rattle.std.proofs.Common.{◌∙◌}
use Rattle.outside.proofs.GatheringLemmas.{Adds-as, Adds-then}
use Rattle.big_work.proofs.summary.write_numbered.Goals as goal

pub returns : goal.returns
returns g c = Adds-then c.write.ensures (Adds-then (Adds-as (c.as_bytes.ensures.value ∙ c.format.ensures.text) c.write-2.ensures) c.write-3.ensures)
