use Rattle.std.proofs.Common.{rules}
use Rattle.outside.proofs.GatheringLemmas.{Adds-wrote, Adds-cause}
use Rattle.big_work.proofs.summary.write_end.Goals as goal

pub returns-clause-wrote : goal.returns-clause-wrote
returns-clause-wrote g c = Adds-wrote c.finish.result (search rules) c.new-out.ensures.begins c.write.ensures c.finish.ensures.adds c.finish.ensures.ends

pub returns-clause-cause : goal.returns-clause-cause
returns-clause-cause g c = Adds-cause c.finish.result (search rules) c.new-out.ensures.begins c.write.ensures c.finish.ensures.adds c.finish.ensures.ends
