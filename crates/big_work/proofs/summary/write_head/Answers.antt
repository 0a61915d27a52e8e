use Rattle.std.proofs.Common.{rules}
use Rattle.outside.proofs.GatheringLemmas.{Adds-then, Adds-wrote, Adds-cause}
use Rattle.big_work.proofs.summary.write_head.Goals as goal

pub returns-clause-wrote : goal.returns-clause-wrote
returns-clause-wrote g c =
    let lines = Adds-then c.write_numbered.ensures (Adds-then c.write_numbered-2.ensures c.write_numbered-3.ensures) in
    Adds-wrote c.finish.result (search rules) c.new-out.ensures.begins lines c.finish.ensures.adds c.finish.ensures.ends

pub returns-clause-cause : goal.returns-clause-cause
returns-clause-cause g c =
    let lines = Adds-then c.write_numbered.ensures (Adds-then c.write_numbered-2.ensures c.write_numbered-3.ensures) in
    Adds-cause c.finish.result (search rules) c.new-out.ensures.begins lines c.finish.ensures.adds c.finish.ensures.ends
