use Rattle.std.proofs.Common.{sym}
use Rattle.outside.proofs.GatheringLemmas.{Adds-as, Adds-then}
use Rattle.report_text.proofs.WritesLemmas.{has_items, braced_some}
use Rattle.report_text.proofs.values.write_set.Goals as goal

pub returns-else-is_empty : goal.returns-else-is_empty
returns-else-is_empty g c =
    let some = has_items c.args.words.now c.is_empty.result c.is_empty.ensures c.if-is_empty.false in
    Adds-as (sym (braced_some c.args.words.now some)) (Adds-then c.write-else-is_empty.ensures (Adds-then c.write_words.ensures c.write-else-is_empty-2.ensures))
