use Rattle.std.proofs.Common.{sym, codes}
use Rattle.outside.proofs.GatheringLemmas.{Adds-as}
use Rattle.report_lines.specs.Text.{count_text}
use Rattle.report_text.proofs.WritesLemmas.{has_items, row_some}
use Rattle.report_text.proofs.clocks.write_clock.Goals as goal

pub returns-else-is_empty : goal.returns-else-is_empty
returns-else-is_empty g c =
    let some = has_items c.args.clock.now c.is_empty.result c.is_empty.ensures c.if-is_empty.false in
    Adds-as (sym (row_some (codes "-") 44 (count_text c.args.script.now) c.args.clock.now some)) c.write_counts.ensures
