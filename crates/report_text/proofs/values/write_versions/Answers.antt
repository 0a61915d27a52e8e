use Rattle.std.proofs.Common.{sym, codes}
use Rattle.outside.proofs.GatheringLemmas.{Adds-as}
use Rattle.report_lines.specs.Text.{version_text}
use Rattle.report_text.proofs.WritesLemmas.{has_items, row_some}
use Rattle.report_text.proofs.values.write_versions.Goals as goal

pub returns-else-is_empty : goal.returns-else-is_empty
returns-else-is_empty g c =
    let some = has_items c.args.versions.now c.is_empty.result c.is_empty.ensures c.if-is_empty.false in
    Adds-as (sym (row_some (codes "none") 124 (version_text c.args.script.now) c.args.versions.now some)) c.write_each_version.ensures
