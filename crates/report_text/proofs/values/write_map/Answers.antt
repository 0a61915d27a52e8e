use Rattle.std.proofs.Common.{map, sym, arith}
use Rattle.std.proofs.lemmas.List.{length-map}
use Rattle.outside.proofs.GatheringLemmas.{Adds-as, Adds-then}
use Rattle.report_lines.specs.Text.{field_text}
use Rattle.report_text.proofs.WritesLemmas.{has_items, braced_some}
use Rattle.report_text.proofs.values.write_map.Goals as goal

pub returns-else-is_empty : goal.returns-else-is_empty
returns-else-is_empty g c =
    let some = has_items c.args.fields.now c.is_empty.result c.is_empty.ensures c.if-is_empty.false in
    Adds-as (sym (braced_some (map field_text c.args.fields.now) (omega (arith, some, length-map c.args.fields.now field_text)))) (Adds-then c.write-else-is_empty.ensures (Adds-then c.write_fields.ensures c.write-else-is_empty-2.ensures))
