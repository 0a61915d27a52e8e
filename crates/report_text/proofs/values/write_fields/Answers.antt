use Rattle.std.proofs.Common.{sym}
use Rattle.report_lines.specs.Text.{field_text}
use Rattle.outside.proofs.GatheringLemmas.{Adds-then}
use Rattle.report_text.proofs.WritesLemmas.{Adds-item}
use Rattle.report_text.proofs.values.write_fields.Goals as goal

pub loop-i-preserved : goal.loop-i-preserved
loop-i-preserved g c = Adds-item 44 field_text c.args.fields.now c.loop-i.i (c.in-Some.field.now, c.in-Some.number.now) (sym c.in-Some.ensures) c.loop-i.invariant (Adds-then c.write_separator.ensures c.write_field.ensures)
