use Rattle.std.proofs.Common.{sym}
use Rattle.report_lines.specs.Text.{insert_text}
use Rattle.outside.proofs.GatheringLemmas.{Adds-then}
use Rattle.report_text.proofs.WritesLemmas.{Adds-item}
use Rattle.report_text.proofs.values.write_inserts.Goals as goal

pub loop-i-preserved : goal.loop-i-preserved
loop-i-preserved g c = Adds-item 44 (insert_text c.args.script.now) c.args.set.now.inserts c.loop-i.i (record { word = c.in-Some.word.now; dot = record { session = c.in-Some.session; number = c.in-Some.number } }) (sym c.in-Some.ensures) c.loop-i.invariant (Adds-then c.write_separator.ensures c.write_insert.ensures)
