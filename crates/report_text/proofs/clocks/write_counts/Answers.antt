use Rattle.std.proofs.Common.{sym}
use Rattle.report_lines.specs.Text.{count_text}
use Rattle.outside.proofs.GatheringLemmas.{Adds-then}
use Rattle.report_text.proofs.WritesLemmas.{Adds-item}
use Rattle.report_text.proofs.clocks.write_counts.Goals as goal

pub loop-i-preserved : goal.loop-i-preserved
loop-i-preserved g c = Adds-item 44 (count_text c.args.script.now) c.args.clock.now c.loop-i.i (c.in-Some.session, c.in-Some.count) (sym c.in-Some.ensures) c.loop-i.invariant (Adds-then c.write_separator.ensures c.write_count.ensures)
