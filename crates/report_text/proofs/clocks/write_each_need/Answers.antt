use Rattle.std.proofs.Common.{sym}
use Rattle.report_lines.specs.Text.{need_text}
use Rattle.outside.proofs.GatheringLemmas.{Adds-then}
use Rattle.report_text.proofs.WritesLemmas.{Adds-item}
use Rattle.report_text.proofs.clocks.write_each_need.Goals as goal

pub loop-i-preserved : goal.loop-i-preserved
loop-i-preserved g c = Adds-item 44 (need_text c.args.script.now) c.args.needs.now c.loop-i.i (c.in-Some.key, c.in-Some.clock.now) (sym c.in-Some.ensures) c.loop-i.invariant (Adds-then c.write_separator.ensures c.write_need.ensures)
