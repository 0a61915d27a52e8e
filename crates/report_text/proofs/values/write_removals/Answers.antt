use Rattle.std.proofs.Common.{sym}
use Rattle.report_lines.specs.Text.{removal_text}
use Rattle.outside.proofs.GatheringLemmas.{Adds-then}
use Rattle.report_text.proofs.WritesLemmas.{Adds-item}
use Rattle.report_text.proofs.values.write_removals.Goals as goal

pub loop-i-preserved : goal.loop-i-preserved
loop-i-preserved g c = Adds-item 44 (removal_text c.args.script.now) c.args.set.now.removals c.loop-i.i (c.in-Some.word.now, c.in-Some.seen.now) (sym c.in-Some.ensures) c.loop-i.invariant (Adds-then c.write_separator.ensures c.write_clocked.ensures)
