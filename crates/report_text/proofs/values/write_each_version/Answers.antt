use Rattle.std.proofs.Common.{sym}
use Rattle.report_lines.specs.Text.{version_text}
use Rattle.outside.proofs.GatheringLemmas.{Adds-then}
use Rattle.report_text.proofs.WritesLemmas.{Adds-item}
use Rattle.report_text.proofs.values.write_each_version.Goals as goal

pub loop-i-preserved : goal.loop-i-preserved
loop-i-preserved g c = Adds-item 124 (version_text c.args.script.now) c.args.versions.now c.loop-i.i (record { clock = c.in-Some.clock.now; word = c.in-Some.word.now }) (sym c.in-Some.ensures) c.loop-i.invariant (Adds-then c.write_separator.ensures c.write_clocked.ensures)
