use Rattle.report_lines.specs.Text.{sum_text}
use Rattle.outside.proofs.GatheringLemmas.{Adds-then}
use Rattle.report_text.proofs.WritesLemmas.{Adds-item, sum_at}
use Rattle.report_text.proofs.values.write_sums.Goals as goal

pub loop-i-preserved : goal.loop-i-preserved
loop-i-preserved g c = Adds-item 44 (sum_text c.args.script.now) c.args.sums.now c.loop-i.i (record { session = c.in-Some.session; number = c.in-Some.number }, record { added = c.in-Some.added; taken = c.in-Some.taken }) (sum_at c.args.sums.now c.loop-i.i _ _ _ _ c.in-Some.ensures) c.loop-i.invariant (Adds-then c.write_separator.ensures c.write_sum.ensures)
