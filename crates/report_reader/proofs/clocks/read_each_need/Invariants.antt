use Rattle.std.proofs.Common.{length, [], ◌∷◌}
use Rattle.report_reader.specs.ReadClocks.{IsNeedIn}
use Rattle.report_lines.specs.Text.{need_text}
use Rattle.report_reader.proofs.ReadRows.{AreRead}
use Rattle.report_reader.proofs.clocks.read_each_need.Given as goal

abbrev pub invariant-loop-entry : goal.invariant-loop-entry
invariant-loop-entry l = AreRead (IsNeedIn l.script) 44 (need_text l.script) l.text l.needs (l.rest ∷ [])

abbrev pub decreases-loop-entry : goal.decreases-loop-entry
decreases-loop-entry l = length l.rest
