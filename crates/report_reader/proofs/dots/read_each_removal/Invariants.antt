use Rattle.std.proofs.Common.{length, [], ◌∷◌}
use Rattle.report_lines.specs.Text.{removal_text}
use Rattle.report_reader.specs.ReadDots.{IsRemovalIn}
use Rattle.report_reader.proofs.ReadRows.{AreRead}
use Rattle.report_reader.proofs.dots.read_each_removal.Given as goal

abbrev pub invariant-loop-entry : goal.invariant-loop-entry
invariant-loop-entry l = AreRead (IsRemovalIn l.script) 44 (removal_text l.script) l.text l.removals (l.rest ∷ [])

abbrev pub decreases-loop-entry : goal.decreases-loop-entry
decreases-loop-entry l = length l.rest
