use Rattle.report_lines.specs.Parts.{IsSumIn}
use Rattle.report_lines.specs.Text.{sum_text}
use Rattle.report_reader.proofs.ReadRows.{ArePiecesRead}
use Rattle.report_reader.proofs.dots.read_sums.Given as goal

abbrev pub invariant-loop-piece : goal.invariant-loop-piece
invariant-loop-piece l = ArePiecesRead (λ piece. piece.now) (IsSumIn l.script) 44 (sum_text l.script) l.text l.piece-items l.piece-index l.sums
