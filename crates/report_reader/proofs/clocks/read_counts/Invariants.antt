use Rattle.report_lines.specs.Parts.{IsCounted}
use Rattle.report_lines.specs.Text.{count_text}
use Rattle.report_reader.proofs.ReadRows.{ArePiecesRead}
use Rattle.report_reader.proofs.clocks.read_counts.Given as goal

abbrev pub invariant-loop-piece : goal.invariant-loop-piece
invariant-loop-piece l = ArePiecesRead (λ piece. piece.now) (IsCounted l.script) 44 (count_text l.script) l.text l.piece-items l.piece-index l.clock
