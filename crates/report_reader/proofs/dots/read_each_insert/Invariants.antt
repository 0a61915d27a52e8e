use Rattle.report_lines.specs.Parts.{IsInsertIn}
use Rattle.report_lines.specs.Text.{insert_text}
use Rattle.report_reader.proofs.ReadRows.{ArePiecesRead}
use Rattle.report_reader.proofs.dots.read_each_insert.Given as goal

abbrev pub invariant-loop-piece : goal.invariant-loop-piece
invariant-loop-piece l = ArePiecesRead (λ piece. piece.now) (IsInsertIn l.script) 44 (insert_text l.script) l.text l.piece-items l.piece-index l.inserts
