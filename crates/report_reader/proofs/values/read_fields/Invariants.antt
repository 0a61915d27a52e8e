use Rattle.report_reader.specs.ReadValues.{IsField}
use Rattle.report_lines.specs.Text.{field_text}
use Rattle.report_reader.proofs.ReadRows.{ArePiecesRead}
use Rattle.report_reader.proofs.values.read_fields.Given as goal

abbrev pub invariant-loop-piece : goal.invariant-loop-piece
invariant-loop-piece l = ArePiecesRead (λ piece. piece.now) IsField 44 field_text l.text l.piece-items l.piece-index l.fields
