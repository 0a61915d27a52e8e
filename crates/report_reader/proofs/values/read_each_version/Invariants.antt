use Rattle.report_reader.specs.ReadValues.{IsVersionIn}
use Rattle.report_lines.specs.Text.{version_text}
use Rattle.report_reader.proofs.ReadRows.{ArePiecesRead}
use Rattle.report_reader.proofs.values.read_each_version.Given as goal

abbrev pub invariant-loop-piece : goal.invariant-loop-piece
invariant-loop-piece l = ArePiecesRead (λ piece. piece.now) (IsVersionIn l.script) 124 (version_text l.script) l.text l.piece-items l.piece-index l.versions
