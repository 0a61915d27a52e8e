use Rattle.basic_lattices.specs.Word.{IsWord}
use Rattle.report_reader.proofs.ReadRows.{ArePiecesRead}
use Rattle.report_reader.proofs.values.read_words.Given as goal

abbrev pub invariant-loop-piece : goal.invariant-loop-piece
invariant-loop-piece l = ArePiecesRead (λ piece. piece.now) IsWord 44 (λ word. word) l.text l.piece-items l.piece-index l.words
