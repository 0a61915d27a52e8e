use Rattle.std.proofs.Common.{refl, sym, ap, ◌∙◌}
use Rattle.std.proofs.lemmas.List.{map-id}
use Rattle.std.specs.List.{join_with_byte}
use Rattle.basic_lattices.specs.TextSet.{IsTextSet}
use Rattle.report_reader.proofs.ReadRows.{all_pieces_read, no_piece, no_piece_place, no_piece_read, piece_read}
use Rattle.report_reader.proofs.ReadValueForms.{words_row}
use Rattle.report_reader.proofs.values.read_words.Goals as goal

pub loop-piece-init : goal.loop-piece-init
loop-piece-init c = no_piece_read (rw c.deref-piece-items.ensures.value c.in_ok-pieces.ensures) c.new-words.ensures

pub returns-in_default : goal.returns-in_default
returns-in_default c words some same = no_piece _ c.loop-piece.invariant c.loop-piece-test.true c.in_default.ensures words_row refl words some (same ∙ sym (ap (join_with_byte 44) (map-id words)))

pub returns-then-not-branch : goal.returns-then-not-branch
returns-then-not-branch c words some same =
    no_piece_place _ c.loop-piece.invariant c.loop-piece-test.true c.in-Some.ensures IsTextSet _ _ words_row (λ _ is. is) refl c.in_ok-push.ensures.pushed c.if-not-branch.true words some (same ∙ sym (ap (join_with_byte 44) (map-id words)))

pub loop-piece-preserved : goal.loop-piece-preserved
loop-piece-preserved c = piece_read _ c.loop-piece.invariant c.loop-piece-test.true c.in-Some.ensures IsTextSet _ refl c.in_ok-push.ensures.pushed c.if-not-branch.false

pub returns : goal.returns
returns c = let row = all_pieces_read IsTextSet c.loop-piece.invariant c.loop-piece-test.false c.attest.ensures in (row.0, row.1 ∙ ap (join_with_byte 44) (map-id c.loop-piece.words))
