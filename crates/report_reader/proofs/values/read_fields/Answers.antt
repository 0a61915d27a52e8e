use Rattle.std.proofs.Common.{IsTrue, subst}
use Rattle.std.specs.FinMap.{is_sorted}
use Rattle.lattice_laws.proofs.EntriesLemmas.{plain_itself}
use Rattle.basic_lattices.specs.Word.{word_cmp}
use Rattle.composed_value.specs.Value.{IsFields}
use Rattle.report_reader.proofs.ReadRows.{all_pieces_read, no_piece, no_piece_place, no_piece_read, piece_read}
use Rattle.report_reader.proofs.ReadValueForms.{fields_row}
use Rattle.report_reader.proofs.ReadValueParts.{plain_pushed}
use Rattle.report_reader.proofs.values.read_fields.Goals as goal

pub loop-piece-init : goal.loop-piece-init
loop-piece-init c = no_piece_read (rw c.deref-piece-items.ensures.value c.in_ok-pieces.ensures) c.new-fields.ensures

pub returns-in_default : goal.returns-in_default
returns-in_default c = no_piece _ c.loop-piece.invariant c.loop-piece-test.true c.in_ok-field.ensures fields_row c.in_default.is

pub returns-then-not-branch : goal.returns-then-not-branch
returns-then-not-branch c =
    no_piece_place _ c.loop-piece.invariant c.loop-piece-test.true c.in_ok-field.ensures (λ entries. IsTrue (is_sorted word_cmp entries)) _ _ fields_row (λ fields is. is.ascending) c.in-Some.is
    (plain_pushed (λ entries. IsTrue (is_sorted word_cmp entries)) c.loop-piece.fields (c.in-Some.field, c.in-Some.number) c.push.new.self c.in_ok-push.field-0 c.in_ok-push.ensures.pushed) c.if-not-branch.true

pub loop-piece-preserved : goal.loop-piece-preserved
loop-piece-preserved c =
    piece_read _ c.loop-piece.invariant c.loop-piece-test.true c.in_ok-field.ensures (λ entries. IsTrue (is_sorted word_cmp entries)) _ c.in-Some.is
    (plain_pushed (λ entries. IsTrue (is_sorted word_cmp entries)) c.loop-piece.fields (c.in-Some.field, c.in-Some.number) c.push.new.self c.in_ok-push.field-0 c.in_ok-push.ensures.pushed) c.if-not-branch.false

pub returns : goal.returns
returns c = all_pieces_read IsFields c.loop-piece.invariant c.loop-piece-test.false (subst IsFields (plain_itself c.loop-piece.fields) c.attest.ensures)
