use Rattle.lattice_laws.specs.Sets.{IsSet}
use Rattle.dot_lattices.specs.Insert.{insert_cmp, IsInsert}
use Rattle.std.proofs.Common.{refl}
use Rattle.report_lines.proofs.NamesLemmas.{tells_names}
use Rattle.report_reader.specs.ReadDots.{AreInsertsIn}
use Rattle.report_reader.proofs.ReadDots.{inserts_named, inserts_row}
use Rattle.report_reader.proofs.ReadRows.{all_pieces_read, no_piece, no_piece_place, no_piece_read, piece_read}
use Rattle.report_reader.proofs.dots.read_each_insert.Goals as goal

pub loop-piece-init : goal.loop-piece-init
loop-piece-init c = no_piece_read (rw c.deref-piece-items.ensures.value c.in_ok-pieces.ensures) c.new-inserts.ensures

pub returns-in_default : goal.returns-in_default
returns-in_default c = no_piece _ c.loop-piece.invariant c.loop-piece-test.true c.in_default.ensures (inserts_row c.args.script.now (tells_names _ _ c.requires.1)) refl

pub returns-then-not-branch : goal.returns-then-not-branch
returns-then-not-branch c =
    no_piece_place _ c.loop-piece.invariant c.loop-piece-test.true c.in-Some.ensures (IsSet insert_cmp IsInsert) _ _ (inserts_row c.args.script.now (tells_names _ _ c.requires.1)) (λ inserts are. are.0) refl c.in_ok-push.ensures.pushed c.if-not-branch.true

pub loop-piece-preserved : goal.loop-piece-preserved
loop-piece-preserved c = piece_read _ c.loop-piece.invariant c.loop-piece-test.true c.in-Some.ensures (IsSet insert_cmp IsInsert) _ refl c.in_ok-push.ensures.pushed c.if-not-branch.false

pub returns : goal.returns
returns c =
    all_pieces_read (AreInsertsIn c.args.script.now) c.loop-piece.invariant c.loop-piece-test.false (c.attest.ensures, inserts_named c.args.script.now c.loop-piece.inserts c.loop-piece.invariant.are_read.are_items)
