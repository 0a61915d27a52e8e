use Rattle.clock_lattice.specs.Clock.{IsClock}
use Rattle.session_known.specs.Form.{IsClockIn}
use Rattle.report_lines.proofs.NamesLemmas.{tells_names}
use Rattle.report_reader.proofs.ReadClocks.{clock_formed, clock_row}
use Rattle.report_reader.proofs.ReadRows.{all_pieces_read, no_piece, no_piece_place, no_piece_read, piece_read}
use Rattle.report_reader.proofs.clocks.read_counts.Goals as goal

pub loop-piece-init : goal.loop-piece-init
loop-piece-init c = no_piece_read (rw c.deref-piece-items.ensures.value c.in_ok-pieces.ensures) c.new-clock.ensures

pub returns-in_default : goal.returns-in_default
returns-in_default c = no_piece _ c.loop-piece.invariant c.loop-piece-test.true c.read_count.ensures (clock_row c.args.script.now (tells_names _ _ c.requires.1)) c.in_default.is

pub returns-then-not-branch : goal.returns-then-not-branch
returns-then-not-branch c =
    no_piece_place _ c.loop-piece.invariant c.loop-piece-test.true c.read_count.ensures IsClock _ _ (clock_row c.args.script.now (tells_names _ _ c.requires.1)) (λ clock is. is.is_clock) c.in-Some.is c.in_ok-push.ensures.pushed c.if-not-branch.true

pub loop-piece-preserved : goal.loop-piece-preserved
loop-piece-preserved c = piece_read _ c.loop-piece.invariant c.loop-piece-test.true c.read_count.ensures IsClock _ c.in-Some.is c.in_ok-push.ensures.pushed c.if-not-branch.false

pub returns : goal.returns
returns c =
    all_pieces_read (IsClockIn c.args.script.now) c.loop-piece.invariant c.loop-piece-test.false (clock_formed c.args.script.now c.loop-piece.clock c.attest.ensures c.loop-piece.invariant.are_read.are_items)
