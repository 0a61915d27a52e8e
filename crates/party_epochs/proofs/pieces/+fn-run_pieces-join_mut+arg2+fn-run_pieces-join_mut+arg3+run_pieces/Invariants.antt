use Rattle.std.proofs.Common.{◌+◌, ◌*◌, length}
use Rattle.party_epochs.proofs.pieces.+fn-run_pieces-join_mut+arg2+fn-run_pieces-join_mut+arg3+run_pieces.Given as goal

abbrev pub decreases-join_mut+arg2 : goal.decreases-join_mut+arg2
decreases-join_mut+arg2 g l = 2 * length l.front.now + 1

abbrev pub decreases-join_mut+arg3 : goal.decreases-join_mut+arg3
decreases-join_mut+arg3 g l = 2 * length l.back.now + 1

abbrev pub decreases-run_pieces : goal.decreases-run_pieces
decreases-run_pieces g l = 2 * length l.pieces.now
