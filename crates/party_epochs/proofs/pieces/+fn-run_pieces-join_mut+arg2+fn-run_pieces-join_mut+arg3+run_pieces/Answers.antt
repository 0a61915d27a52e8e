use Rattle.std.proofs.Common.{◌++◌, OnOk, rules, subst, sym}
use Rattle.party_epochs.specs.Pieces.{Pairwise}
use Rattle.party_epochs.proofs.PiecesLemmas.{both_halves}
use Rattle.party_epochs.proofs.pieces.+fn-run_pieces-join_mut+arg2+fn-run_pieces-join_mut+arg3+run_pieces.Goals as goal

pub returns-in_ok-one-in_default : goal.returns-in_ok-one-in_default
returns-in_ok-one-in_default g t c =
    let front : OnOk c.join_mut-one.result.0 (Pairwise g.T.Piece.becomes c.split_at_mut-front.result.0.now c.front-1.given.0) = search rules in
    let back : OnOk c.join_mut-one.result.1 (Pairwise g.T.Piece.becomes c.split_at_mut-front.result.1.now c.back-1.given.0) = search rules in
    subst (λ before. OnOk c.join_mut-one.result.1 (Pairwise g.T.Piece.becomes before (c.front-1.given.0 ++ c.back-1.given.0))) (sym c.split_at_mut-front.ensures.value)
    (both_halves g.T.Piece.becomes c.join_mut-one.result.0 c.join_mut-one.result.1 c.in_ok-one-in_default.field-0 _ _ _ _ c.in_ok-one-in_default.was front back)
