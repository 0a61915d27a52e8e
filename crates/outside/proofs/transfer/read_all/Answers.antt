use Rattle.std.proofs.Common.{◌≤◌, ◌++◌, take, length, length-append, length-take, arith}
use Rattle.std.proofs.lemmas.Result.{err_from_is_err_and}
use Rattle.outside.proofs.OutsideLemmas.{Took-more}
use Rattle.outside.proofs.transfer.read_all.Goals as goal

pub returns-in_err-extend_from_slice-clause-err : goal.returns-in_err-extend_from_slice-clause-err
returns-in_err-extend_from_slice-clause-err g c =
    let left = g.S.Source.left in
    let p = err_from_is_err_and c.from_residual-in_err-extend_from_slice.result c.from_residual-in_err-extend_from_slice.ensures.1 in
    let bound : length (c.loop-chunk.bytes.items ++ take c.in_ok-taken.taken c.take.new.into) ≤ c.args.most = simp (length-append, length-take) (omega (arith, c.loop-chunk.invariant.bound, c.in_ok-taken.ensures.bound, c.loop-chunk.invariant.chunk, simp length-take at c.take.auto.into, c.min-room.ensures, c.len-in-loop-chunk.ensures, c.loop-chunk.bytes.ok.0, c.loop-chunk-test.true)) in
    rw p.1 (c.loop-chunk.bytes.items ++ take c.in_ok-taken.taken c.take.new.into, bound, Took-more (left c.args.src.now) (left c.loop-chunk.src) (left c.take.new.self) c.loop-chunk.bytes.items c.take.new.into c.in_ok-taken.taken c.loop-chunk.invariant.taken c.in_ok-taken.ensures.bytes)
