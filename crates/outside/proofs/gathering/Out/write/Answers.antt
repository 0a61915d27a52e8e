use Rattle.std.proofs.Common.{◌≡◌, ◌+◌, ◌-◌, ◌++◌, [], take, drop, length, sym, ap, ◌∙◌, arith}
use Rattle.std.proofs.lemmas.List.{length-drop, take_all}
use Rattle.std.proofs.Math.Seq.{take-add}
use Rattle.outside.proofs.GatheringLemmas.{Adds-as, Adds-then}
use Rattle.outside.proofs.gathering.Out.write.Goals as goal

pub loop-at-preserved : goal.loop-at-preserved
loop-at-preserved g c =
    let piece = c.args.piece.now in
    let at = c.loop-at.at in
    let n = c.gather-at-in-loop-at.result in
    let rest : take (length piece - at) (drop at piece) ≡ drop at piece = take_all (length piece - at) (drop at piece) (omega (arith, length-drop at piece)) in
    let text : take at piece ++ ([] ++ take n (take (length piece - at) (drop at piece))) ≡ take (at + n) piece = ap (λ rest. take at piece ++ take n rest) rest ∙ sym (take-add at n piece) in
    record {
      within = omega (arith, c.gather-at-in-loop-at.ensures.count, ap length rest, length-drop at piece);
      adds = Adds-as text (Adds-then c.loop-at.invariant.adds (Adds-then c.flush.ensures.adds c.gather-at-in-loop-at.ensures.adds));
    }
