use Rattle.std.proofs.Common.{◌≡◌, ◌-◌, take, drop, length, ap, arith}
use Rattle.std.proofs.lemmas.List.{length-drop, take_all}
use Rattle.std.proofs.Math.Seq.{take-add}
use Rattle.outside.proofs.OutsideLemmas.{Grew-more}
use Rattle.outside.proofs.transfer.write_all.Goals as goal

pub loop-at-preserved : goal.loop-at-preserved
loop-at-preserved g c =
    let written = g.K.Sink.written in
    let text = c.args.text.now in
    let at = c.loop-at.at in
    let n = c.in_ok-at.field-0 in
    let piece = drop at text in
    let whole : take (length text - at) piece ≡ piece = take_all (length text - at) piece (omega (arith, length-drop at text)) in
    let more = Grew-more (written c.args.sink.now) (written c.loop-at.sink) (written c.give.new.self) (take at text) (take n (take (length text - at) piece)) c.loop-at.invariant.written c.in_ok-at.ensures.bytes in
    record {
      within = omega (arith, c.in_ok-at.ensures.bound, ap length whole, length-drop at text, c.loop-at.invariant.within);
      written = rw (take-add at n text) (rw whole at more);
      count = omega (arith, c.in_ok-at.ensures.cause.0);
    }
