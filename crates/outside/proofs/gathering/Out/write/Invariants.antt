use Rattle.std.proofs.Common.{length, ◌-◌, ◌≤◌, take}
use Rattle.outside.specs.Gathering.{Adds}
use Rattle.outside.proofs.gathering.Out.write.Given as goal

-- the front that is written
abbrev pub invariant-loop-at : goal.invariant-loop-at
invariant-loop-at g l = record {
  within : l.at ≤ length l.piece;
  adds : Adds g.K.Sink.written g.K.Sink.faults l.fn.self l.self (take l.at l.piece);
}

abbrev pub decreases-loop-at : goal.decreases-loop-at
decreases-loop-at g l = length l.piece - l.at
