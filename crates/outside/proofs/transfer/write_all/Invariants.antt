use Rattle.std.proofs.Common.{length, take, ◌-◌, ◌≤◌}
use Rattle.outside.specs.Outside.{Grew}
use Rattle.outside.proofs.transfer.write_all.Given as goal

-- the front that is written
abbrev pub invariant-loop-at : goal.invariant-loop-at
invariant-loop-at g l = record {
  within : l.at ≤ length l.text;
  written : Grew (g.K.Sink.written l.fn.sink) (g.K.Sink.written l.sink) (take l.at l.text);
  count : g.K.Sink.faults l.fn.sink ≤ g.K.Sink.faults l.sink;
}

abbrev pub decreases-loop-at : goal.decreases-loop-at
decreases-loop-at g l = length l.text - l.at
