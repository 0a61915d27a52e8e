use Rattle.std.proofs.Common.{length, ◌-◌, ◌≤◌, ◌≡◌}
use Rattle.outside.specs.Outside.{Took}
use Rattle.outside.proofs.transfer.read_all.Given as goal

-- what is kept is what was taken
abbrev pub invariant-loop-chunk : goal.invariant-loop-chunk
invariant-loop-chunk g l = record {
  chunk : length l.chunk ≡ 4096;
  bound : length l.bytes.items ≤ l.most;
  taken : Took (g.S.Source.left l.fn.src) (g.S.Source.left l.src) l.bytes.items;
  count : g.S.Source.faults l.fn.src ≤ g.S.Source.faults l.src;
}

abbrev pub decreases-loop-chunk : goal.decreases-loop-chunk
decreases-loop-chunk g l = l.most - length l.bytes.items
