use Rattle.std.proofs.Common.{◌≡◌, map}
use Rattle.party_epochs.specs.Turns.{AreCounted}
use Rattle.party_epochs.proofs.epoch.parts_of_workers.Given as goal

-- so far
abbrev pub invariant-loop-worker : goal.invariant-loop-worker
invariant-loop-worker g l = record {
  parts : map (λ part. part.worker) l.parts.items ≡ l.yielded;
  counted : AreCounted l.fn.turns 0 (map (λ part. part.turns) l.parts.items);
}
