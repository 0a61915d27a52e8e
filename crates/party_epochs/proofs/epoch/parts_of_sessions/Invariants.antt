use Rattle.std.proofs.Common.{◌≡◌, map}
use Rattle.party_epochs.specs.Turns.{AreCounted}
use Rattle.party_epochs.proofs.epoch.parts_of_sessions.Given as goal

-- so far
abbrev pub invariant-loop-session : goal.invariant-loop-session
invariant-loop-session g l = record {
  parts : map (λ part. part.session) l.parts.items ≡ l.yielded;
  counted : AreCounted l.fn.turns l.fn.workers (map (λ part. part.turns) l.parts.items);
}
