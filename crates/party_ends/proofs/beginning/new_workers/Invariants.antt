use Rattle.party_ends.specs.Parties.{AreMadeOf, IsNewWorker}
use Rattle.party_ends.proofs.beginning.new_workers.Given as goal

-- so far
abbrev pub invariant-loop-its : goal.invariant-loop-its
invariant-loop-its g l = AreMadeOf (IsNewWorker l.script l.placement) l.yielded l.workers.items
