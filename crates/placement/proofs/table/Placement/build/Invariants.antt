use Rattle.std.proofs.Common.{◌≡◌, map, take}
use Rattle.placement.specs.Config.{replicas_on}
use Rattle.placement.proofs.table.Placement.build.Given as goal

-- the replicas of the keys so far
abbrev pub invariant-loop-key : goal.invariant-loop-key
invariant-loop-key l = map (λ replicas. replicas.items) l.replicas.items ≡ map (replicas_on l.ring.items l.config) (take l.key-index l.key-items)
