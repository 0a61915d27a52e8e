use Rattle.std.proofs.Common.{◌≡◌, map, take}
use Rattle.std.specs.Prelude.{fold, max}
use Rattle.merge_world.proofs.world.workers.Given as goal

abbrev pub invariant-loop-key : goal.invariant-loop-key
invariant-loop-key l = l.most ≡ fold max 0 (take l.key (map (fold max 0) l.placement))
