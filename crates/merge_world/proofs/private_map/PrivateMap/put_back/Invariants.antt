use Rattle.std.proofs.Common.{◌≡◌, length}
use Rattle.merge_world.specs.Back.{with_all_back}
use Rattle.merge_world.proofs.private_map.PrivateMap.put_back.Given as goal

abbrev pub decreases-loop-key : goal.decreases-loop-key
decreases-loop-key l = length l.before.items

abbrev pub invariant-loop-key : goal.invariant-loop-key
invariant-loop-key l = with_all_back l.before.items l.self ≡ with_all_back l.fn.before.items l.fn.self
