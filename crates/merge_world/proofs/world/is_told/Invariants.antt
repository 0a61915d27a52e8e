use Rattle.std.proofs.Common.{◌≢◌}
use Rattle.std.specs.List.{AllWithin}
use Rattle.merge_world.proofs.world.is_told.Given as goal

abbrev pub invariant-loop-of_key : goal.invariant-loop-of_key
invariant-loop-of_key l = AllWithin (λ entry. entry ≢ (l.key, l.own)) l.entries 0 l.of_key-index
