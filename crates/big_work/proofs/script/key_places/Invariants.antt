use Rattle.std.proofs.Common.{◌≡◌, ◌-◌, map}
use Rattle.std.specs.List.{range_with_len}
use Rattle.big_work.specs.Big.{key_place}
use Rattle.big_work.proofs.script.key_places.Given as goal

-- the keys so far
abbrev pub invariant-loop-key : goal.invariant-loop-key
invariant-loop-key l = l.keys.items ≡ map key_place (range_with_len 1 (l.key - 1))
