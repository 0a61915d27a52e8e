use Rattle.std.proofs.Common.{◌≡◌, ◌-◌, map}
use Rattle.std.specs.List.{range_with_len}
use Rattle.big_work.specs.Big.{key_kind}
use Rattle.big_work.proofs.script.kinds.Given as goal

-- the kinds of the keys so far
abbrev pub invariant-loop-key : goal.invariant-loop-key
invariant-loop-key l = l.kinds.items ≡ map key_kind (range_with_len 1 (l.key - 1))
