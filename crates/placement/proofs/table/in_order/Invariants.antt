use Rattle.std.proofs.Common.{◌≡◌, ◌+◌, length, take}
use Rattle.placement.specs.Asked.{others}
use Rattle.placement.proofs.table.in_order.Given as goal

abbrev pub invariant-loop-replica : goal.invariant-loop-replica
invariant-loop-replica l = l.place ≡ length (others l.home (take l.replica-index l.replicas)) + l.left + 1
