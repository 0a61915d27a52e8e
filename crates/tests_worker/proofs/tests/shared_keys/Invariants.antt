use Rattle.std.proofs.Common.{◌≡◌, All, length}
use Rattle.placement.specs.Config.{ArePins, IsOwnFactor}
use Rattle.tests_worker.proofs.tests.shared_keys.Given as goal

abbrev pub invariant-loop : goal.invariant-loop
invariant-loop l = record {
  counted : length l.places.items ≡ l.counter;
  pins : All (λ place. ArePins 2 place.pins) l.places.items;
  factors : All (IsOwnFactor 2) l.places.items;
}
