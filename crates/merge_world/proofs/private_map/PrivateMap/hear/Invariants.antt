use Rattle.std.proofs.Common.{◌≡◌, ◌≤◌, length, take}
use Rattle.merge_world.specs.Back.{with_all_back}
use Rattle.merge_world.specs.Effects.{hears}
use Rattle.merge_world.proofs.private_map.PrivateMap.hear.Given as goal

abbrev pub invariant-loop-key : goal.invariant-loop-key
invariant-loop-key l = record {
  heard : l.self ≡ hears (take l.key-index l.entries) l.fn.self;
  back : with_all_back l.before.items l.self ≡ l.fn.self;
  few : length l.before.items ≤ l.key-index;
  room : length l.entries ≤ l.before.cap;
}
