use Rattle.std.proofs.Common.{◌≡◌, ◌<◌, ◌≤◌, ℕ, length, map}
use Rattle.mail_contract.specs.Lanes.{IsDry, at_place}
use Rattle.mail_contract.proofs.gathered.scan.Given as goal

abbrev pub invariant-loop-i : goal.invariant-loop-i
invariant-loop-i g l = record {
  long : length l.lanes.items ≡ length l.fn.lanes.items;
  keys : map g.L.Lane.key l.lanes.items ≡ map g.L.Lane.key l.fn.lanes.items;
  lanes : map g.L.Lane.lane l.lanes.items ≡ map g.L.Lane.lane l.fn.lanes.items;
  dry : (place : ℕ) → l.from ≤ place → place < l.i → IsDry g.L.Lane.keeps (at_place (map g.L.Lane.lane l.fn.lanes.items) place);
}
