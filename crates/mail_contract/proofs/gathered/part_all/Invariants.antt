use Rattle.std.proofs.Common.{◌≡◌, length, map}
use Rattle.mail_contract.specs.Lanes.{lane_apart}
use Rattle.mail_contract.proofs.MapsLemmas.{Changed}
use Rattle.mail_contract.proofs.gathered.part_all.Given as goal

abbrev pub invariant-loop-i : goal.invariant-loop-i
invariant-loop-i g l = record {
  long : length l.lanes.items ≡ length l.fn.lanes.items;
  keys : map g.L.Lane.key l.lanes.items ≡ map g.L.Lane.key l.fn.lanes.items;
  lanes : Changed lane_apart (map g.L.Lane.lane l.fn.lanes.items) (map g.L.Lane.lane l.lanes.items) l.i;
}
