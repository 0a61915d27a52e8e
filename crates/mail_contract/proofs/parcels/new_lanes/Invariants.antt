use Rattle.std.proofs.Common.{◌≡◌, [], map, replicate, take}
use Rattle.mail_contract.specs.Lanes.{nothing}
use Rattle.mail_contract.specs.Plain.{lane_of}
use Rattle.mail_contract.proofs.parcels.new_lanes.Given as goal

abbrev pub invariant-loop : goal.invariant-loop
invariant-loop g l = record {
  delivered : map (λ lane. take lane.delivered lane.given.items) l.lanes.items ≡ replicate l.counter [];
  lanes : map (λ lane. lane_of lane.given.items lane.taken lane.settled) l.lanes.items ≡ replicate l.counter nothing;
}
