use Rattle.std.proofs.Common.{◌≡◌, map}
use Rattle.mail_contract.specs.Lanes.{about_of}
use Rattle.mail_contract.specs.Standing.{AllStand}
use Rattle.mail_rings.specs.Rings.{lane_of, rx_ring}
use Rattle.tests_mail.proofs.ring_tests.take_all.Given as goal

abbrev pub invariant-loop : goal.invariant-loop
invariant-loop l = record {
  key : map (λ lane. rx_ring lane.ring) l.rx.lanes.items ≡ map (λ lane. rx_ring lane.ring) l.fn.rx.lanes.items;
  standing : AllStand (about_of (map (λ lane. lane_of lane.ended lane.shown lane.ring) l.fn.rx.lanes.items)) (about_of (map (λ lane. lane_of lane.ended lane.shown lane.ring) l.rx.lanes.items));
}
