use Rattle.std.proofs.Common.{◌≡◌, [], map, replicate}
use Rattle.std.specs.List.{range_with_len}
use Rattle.rtrb.specs.Ring.{sent}
use Rattle.mail_rings.specs.Rings.{lane_of, new_lane, rx_ring, tx_ring}
use Rattle.mail_rings.proofs.rings.Given as goal

abbrev pub invariant-loop-place : goal.invariant-loop-place
invariant-loop-place g l = record {
  numbers : map (λ tx. tx.number) l.txs.items ≡ range_with_len 1 l.place;
  sent : map (λ tx. sent tx.ring) l.txs.items ≡ replicate l.place [];
  fulls : map (λ tx. tx.fulls) l.txs.items ≡ replicate l.place 0;
  unseen : map (λ tx. tx.unseen) l.txs.items ≡ replicate l.place 0;
  pairs : map (λ tx. tx_ring tx.ring) l.txs.items ≡ map (λ lane. rx_ring lane.ring) l.lanes.items;
  lanes : map (λ lane. lane_of lane.ended lane.shown lane.ring) l.lanes.items ≡ replicate l.place new_lane;
}
