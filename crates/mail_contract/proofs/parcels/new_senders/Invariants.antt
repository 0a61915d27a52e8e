use Rattle.std.proofs.Common.{◌≡◌, [], map, replicate, take}
use Rattle.std.specs.List.{range_with_len}
use Rattle.mail_contract.proofs.parcels.new_senders.Given as goal

abbrev pub invariant-loop-place : goal.invariant-loop-place
invariant-loop-place g l = record {
  numbers : map (λ tx. tx.number) l.txs.items ≡ range_with_len 1 l.place;
  sent : map (λ tx. tx.history.items) l.txs.items ≡ replicate l.place [];
  given : map (λ tx. take tx.given tx.history.items) l.txs.items ≡ replicate l.place [];
}
