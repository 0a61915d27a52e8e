use Rattle.std.proofs.Common.{◌≡◌, [], map, replicate}
use Rattle.party_ends.proofs.making.empty_rows.Given as goal

abbrev pub invariant-loop : goal.invariant-loop
invariant-loop g l = map (λ row. row.items) l.made.items ≡ replicate l.counter []
