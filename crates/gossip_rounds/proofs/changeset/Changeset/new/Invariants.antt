-- So far as the loop has come there are mates without keys, and there is room for all.
use Rattle.std.proofs.Common.{◌≡◌, [], replicate}
use Rattle.std.specs.Vec.{vec_capacity}
use Rattle.gossip_rounds.proofs.changeset.Changeset.new.Given as goal

abbrev pub invariant-loop : goal.invariant-loop
invariant-loop l = (l.of_mates.items ≡ replicate l.counter (record { most = l.most; keys = [] })) × (vec_capacity l.of_mates ≡ l.mates)
