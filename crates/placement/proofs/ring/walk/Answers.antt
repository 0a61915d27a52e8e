use Rattle.placement.proofs.RoundLemmas.{hashes_ascend, round_from_cut}
use Rattle.std.proofs.Common.{◌≡◌, refl, sym, ◌∙◌, ap, take, drop, [], List, ℕ, zero, suc, nat_lt, rules}
use Rattle.placement.specs.Ring.{workers_met}
use Rattle.placement.specs.declared.ring.Point.{Point}
use Rattle.std.proofs.lemmas.List.{take_rest}
use Rattle.std.proofs.lemmas.List.Sorted.{IsPartitionPoint-from_clause, IsPartitionedBy-ltb}
use Rattle.placement.proofs.ring.walk.Goals as goal

-- no number is taken of none
take_nil : (n : ℕ) → take n (workers_met []) ≡ []
take_nil zero = refl
take_nil (suc n) = refl

pub returns : goal.returns
returns c =
    let points = c.args.points.now in
    let parted = IsPartitionedBy-ltb (λ (point : Point). point.hash) points c.args.hash (hashes_ascend points c.requires) in
    let cut = IsPartitionPoint-from_clause (λ point. nat_lt point.hash c.args.hash) points c.partition_point-first.result c.partition_point-first.ensures.partitioned parted (λ a r q k. search rules) in
    let round = round_from_cut points c.args.hash c.partition_point-first.result cut in
    let start = c.partition_point-first.result in
    let none : c.new-workers.result.items ≡ take c.args.factor (workers_met []) = c.new-workers.ensures.items ∙ sym (take_nil c.args.factor) in
    c.in_ok-meet-2.ensures (drop start points) (rw take_rest at (c.in_ok-meet.ensures [] none)) ∙ ap (λ (ps : List Point). take c.args.factor (workers_met ps)) round
