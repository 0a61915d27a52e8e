use Rattle.std.proofs.Common.{ℕ, List, map, Vec, Global, arith}
use Rattle.placement.proofs.ReplicaLemmas.{table_of_all, each_has_some, each_has_length}
use Rattle.placement.proofs.table.Placement.build.Goals as goal

pub invariant_of-result : goal.invariant_of-result
invariant_of-result c =
    let items : Vec ℕ Global → List ℕ = λ replicas. replicas.items in
    let config = c.args.config.now in
    let vectors = c.loop-key.replicas.items in
    let each = table_of_all config c.in_ok-ring.ring.items c.as_slice-key-items.result.now c.loop-key.key-index (map items vectors) c.requires c.in_ok-ring.ensures c.as_slice-key-items.ensures c.loop-key-test.false c.loop-key.invariant in
    let most = c.requires.keys_most in
    (omega (arith, each_has_length items config config.keys vectors each), each_has_some items config config.keys vectors each)

pub returns-clause-replicas : goal.returns-clause-replicas
returns-clause-replicas c =
    let items : Vec ℕ Global → List ℕ = λ replicas. replicas.items in
    table_of_all c.args.config.now c.in_ok-ring.ring.items c.as_slice-key-items.result.now c.loop-key.key-index (map items c.loop-key.replicas.items) c.requires c.in_ok-ring.ensures c.as_slice-key-items.ensures c.loop-key-test.false c.loop-key.invariant
