use Rattle.std.proofs.Common.{rules, ◌≡◌, ◌==◌, suc, false, ◌∷◌, length, take, slice_index_or, sym, ap, ◌∙◌, arith}
use Rattle.placement.specs.Asked.{others}
use Rattle.placement.proofs.AskedLemmas.{other_met}
use Rattle.placement.proofs.table.in_order.Goals as goal

pub returns-then-left-eq0 : goal.returns-then-left-eq0
returns-then-left-eq0 c =
    let home = c.args.home in
    let replicas = c.args.replicas.now in
    let i = c.loop-replica.replica-index in
    let other : (slice_index_or replicas i 0 == home) ≡ false = search rules in
    let place : suc (length (others home (take i replicas))) ≡ c.args.place = omega (arith, c.loop-replica.invariant, c.if-left-eq0.true) in
    sym (other_met home replicas i 0 c.loop-replica-test.true other) ∙ ap (λ n. slice_index_or (home ∷ others home replicas) n 0) place
