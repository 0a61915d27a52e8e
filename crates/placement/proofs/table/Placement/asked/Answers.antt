use Rattle.std.proofs.Common.{rules, ◌≤◌, length, sym, subst}
use Rattle.placement.proofs.AskedLemmas.{others_within}
use Rattle.placement.proofs.table.Placement.asked.Goals as goal

pub overflow_add-order : goal.overflow_add-order
overflow_add-order c =
    let within : c.count_others-order.result ≤ length c.replicas-replicas.result.now = subst (λ n. n ≤ length c.replicas-replicas.result.now) (sym c.count_others-order.ensures) (others_within c.home-home.result c.replicas-replicas.result.now) in
    search rules
