use Rattle.std.proofs.Common.{◌∙◌, arith}
use Rattle.placement.proofs.VectorCopies.{same_items, same_length, copies_have_some}
use Rattle.placement.proofs.table.Placement.copy.Goals as goal

pub invariant_of-result : goal.invariant_of-result
invariant_of-result c =
    let vectors = c.self.inside.replicas.items in
    let copies = c.in_ok-replicas.replicas.items in
    let same = same_items vectors copies c.in_ok-replicas.ensures.cases.0 in
    let most = c.self.invariant.0 in
    (omega (arith, same_length vectors copies same), copies_have_some vectors copies same c.self.invariant.1)

pub returns : goal.returns
returns c = same_items c.self.inside.replicas.items c.in_ok-replicas.replicas.items c.in_ok-replicas.ensures.cases.0 ∙ c.self.view_is
