use Rattle.lattice_laws.proofs.Joining.{joined_more_at}
use Rattle.lattice_laws.proofs.joins.join_all.Goals as goal

pub loop-each-preserved : goal.loop-each-preserved
loop-each-preserved g c =
    joined_more_at g.met.L.Lattice.laws g.L.Lattice.plain c.args.first.now c.each-item.result c.args.rest.now _ _ _ c.loop-each-test.true c.each-item.is
    c.loop-each.invariant c.attest.ensures c.attest-in-loop-each.ensures c.requires c.in_ok-join.ensures.ok
