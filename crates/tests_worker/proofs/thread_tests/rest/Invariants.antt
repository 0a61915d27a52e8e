use Rattle.worker_core.specs.State.{IsFixed, KeysStay}
use Rattle.tests_worker.proofs.thread_tests.rest.Given as goal

abbrev pub invariant-loop : goal.invariant-loop
invariant-loop g l = record {
  fixed : IsFixed l.fn.worker.state l.worker.state;
  keys : KeysStay g.Q.Rx.key g.T.Tx.key g.T.Tx.number g.O.Tx.key g.O.Tx.number g.G.GossipRx.key l.fn.worker l.worker;
}
