use Rattle.std.proofs.Common.{◌+◌}
use Rattle.worker_core.specs.State.{dirty, kept_batch}
use Rattle.worker_core.specs.Turns.{may_come}
use Rattle.party_turns.proofs.ServesLemmas.{ServesOn}
use Rattle.party_turns.proofs.StretchLemmas.{KeepsOn}
use Rattle.party_turns.proofs.turning.turn_on.Given as goal

abbrev pub invariant-loop-did : goal.invariant-loop-did
invariant-loop-did g l = record {
  keeps : KeepsOn g.Q.Rx.key g.T.Tx.key g.T.Tx.number g.O.Tx.key g.O.Tx.number g.G.GossipRx.key g.Q.Rx.keeps.complete g.Q.Rx.senders g.Q.Rx.received g.Q.Rx.about g.T.Tx.sent
      g.O.Tx.sent g.G.GossipRx.keeps.complete g.G.GossipRx.senders g.G.GossipRx.got g.G.GossipRx.about g.G.GossipRx.due g.O.Tx.clear g.O.Tx.roomy g.O.Tx.unseen l.fn.worker l.worker;
  serves : ServesOn g.Q.Rx.received g.T.Tx.sent g.O.Tx.sent g.G.GossipRx.got g.T.Tx.clear l.fn.worker l.worker;
}

abbrev pub decreases-loop-did : goal.decreases-loop-did
decreases-loop-did g l = may_come (g.G.GossipRx.most l.worker.ends.gossip_in) (kept_batch l.worker.state.kept) + dirty l.worker.state
