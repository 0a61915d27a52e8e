use Rattle.party_turns.specs.Stretch.{left_to_serve}
use Rattle.party_turns.proofs.ServesLemmas.{ServesOn}
use Rattle.party_turns.proofs.StretchLemmas.{KeepsOn}
use Rattle.party_turns.proofs.turning.ByMeasureTurnsOut.turn_out.Given as goal

abbrev pub invariant-loop : goal.invariant-loop
invariant-loop g l = record {
  keeps : KeepsOn g.Q.Rx.key g.T.Tx.key g.T.Tx.number g.O.Tx.key g.O.Tx.number g.G.GossipRx.key g.Q.Rx.keeps.complete g.Q.Rx.senders g.Q.Rx.received g.Q.Rx.about g.T.Tx.sent
      g.O.Tx.sent g.G.GossipRx.keeps.complete g.G.GossipRx.senders g.G.GossipRx.got g.G.GossipRx.about g.G.GossipRx.due g.O.Tx.clear g.O.Tx.roomy g.O.Tx.unseen l.fn.worker l.worker;
  serves : ServesOn g.Q.Rx.received g.T.Tx.sent g.O.Tx.sent g.G.GossipRx.got g.T.Tx.clear l.fn.worker l.worker;
}

abbrev pub decreases-loop : goal.decreases-loop
decreases-loop g l = left_to_serve (λ its. g.Q.Rx.senders (g.Q.Rx.key its)) g.Q.Rx.received g.Q.Rx.about l.worker
