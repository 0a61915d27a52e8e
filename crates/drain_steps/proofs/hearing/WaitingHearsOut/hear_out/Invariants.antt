use Rattle.mail_contract.specs.Boxes.{weak_box_of}
use Rattle.drain_steps.proofs.HearingLemmas.{HearsOn}
use Rattle.drain_steps.proofs.hearing.WaitingHearsOut.hear_out.Given as goal

abbrev pub invariant-loop : goal.invariant-loop
invariant-loop g l = record {
  on : HearsOn g.G.GossipRx.key g.G.GossipRx.senders (weak_box_of g.G.GossipRx.got g.G.GossipRx.answers g.G.GossipRx.about g.G.GossipRx.due g.G.GossipRx.most) g.G.GossipRx.keeps.complete l.fn.worker l.worker;
  rounds : (goal.iterator-loop g).can_next l.iterator' × (goal.iterator-loop g).is_finite l.iterator';
}
