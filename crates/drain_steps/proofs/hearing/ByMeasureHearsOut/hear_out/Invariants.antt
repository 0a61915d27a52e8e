use Rattle.mail_contract.specs.Boxes.{weak_box_of}
use Rattle.mail_contract.specs.Standing.{AreMet}
use Rattle.worker_core.specs.Sealed.{batch_kept}
use Rattle.worker_core.specs.Turns.{may_come}
use Rattle.drain_steps.proofs.HearingLemmas.{HearsOn}
use Rattle.drain_steps.proofs.hearing.ByMeasureHearsOut.hear_out.Given as goal

abbrev pub invariant-loop : goal.invariant-loop
invariant-loop g l = record {
  on : HearsOn g.G.GossipRx.key g.G.GossipRx.senders (weak_box_of g.G.GossipRx.got g.G.GossipRx.answers g.G.GossipRx.about g.G.GossipRx.due g.G.GossipRx.most) g.G.GossipRx.keeps.complete l.fn.worker l.worker;
  met : AreMet (g.G.GossipRx.senders (g.G.GossipRx.key l.worker.gossip_in)) (g.G.GossipRx.about l.worker.gossip_in);
}

abbrev pub decreases-loop : goal.decreases-loop
decreases-loop g l = may_come (g.G.GossipRx.most l.worker.gossip_in) (batch_kept l.worker.kept)
