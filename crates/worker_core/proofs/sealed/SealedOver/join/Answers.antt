use Rattle.worker_core.proofs.SealedLemmas.{joined_keeps}
use Rattle.worker_core.proofs.sealed.SealedOver.join.Goals as goal

pub invariant_of-self : goal.invariant_of-self
invariant_of-self g c =
    joined_keeps c.self.inside.kinds c.self.inside.map (g.Q.Rx.received c.self.inside.requests) (g.G.GossipRx.got c.self.inside.gossip_in) c.self.inside.kept c.self.invariant
    c.join_kept.result c.join_kept.new.map c.join_kept.new.kept c.join_kept.ensures.joins
