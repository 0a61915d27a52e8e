use Rattle.std.proofs.Common.{ap, sym, ◌∙◌}
use Rattle.worker_core.proofs.SealedLemmas.{kept_hears}
use Rattle.worker_core.proofs.sealed.SealedOver.hear_next.Goals as goal

pub returns-then-has_kept-clause-hears : goal.returns-then-has_kept-clause-hears
returns-then-has_kept-clause-hears g c =
    kept_hears c.join.result _ _ _ _ _ _ _ _ _ (sym c.has_kept.ensures ∙ c.if-has_kept.true) c.join.ensures.did c.join.ensures.joins (ap (λ worker. g.G.GossipRx.got worker.gossip_in) c.join.ensures.fixed)
