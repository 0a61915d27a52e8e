use Rattle.std.proofs.Common.{◌∙◌, ap}
use Rattle.worker_core.specs.Local.{state_of}
use Rattle.worker_core.specs.State.{kept_request, lists_of}
use Rattle.worker_core.proofs.SealedLemmas.{seals}
use Rattle.worker_core.proofs.worker.WorkerOver.seal.Goals as goal

pub invariant_of-sealed : goal.invariant_of-sealed
invariant_of-sealed g c =
    let lists = lists_of g.Q.Rx.received g.T.Tx.sent g.O.Tx.sent g.G.GossipRx.got (record { state = state_of c.self.inside.local; ends = c.self.inside.ends }) in
    rw c.batch_of.ensures (seals lists c.self.invariant.keeps (ap (λ worker. kept_request worker.state.kept) c.self.view_is ∙ c.requires.none_kept))
