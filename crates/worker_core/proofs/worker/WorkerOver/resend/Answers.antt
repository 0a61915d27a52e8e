use Rattle.std.proofs.Common.{map}
use Rattle.worker_core.specs.Local.{state_of}
use Rattle.worker_core.specs.State.{lists_of}
use Rattle.worker_core.proofs.LawfulLemmas.{resent_lawful}
use Rattle.worker_core.proofs.worker.WorkerOver.resend.Goals as goal

pub invariant_of-self : goal.invariant_of-self
invariant_of-self g c =
    let before = lists_of g.Q.Rx.received g.T.Tx.sent g.O.Tx.sent g.G.GossipRx.got (record { state = state_of c.self.inside.local; ends = c.self.inside.ends }) in
    resent_lawful before c.self.inside.local.taken c.self.inside.local.changes.most c.self.invariant c.resend.result c.resend.new.held (map g.T.Tx.sent c.resend.new.replies.items) _ _ c.resend.ensures.resent
