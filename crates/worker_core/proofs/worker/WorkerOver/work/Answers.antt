use Rattle.std.proofs.Common.{◌≡◌, length, map}
use Rattle.worker_core.specs.Local.{state_of}
use Rattle.worker_core.specs.State.{lists_of}
use Rattle.worker_core.proofs.LawfulLemmas.{as_long, served_lawful}
use Rattle.worker_core.proofs.worker.WorkerOver.work.Goals as goal

pub invariant_of-self : goal.invariant_of-self
invariant_of-self g c =
    let before = lists_of g.Q.Rx.received g.T.Tx.sent g.O.Tx.sent g.G.GossipRx.got (record { state = state_of c.self.inside.local; ends = c.self.inside.ends }) in
    let now = state_of c.serve.new.local in
    let replied = map g.T.Tx.sent c.serve.new.replies.items in
    let long : length replied ≡ length (map g.T.Tx.sent c.self.inside.ends.replies.items) = as_long g.T.Tx.number g.T.Tx.sent c.serve.new.replies.items c.self.inside.ends.replies.items c.serve.ensures.numbers in
    rw (c.serve.ensures.taken, c.serve.ensures.most)
    (served_lawful before c.self.inside.local.taken c.self.inside.local.changes.most c.self.invariant c.serve.result now replied long c.serve.ensures.ok c.serve.ensures.err)
