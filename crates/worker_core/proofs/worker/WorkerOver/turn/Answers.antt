use Rattle.worker_core.specs.State.{lists_of}
use Rattle.worker_core.proofs.LawfulLemmas.{as_long}
use Rattle.worker_core.proofs.ShowingLemmas.{shows_more}
use Rattle.worker_core.proofs.worker.WorkerOver.turn.Goals as goal

pub returns-clause-shows_more : goal.returns-clause-shows_more
returns-clause-shows_more g c =
    let lists = lists_of g.Q.Rx.received g.T.Tx.sent g.O.Tx.sent g.G.GossipRx.got in
    shows_more (lists c.args.self.now) (lists c.step-did.new.self) c.attest_kept.ensures c.attest_kept-2.ensures
    (as_long g.T.Tx.number g.T.Tx.sent c.step-did.new.self.ends.replies.items c.args.self.now.ends.replies.items c.step-did.ensures.keys.replies_numbers)
    c.step-did.result _ _ _ c.step-did.ensures.did
