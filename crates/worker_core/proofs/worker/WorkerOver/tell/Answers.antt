use Rattle.std.proofs.Common.{ℕ, map, subst, sym}
use Rattle.gossip_rounds.specs.Batches.{RoomAt}
use Rattle.worker_core.specs.Local.{state_of}
use Rattle.worker_core.specs.State.{Lists, PlainWorker, lists_of}
use Rattle.worker_core.specs.Turns.{Rounds, counts_of}
use Rattle.worker_core.proofs.LawfulLemmas.{round_lawful, rounds}
use Rattle.worker_core.proofs.worker.WorkerOver.tell.Goals as goal

pub invariant_of-self : goal.invariant_of-self
invariant_of-self g c =
    let was = c.self.inside.local in
    let before = lists_of g.Q.Rx.received g.T.Tx.sent g.O.Tx.sent g.G.GossipRx.got (record { state = state_of was; ends = c.self.inside.ends }) in
    rw (c.count_again.ensures, c.gossip-told.ensures.most)
    (round_lawful before was.taken was.changes.most c.self.invariant c.gossip-told.result c.gossip-told.new.changes.of_mates (map g.O.Tx.sent c.gossip-told.new.senders.items) c.gossip-told.new.turned.items _ _ c.gossip-told.ensures.tells)

pub returns-clause-rounds : goal.returns-clause-rounds
returns-clause-rounds g c =
    let was = c.self.inside.local in
    let lists_are = lists_of g.Q.Rx.received g.T.Tx.sent g.O.Tx.sent g.G.GossipRx.got in
    let counts_are = counts_of g.Q.Rx.answers g.T.Tx.fulls g.O.Tx.fulls g.G.GossipRx.answers in
    let worker : PlainWorker g.row.Q.Denot g.row.T.Denot g.row.O.Denot g.row.G.Denot = record { state = state_of was; ends = c.self.inside.ends } in
    let now : PlainWorker g.row.Q.Denot g.row.T.Denot g.row.O.Denot g.row.G.Denot = record { state = state_of was; ends = record c.self.inside.ends { gossip_out = c.gossip-told.new.senders } } in
    let changed = c.gossip-told.new.changes.of_mates in
    let turned = c.gossip-told.new.turned.items in
    let told = map g.O.Tx.sent c.gossip-told.new.senders.items in
    let lists_now : ℕ → Lists = λ since. record (lists_are worker) { state = record (state_of was) { changed = changed; turned = turned; since = since }; told = told } in
    subst (λ before. Rounds c.gossip-told.result (lists_are before) (lists_now c.count_again.new.since) (counts_are before) (counts_are now) (RoomAt g.O.Tx.clear g.O.Tx.roomy g.O.Tx.unseen before.ends.gossip_out.items)) c.self.view_is
    (subst (λ since. Rounds c.gossip-told.result (lists_are worker) (lists_now since) (counts_are worker) (counts_are now) (RoomAt g.O.Tx.clear g.O.Tx.roomy g.O.Tx.unseen c.self.inside.ends.gossip_out.items)) (sym c.count_again.ensures)
    (rounds (lists_are worker) was.taken was.changes.most c.self.invariant c.gossip-told.result changed told turned (counts_are worker) (counts_are now) c.gossip-told.ensures.tells))
