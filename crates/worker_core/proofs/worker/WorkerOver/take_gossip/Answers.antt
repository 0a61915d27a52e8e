use Rattle.std.proofs.Common.{◌≡◌, ◌∙◌, ap, subst, None, Ok}
use Rattle.lattice_laws.specs.declared.lattice.NoMemory.{NoMemory}
use Rattle.mail_contract.specs.Got.{HandedOut}
use Rattle.worker_core.specs.Kept.{AreEntries}
use Rattle.worker_core.specs.Local.{state_of}
use Rattle.worker_core.specs.State.{lists_of}
use Rattle.worker_core.proofs.LawfulLemmas.{batch_lawful}
use Rattle.worker_core.proofs.worker.WorkerOver.take_gossip.Goals as goal

pub invariant_of-self-in-Some : goal.invariant_of-self-in-Some
invariant_of-self-in-Some g c =
    let before = lists_of g.Q.Rx.received g.T.Tx.sent g.O.Tx.sent g.G.GossipRx.got (record { state = state_of c.self.inside.local; ends = c.self.inside.ends }) in
    let got = g.G.GossipRx.got c.take_weak.new.gossip in
    let none : c.self.inside.local.kept ≡ None = ap (λ worker. worker.state.kept) c.self.view_is ∙ c.requires in
    let added = subst (λ answer. HandedOut {E = NoMemory} (Ok answer) (g.G.GossipRx.got c.self.inside.ends.gossip_in) got) c.in-Some.is c.in_ok-sender.ensures.hands_out.got in
    rw c.keep.ensures
    (batch_lawful before c.self.inside.local.taken c.self.inside.local.changes.most c.self.invariant c.in-Some.sender c.in-Some.batch got none (subst AreEntries c.as_slice.ensures c.attest_entries.ensures) added)
