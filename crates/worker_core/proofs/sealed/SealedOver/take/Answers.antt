use Rattle.std.proofs.Common.{◌≡◌, ◌∙◌, ap, subst, None, Ok}
use Rattle.lattice_laws.specs.declared.lattice.NoMemory.{NoMemory}
use Rattle.mail_contract.specs.Got.{HandedOut}
use Rattle.worker_core.specs.Kept.{AreEntries}
use Rattle.worker_core.proofs.SealedLemmas.{sealed_takes}
use Rattle.worker_core.proofs.sealed.SealedOver.take.Goals as goal

pub invariant_of-self-in-Some : goal.invariant_of-self-in-Some
invariant_of-self-in-Some g c =
    let was = c.self.inside in
    let got = g.G.GossipRx.got c.take_weak.new.gossip in
    let none : was.kept ≡ None = ap (λ worker. worker.kept) c.self.view_is ∙ c.requires in
    let added = subst (λ answer. HandedOut {E = NoMemory} (Ok answer) (g.G.GossipRx.got was.gossip_in) got) c.in-Some.is c.in_ok-sender.ensures.hands_out.got in
    rw c.keep_batch.ensures
    (sealed_takes was.kinds was.map (g.Q.Rx.received was.requests) (g.G.GossipRx.got was.gossip_in) was.kept c.self.invariant c.in-Some.sender c.in-Some.batch got none
    (subst AreEntries c.as_slice.ensures c.attest_entries.ensures) added)
