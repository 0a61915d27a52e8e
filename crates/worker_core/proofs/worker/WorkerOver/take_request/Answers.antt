use Rattle.std.proofs.Common.{◌≡◌, ◌∙◌, ◌+◌, ap, min, subst, sym, None, Some, Ok}
use Rattle.lattice_laws.specs.Counts.{one_more}
use Rattle.lattice_laws.specs.declared.lattice.NoMemory.{NoMemory}
use Rattle.mail_contract.specs.Takes.{Took}
use Rattle.worker_core.specs.Kept.{IsLawful}
use Rattle.worker_core.specs.Local.{state_of}
use Rattle.worker_core.specs.State.{lists_of}
use Rattle.worker_core.specs.Turns.{MayAsk}
use Rattle.worker_core.specs.declared.local.Local.{Local}
use Rattle.worker_core.specs.declared.popped.Popped.TheVariants as popped
use Rattle.worker_core.proofs.LawfulLemmas.{none_held, request_lawful}
use Rattle.worker_core.proofs.worker.WorkerOver.take_request.Goals as goal

pub invariant_of-self-in-Some : goal.invariant_of-self-in-Some
invariant_of-self-in-Some g c =
    let was = c.self.inside.local in
    let before = lists_of g.Q.Rx.received g.T.Tx.sent g.O.Tx.sent g.G.GossipRx.got (record { state = state_of c.self.inside.local; ends = c.self.inside.ends }) in
    let received = g.Q.Rx.received c.take_one.new.requests in
    let none : was.kept ≡ None = ap (λ worker. worker.state.kept) c.self.view_is ∙ c.requires.kept in
    let free : was.held ≡ None = none_held was.held (sym c.is_some.ensures ∙ c.if-is_some.false) in
    let asks = subst (λ worker. MayAsk worker.state) (sym c.self.view_is) c.requires.asks in
    let took = subst (λ answer. Took {E = NoMemory} (Ok answer) (g.Q.Rx.received c.self.inside.ends.requests) received) c.in-Some.is c.in_ok-session.ensures.takes.received in
    let counted : c.count_request.new.local ≡ record was { kept = Some (popped.Request c.in-Some.session c.in-Some.request); since = min (was.since + 1) was.round; taken = one_more was.taken } =
    c.count_request.ensures.rest ∙ (λ j. record was { kept = c.keep.ensures j; since = min (was.since + 1) was.round; taken = c.count_request.ensures.taken j }) in
    subst (λ (local : Local). IsLawful (lists_of g.Q.Rx.received g.T.Tx.sent g.O.Tx.sent g.G.GossipRx.got (record { state = state_of local; ends = record c.self.inside.ends { requests = c.take_one.new.requests } })) local.taken local.changes.most)
    (sym counted)
    (request_lawful before was.taken was.changes.most c.self.invariant c.in-Some.session c.in-Some.request received none free asks c.attest_request.ensures took)
