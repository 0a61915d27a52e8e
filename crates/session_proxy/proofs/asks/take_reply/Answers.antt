use Rattle.std.proofs.Common.{◌≡◌, ◌∙◌, inr, refl, rules, subst, sym, None, Ok}
use Rattle.lattice_laws.specs.declared.lattice.NoMemory.{NoMemory}
use Rattle.mail_contract.specs.Takes.{Took}
use Rattle.session_proxy.proofs.asks.take_reply.Goals as goal

pub returns-then-is_awaited-clause-hears : goal.returns-then-is_awaited-clause-hears
returns-then-is_awaited-clause-hears g c = λ line is.
    let none : c.args.local.now.kept ≡ None = sym c.take.ensures.value ∙ c.in_default.is in
    let took = subst (λ message. Took {E = NoMemory} (Ok message) (g.R.Rx.received c.args.replies.now) (g.R.Rx.received c.take_one.new.requests))
    c.in-Some-2.is c.in_ok-take_one.ensures.takes.received
    in
    inr (none, (c.if-is_awaited.ensures line is).0 refl, search rules, c.in-Some-2.field-0-0, took)
