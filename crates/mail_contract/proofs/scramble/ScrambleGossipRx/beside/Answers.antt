use Rattle.std.proofs.Common.{ap, sym, subst, arith}
use Rattle.mail_contract.specs.Standing.{left_of_all}
use Rattle.mail_contract.specs.Takes.{IsFrontOfSent}
use Rattle.mail_contract.proofs.DealLemmas.{got_in, missing_held, times_at_most, told_beside}
use Rattle.mail_contract.proofs.scramble.ScrambleGossipRx.beside.Goals as goal

pub invariant_of-self-clause-told : goal.invariant_of-self-clause-told
invariant_of-self-clause-told g c = λ s. subst (λ received. IsFrontOfSent g.R.Rx.keeps.complete received (g.R.Rx.about c.beside.new.self) s) (sym c.beside.ensures.received)
    (told_beside g.R.Rx.keeps.shows g.R.Rx.keeps.complete (g.R.From.Tx.number c.args.tx.now) (g.R.From.Tx.sent c.args.tx.now) (g.R.Rx.received c.args.self.now.inner) (g.R.Rx.about c.args.self.now.inner) (g.R.Rx.about c.beside.new.self)
    c.beside.ensures.learned.others c.beside.ensures.learned.shown c.beside.ensures.learned.still c.beside.ensures.told c.args.self.now.told s)

pub returns-clause-told : goal.returns-clause-told
returns-clause-told g c = λ complete. got_in c.args.self.now.held.items (g.R.Rx.received c.args.self.now.inner) (g.R.From.Tx.number c.args.tx.now) (g.R.From.Tx.sent c.args.tx.now) (c.beside.ensures.told complete)

pub returns-clause-roomy : goal.returns-clause-roomy
returns-clause-roomy g c = λ roomy. omega (arith, c.beside.ensures.roomy roomy, missing_held c.args.self.now.held.items (g.R.Rx.received c.args.self.now.inner) (g.R.From.Tx.number c.args.tx.now) (g.R.From.Tx.sent c.args.tx.now))

pub returns-clause-freed : goal.returns-clause-freed
returns-clause-freed g c = λ freed none. c.beside.ensures.freed freed (omega (arith, none, missing_held c.args.self.now.held.items (g.R.Rx.received c.args.self.now.inner) (g.R.From.Tx.number c.args.tx.now) (g.R.From.Tx.sent c.args.tx.now)))

pub returns-clause-most : goal.returns-clause-most
returns-clause-most g c = λ finite. omega (arith, times_at_most c.args.self.now.held.items, c.args.self.now.few, ap (λ k. left_of_all (g.R.Rx.senders k) (g.R.Rx.about c.beside.new.self)) c.beside.ensures.key)
