use Rattle.std.proofs.Common.{rules, ◌≡◌, [], true, length, ap, sym, subst, arith}
use Rattle.mail_contract.specs.Got.{Added}
use Rattle.mail_contract.specs.Scrambled.{AreHeld, got_of_held}
use Rattle.mail_contract.specs.Standing.{left_of_all}
use Rattle.mail_contract.proofs.DealLemmas.{all_handed_out, fewer_dealt, got_dealt, got_of_sent, held_dealt, none_held, sender_dealt}
use Rattle.mail_contract.proofs.WeakLemmas.{due_handed_out}
use Rattle.mail_contract.proofs.scramble.ScrambleGossipRx.take.Goals as goal

pub returns-in_err-fill-clause-told : goal.returns-in_err-fill-clause-told
returns-in_err-fill-clause-told g c = λ s before. got_of_sent c.fill.new.held.items (g.R.Rx.received c.fill.new.inner) g.R.Rx.keeps.complete (g.R.Rx.about c.fill.new.inner) s (c.in_err-fill.ensures.told s (c.args.self.now.told s))

pub returns-then-is_empty-clause-told : goal.returns-then-is_empty-clause-told
returns-then-is_empty-clause-told g c = λ s before. got_of_sent c.fill.new.held.items (g.R.Rx.received c.fill.new.inner) g.R.Rx.keeps.complete (g.R.Rx.about c.fill.new.inner) s (c.in_ok-fill.ensures.told s (c.args.self.now.told s))

pub returns-then-is_empty-clause-none : goal.returns-then-is_empty-clause-none
returns-then-is_empty-clause-none g c =
    let none : c.fill.new.held.items ≡ [] = none_held _ (search rules) in
    all_handed_out g.R.Rx.keeps.complete c.fill.new.held.items (g.R.Rx.received c.fill.new.inner) (g.R.Rx.about c.fill.new.inner) none (c.in_ok-fill.ensures.dry (omega (arith, ap length none)))

pub returns-then-is_empty-clause-advances : goal.returns-then-is_empty-clause-advances
returns-then-is_empty-clause-advances g c = λ complete.
    let none : c.fill.new.held.items ≡ [] = none_held _ (search rules) in
    due_handed_out g.R.Rx.keeps.complete (got_of_held c.fill.new.held.items (g.R.Rx.received c.fill.new.inner)) (g.R.Rx.about c.fill.new.inner) (λ _. true) complete (all_handed_out g.R.Rx.keeps.complete c.fill.new.held.items (g.R.Rx.received c.fill.new.inner) (g.R.Rx.about c.fill.new.inner) none (c.in_ok-fill.ensures.dry (omega (arith, ap length none))))

pub invariant_of-self-2 : goal.invariant_of-self-2
invariant_of-self-2 g c =
    let fewer = fewer_dealt _ _ _ _ _ c.deal.ensures.dealt in
    let few = c.in_ok-fill.ensures.few in
    record {
      few = omega (arith, few, fewer.long);
      room = search rules;
      counted = c.in_ok-fill.ensures.counted;
      are_held = subst (λ key. AreHeld (g.R.Rx.senders key) (g.R.Rx.received c.fill.new.inner) c.deal.new.held.items) (sym c.in_ok-fill.ensures.key)
          (held_dealt _ _ _ _ _ _ _ c.in_ok-fill.ensures.held c.deal.ensures.dealt);
      told = λ s. c.in_ok-fill.ensures.told s (c.args.self.now.told s);
    }

pub returns-clause-got : goal.returns-clause-got
returns-clause-got g c = subst (λ before. Added c.deal.result.0 c.deal.result.1 before (got_of_held c.deal.new.held.items (g.R.Rx.received c.fill.new.inner))) c.in_ok-fill.ensures.got
    (got_dealt _ _ _ _ _ _ _ c.in_ok-fill.ensures.held c.deal.ensures.dealt)

pub returns-clause-sender : goal.returns-clause-sender
returns-clause-sender g c = sender_dealt _ _ _ _ _ _ _ c.in_ok-fill.ensures.held c.deal.ensures.dealt

pub returns-clause-told : goal.returns-clause-told
returns-clause-told g c = λ s before. got_of_sent c.deal.new.held.items (g.R.Rx.received c.fill.new.inner) g.R.Rx.keeps.complete (g.R.Rx.about c.fill.new.inner) s (c.in_ok-fill.ensures.told s (c.args.self.now.told s))

pub returns-clause-most : goal.returns-clause-most
returns-clause-most g c = λ finite met.
    let fewer = fewer_dealt _ _ _ _ _ c.deal.ensures.dealt in
    omega (arith, c.in_ok-fill.ensures.most finite met, fewer.less, ap (λ key. left_of_all (g.R.Rx.senders key) (g.R.Rx.about c.fill.new.inner)) c.in_ok-fill.ensures.key)

pub returns-clause-falls : goal.returns-clause-falls
returns-clause-falls g c = λ finite met.
    let fewer = fewer_dealt _ _ _ _ _ c.deal.ensures.dealt in
    omega (arith, c.in_ok-fill.ensures.most finite met, fewer.less, ap (λ key. left_of_all (g.R.Rx.senders key) (g.R.Rx.about c.fill.new.inner)) c.in_ok-fill.ensures.key)
