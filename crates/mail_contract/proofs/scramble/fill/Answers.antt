use Rattle.std.proofs.Common.{rules, ◌≡◌, ◌≤◌, ◌∙◌, ◌++◌, ◌∷◌, [], IsTrue, length, ap, subst, arith, length-append}
use Rattle.mail_contract.specs.Standing.{AreMet}
use Rattle.mail_contract.specs.Scrambled.{times_of_all}
use Rattle.mail_contract.proofs.ScrambleLemmas.{fills_more, got_same, held_more, new_held, times_push}
use Rattle.mail_contract.proofs.WeakLemmas.{left_at_most, none_less, one_less}
use Rattle.mail_contract.proofs.scramble.fill.Goals as goal

pub loop-next-preserved : goal.loop-next-preserved
loop-next-preserved g c =
    let v = c.loop-next.invariant in
    let rx = g.R.Rx in
    let senders = rx.senders (rx.key c.args.inner.now) in
    let before = c.loop-next.inner in
    let now = c.take.new.self in
    let held = c.loop-next.held.items in
    let s = c.in-Some-2.sender in
    let m = c.in-Some-2.message in
    let e = rw c.in-Some-2.is at c.in_ok-take.ensures in
    let received = rx.received before in
    let low : 1 ≤ s = e.sender.0 in
    let high : s ≤ senders = subst (λ k. s ≤ rx.senders k) v.key e.sender.1 in
    let pushes : c.push_reserved.new.self.items ≡ held ++ new_held s m (length received) ∷ [] =
    c.push_reserved.ensures.items ∙ ap (λ n. held ++ new_held s m n ∷ []) v.counted in
    record {
      few = omega (arith, ap length pushes, length-append held (new_held s m (length received) ∷ []), c.loop-next-test.true);
      room = search rules;
      counted = omega (arith, c.in-Some.ensures, v.counted, ap length e.received, length-append received ((s, m) ∷ []));
      nones = e.answers.0 ∙ v.nones;
      key = e.key ∙ v.key;
      held = rw (e.received, pushes) (held_more senders received held s m low high v.held);
      fills = rw (e.received, pushes) (fills_more _ received _ held s m v.fills);
      got = (λ j. Rattle.mail_contract.specs.Scrambled.got_of_held (pushes j) (e.received j)) ∙ got_same senders received held s m v.held ∙ v.got;
      standing = λ k. ((e.standing k).0 ∙ (v.standing k).0, (e.standing k).1 ∙ (v.standing k).1);
      told = λ k is. e.told k (v.told k is);
      left = λ finite k met.
          let met_now : IsTrue (rx.about before k).met = (v.standing k).1 ∙ met in
          omega (arith, v.left finite k met, left_at_most c.take.result (rx.about before) (rx.about now) k (c.take.ensures.left finite) met_now);
      most = λ finite met.
          let met_now : AreMet senders (rx.about before) = (λ k low high. (v.standing k).1 ∙ met k low high) in
          omega (arith, v.most finite met, one_less senders s (rx.about before) (rx.about now) low high met_now (e.left finite).0 (e.left finite).1, ap times_of_all pushes, times_push held s m (length received));
    }

pub returns-in-None-clause-most : goal.returns-in-None-clause-most
returns-in-None-clause-most g c =
    let v = c.loop-next.invariant in
    let rx = g.R.Rx in
    let e = rw c.in-None.is at c.in_ok-take.ensures in
    λ finite met. omega (arith, v.most finite met, none_less (rx.senders (rx.key c.args.inner.now)) (rx.about c.loop-next.inner) (rx.about c.take.new.self) (e.left finite))
