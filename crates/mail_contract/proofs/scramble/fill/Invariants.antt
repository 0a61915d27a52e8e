use Rattle.std.proofs.Common.{◌≡◌, ◌+◌, ◌*◌, ◌-◌, ◌≤◌, ℕ, IsTrue, length}
use Rattle.std.specs.Vec.{vec_capacity}
use Rattle.mail_contract.specs.Scrambled.{AreHeld, Fills, got_of_held, times_of_all}
use Rattle.mail_contract.specs.Standing.{AllStand, AreMet, left_of_all}
use Rattle.mail_contract.specs.Takes.{IsFrontOfSent}
use Rattle.mail_contract.proofs.scramble.fill.Given as goal

abbrev pub invariant-loop-next : goal.invariant-loop-next
invariant-loop-next g l =
    let rx = g.R.Rx in
    let senders = rx.senders (rx.key l.fn.inner) in record {
      few : length l.held.items ≤ 8;
      room : 8 ≤ vec_capacity l.held;
      counted : l.taken ≡ length (rx.received l.inner);
      nones : (rx.answers l.inner).nones ≡ (rx.answers l.fn.inner).nones;
      key : rx.key l.inner ≡ rx.key l.fn.inner;
      held : AreHeld senders (rx.received l.inner) l.held.items;
      fills : Fills (rx.received l.fn.inner) (rx.received l.inner) l.fn.held.items l.held.items;
      got : got_of_held l.held.items (rx.received l.inner) ≡ got_of_held l.fn.held.items (rx.received l.fn.inner);
      standing : AllStand (rx.about l.fn.inner) (rx.about l.inner);
      told : (sender : ℕ) → IsFrontOfSent rx.keeps.complete (rx.received l.fn.inner) (rx.about l.fn.inner) sender → IsFrontOfSent rx.keeps.complete (rx.received l.inner) (rx.about l.inner) sender;
      left : IsTrue rx.keeps.finite → (sender : ℕ) → IsTrue (rx.about l.fn.inner sender).met → (rx.about l.inner sender).left ≤ (rx.about l.fn.inner sender).left;
      most : IsTrue rx.keeps.finite → AreMet senders (rx.about l.fn.inner) → 2 * left_of_all senders (rx.about l.inner) + times_of_all l.held.items ≡ 2 * left_of_all senders (rx.about l.fn.inner) + times_of_all l.fn.held.items;
    }

abbrev pub decreases-loop-next : goal.decreases-loop-next
decreases-loop-next g l = 8 - length l.held.items
