use Rattle.std.proofs.Common.{ℕ, Ok, Some, ap, arith}
use Rattle.mail_contract.specs.Standing.{left_of_all}
use Rattle.mail_contract.proofs.WeakLemmas.{all_fall, bounded_out, handed_out}
use Rattle.late_gossip.proofs.LateLemmas.{stay_due, still_of_settled}
use Rattle.late_gossip.proofs.late.LateGossipRx.take.Goals as goal

pub returns-in-Some-clause-got : goal.returns-in-Some-clause-got
returns-in-Some-clause-got g c =
    let e = rw c.in-Some.is at c.in_ok-sender.ensures in
    handed_out {E = ℕ} (Ok (Some (c.in-Some.sender, c.in-Some.message))) _ _ e.received

pub returns-in-Some-clause-told : goal.returns-in-Some-clause-told
returns-in-Some-clause-told g c = still_of_settled _ _ _ (g.R.Rx.about c.args.self.now.inner) (g.R.Rx.about c.take.new.self) c.in_ok-sender.ensures.standing c.in_ok-sender.ensures.told

pub returns-in-Some-clause-bounded : goal.returns-in-Some-clause-bounded
returns-in-Some-clause-bounded g c = λ bounded.
    let e = rw c.in-Some.is at c.in_ok-sender.ensures in
    bounded_out {E = ℕ} (Ok (Some (c.in-Some.sender, c.in-Some.message))) (g.R.Rx.received c.take.new.self) (g.R.Rx.about c.take.new.self) (e.bounded bounded)

pub returns-in-Some-clause-most : goal.returns-in-Some-clause-most
returns-in-Some-clause-most g c = λ finite met.
    let e = rw c.in-Some.is at c.in_ok-sender.ensures in
    let falls = all_fall {E = ℕ} (Ok (Some (c.in-Some.sender, c.in-Some.message))) _ (g.R.Rx.about c.args.self.now.inner) (g.R.Rx.about c.take.new.self) e.sender met (e.left finite) in
    omega (arith, falls.0, ap (λ key. left_of_all (g.R.Rx.senders key) (g.R.Rx.about c.take.new.self)) e.key)

pub returns-in-Some-clause-falls : goal.returns-in-Some-clause-falls
returns-in-Some-clause-falls g c = λ finite met.
    let e = rw c.in-Some.is at c.in_ok-sender.ensures in
    let falls = all_fall {E = ℕ} (Ok (Some (c.in-Some.sender, c.in-Some.message))) _ (g.R.Rx.about c.args.self.now.inner) (g.R.Rx.about c.take.new.self) e.sender met (e.left finite) in
    omega (arith, falls.1, ap (λ key. left_of_all (g.R.Rx.senders key) (g.R.Rx.about c.take.new.self)) e.key)

pub returns-in-Some-clause-due : goal.returns-in-Some-clause-due
returns-in-Some-clause-due g c =
    let e = rw c.in-Some.is at c.in_ok-sender.ensures in
    stay_due c.args.self.now.debts.items _ _ (g.R.Rx.about c.args.self.now.inner) (g.R.Rx.about c.take.new.self) c.in-Some.sender c.in-Some.message e.received e.standing (e.bounded c.args.self.now.bounded)
