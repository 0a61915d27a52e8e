use Rattle.std.proofs.Common.{rules, ◌≡◌, ◌≢◌, ◌∙◌, ap, arith}
use Rattle.mail_contract.specs.Standing.{AllStand}
use Rattle.mail_contract.proofs.MapsLemmas.{popped_two}
use Rattle.mail_contract.proofs.StandsLemmas.{apart_is_not_settled}
use Rattle.mailbox_rule.specs.Ends.{about_in}
use Rattle.tests_mail.proofs.queue_tests.two_threads_send_and_a_third_takes.Goals as goal

pub settle-requires-2-clause-once : goal.settle-requires-2-clause-once
settle-requires-2-clause-once g c =
    let numbers = popped_two (λ tx. tx.number) _ _ _ _ _ c.in-Some-Some.ensures.items c.in-Some-Some.ensures'.items c.in_ok-txs.ensures.numbers in
    let first_same : c.join-sent.result.0.0.0.number ≡ c.in-Some-Some.first.number = search rules in
    let second_same : c.join-sent.result.0.1.0.number ≡ c.in-Some-Some.second.number = search rules in
    let n = c.join-sent.result.0.1.0.number in
    let differs : n ≢ c.join-sent.result.0.0.0.number = (λ e. omega (arith, e, first_same, second_same, numbers.0, numbers.1)) in
    let stands : AllStand (about_in c.in_ok-txs.rx.pass.me.view.client) (about_in c.join-sent.result.1.0.pass.me.view.client) = search rules in
    apart_is_not_settled _ (ap (λ l. l.standing) (c.settle.ensures.others n differs) ∙ (stands n).0 ∙ ap (λ l. l.standing) (c.in_ok-txs.ensures.about n))
