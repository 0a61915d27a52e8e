use Rattle.std.proofs.Common.{◌≡◌, ◌≢◌, ◌∙◌, ap, arith}
use Rattle.mail_contract.proofs.MapsLemmas.{popped_two}
use Rattle.mail_contract.proofs.StandsLemmas.{apart_is_not_settled}
use Rattle.tests_mail.proofs.ring_tests.two_threads_send_and_a_third_takes.Goals as goal

pub settle-requires-clause-once : goal.settle-requires-clause-once
settle-requires-clause-once g c =
    let numbers = popped_two (λ tx. tx.number) _ _ _ _ _ c.in-Some-Some.ensures.items c.in-Some-Some.ensures'.items c.in_ok-txs.ensures.numbers in
    let first : c.side_by_side-ran.new.first.number ≡ 1 = c.side_by_side-ran.ensures.first_number ∙ numbers.0 in
    let n = c.side_by_side-ran.new.first.number in
    apart_is_not_settled _ ((c.side_by_side-ran.ensures.standing n).0 ∙ ap (λ l. l.standing) (c.in_ok-txs.ensures.about n (omega (arith, first)) (omega (arith, first))))

pub settle-requires-in-Some-Some-clause-once : goal.settle-requires-in-Some-Some-clause-once
settle-requires-in-Some-Some-clause-once g c =
    let numbers = popped_two (λ tx. tx.number) _ _ _ _ _ c.in-Some-Some.ensures.items c.in-Some-Some.ensures'.items c.in_ok-txs.ensures.numbers in
    let first : c.side_by_side-ran.new.first.number ≡ 1 = c.side_by_side-ran.ensures.first_number ∙ numbers.0 in
    let second : c.side_by_side-ran.new.second.number ≡ 2 = c.side_by_side-ran.ensures.second_number ∙ numbers.1 in
    let n = c.side_by_side-ran.new.second.number in
    let differs : n ≢ c.side_by_side-ran.new.first.number = (λ e. omega (arith, e, first, second)) in
    apart_is_not_settled _ (ap (λ l. l.standing) (c.settle.ensures.others n differs) ∙ (c.side_by_side-ran.ensures.standing n).0 ∙ ap (λ l. l.standing) (c.in_ok-txs.ensures.about n (omega (arith, second)) (omega (arith, second))))
