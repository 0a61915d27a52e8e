use Rattle.std.proofs.Common.{◌≡◌}
use Rattle.mail_rings.specs.Rings.{tx_ring}
use Rattle.tests_mail.proofs.ring_tests.send_all.Given as goal

abbrev pub invariant-loop : goal.invariant-loop
invariant-loop l = record {
  key : tx_ring l.tx.ring ≡ tx_ring l.fn.tx.ring;
  number : l.tx.number ≡ l.fn.tx.number;
}
