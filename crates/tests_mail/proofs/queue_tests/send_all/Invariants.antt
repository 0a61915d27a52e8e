use Rattle.std.proofs.Common.{◌≡◌}
use Rattle.mailbox_rule.specs.Ends.{key_of}
use Rattle.tests_mail.proofs.queue_tests.send_all.Given as goal

abbrev pub invariant-loop-number : goal.invariant-loop-number
invariant-loop-number g l = record {
  key : key_of l.tx.line.value.queue ≡ key_of l.fn.tx.line.value.queue;
  number : l.tx.number ≡ l.fn.tx.number;
}
