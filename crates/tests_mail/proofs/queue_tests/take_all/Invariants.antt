use Rattle.std.proofs.Common.{◌≡◌}
use Rattle.mail_contract.specs.Standing.{AllStand}
use Rattle.mailbox_rule.specs.Ends.{about_in, key_of}
use Rattle.tests_mail.proofs.queue_tests.take_all.Given as goal

abbrev pub invariant-loop : goal.invariant-loop
invariant-loop g l = record {
  key : key_of l.rx.line.value.queue ≡ key_of l.fn.rx.line.value.queue;
  senders : l.rx.senders ≡ l.fn.rx.senders;
  standing : AllStand (about_in l.fn.rx.pass.me.view.client) (about_in l.rx.pass.me.view.client);
}
