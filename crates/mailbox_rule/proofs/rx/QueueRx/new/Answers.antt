use Rattle.mailbox_rule.proofs.Steps.{begins}
use Rattle.mailbox_rule.proofs.rx.QueueRx.new.Goals as goal

pub with_rule-requires : goal.with_rule-requires
with_rule-requires g c = begins
