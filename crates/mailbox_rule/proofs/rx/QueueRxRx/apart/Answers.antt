use Rattle.std.proofs.Common.{refl}
use Rattle.mailbox_rule.specs.Rule.{ended_in}
use Rattle.mailbox_rule.proofs.EndsLemmas.{all_apart}
use Rattle.mailbox_rule.proofs.rx.QueueRxRx.apart.Goals as goal

pub returns-clause-about : goal.returns-clause-about
returns-clause-about g c = λ s. (all_apart (ended_in c.args.self.now.pass.me.view.client) s, λ _. refl)
