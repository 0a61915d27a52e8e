use Rattle.std.proofs.Common.{false}
use Rattle.mail_contract.proofs.WeakLemmas.{all_of_sent, handed_out, on_none, still_of_sent}
use Rattle.mailbox_rule.specs.Ends.{about_in}
use Rattle.mailbox_rule.specs.Rule.{received_in}
use Rattle.mailbox_rule.proofs.rx.QueueRxGossipRx.take.Goals as goal

pub returns-clause-got : goal.returns-clause-got
returns-clause-got g c = handed_out _ _ _ c.take.ensures.received

pub returns-clause-told : goal.returns-clause-told
returns-clause-told g c = still_of_sent false (received_in c.args.self.now.pass.me.view.client) (received_in c.take.new.self.pass.me.view.client) (about_in c.args.self.now.pass.me.view.client) (about_in c.take.new.self.pass.me.view.client) c.take.ensures.told

pub returns-clause-none : goal.returns-clause-none
returns-clause-none g c = on_none c.take.result _ _ (all_of_sent false (received_in c.take.new.self.pass.me.view.client) (about_in c.take.new.self.pass.me.view.client)) c.take.ensures.none
