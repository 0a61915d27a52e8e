use Rattle.std.proofs.Common.{◌+◌, ◌∙◌, ap, replicate, sym}
use Rattle.mail_contract.proofs.MapsLemmas.{push_map, push_replicate, range_more}
use Rattle.mailbox_rule.specs.Ends.{key_of}
use Rattle.mailbox_rule.specs.Rule.{sent_in}
use Rattle.mailbox_rule.proofs.queue.Goals as goal

pub loop-preserved : goal.loop-preserved
loop-preserved g c =
    let v = c.loop.invariant in
    let made = c.in_ok-sender.ensures in
    let tx = c.in_ok-push.ensures.items in
    let same = ap key_of made.queue in
    record {
      senders = made.senders ∙ ap (λ n. n + 1) v.senders;
      received = made.received ∙ v.received;
      ended = made.ended ∙ v.ended;
      nones = made.answers.0 ∙ v.nones;
      somes = made.answers.1 ∙ v.somes;
      numbers = push_map (λ tx. tx.number) _ _ _ _ _ tx v.numbers (made.number ∙ ap (λ n. n + 1) v.senders) ∙ sym (range_more c.loop.counter);
      sent = push_replicate (λ tx. sent_in tx.pass.me.view.client) _ _ _ _ _ tx v.sent made.sent;
      pairs = push_replicate (λ tx. key_of tx.line.value.queue) _ _ _ _ _ tx (v.pairs ∙ ap (replicate c.loop.counter) (sym same)) (ap key_of made.shared ∙ sym same);
    }
