use Rattle.std.proofs.Common.{◌≡◌, [], map, replicate}
use Rattle.std.specs.List.{range_with_len}
use Rattle.mailbox_rule.specs.Ends.{key_of}
use Rattle.mailbox_rule.specs.Rule.{ended_in, received_in, sent_in}
use Rattle.mailbox_rule.proofs.queue.Given as goal

abbrev pub invariant-loop : goal.invariant-loop
invariant-loop g l = record {
  senders : l.rx.senders ≡ l.counter;
  received : received_in l.rx.pass.me.view.client ≡ [];
  ended : ended_in l.rx.pass.me.view.client ≡ [];
  nones : l.rx.nones ≡ 0;
  somes : l.rx.somes ≡ 0;
  numbers : map (λ tx. tx.number) l.txs.items ≡ range_with_len 1 l.counter;
  sent : map (λ tx. sent_in tx.pass.me.view.client) l.txs.items ≡ replicate l.counter [];
  pairs : map (λ tx. key_of tx.line.value.queue) l.txs.items ≡ replicate l.counter (key_of l.rx.line.value.queue);
}
