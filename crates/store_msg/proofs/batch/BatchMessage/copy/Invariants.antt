use Rattle.std.proofs.Common.{◌≡◌, ◌≤◌, length, take}
use Rattle.store_msg.proofs.batch.BatchMessage.copy.Given as goal

abbrev pub invariant-loop-key : goal.invariant-loop-key
invariant-loop-key l = record {
  copied : l.copy-inside.entries.items ≡ take l.key-index l.key-items;
  room : 16 ≤ l.copy-inside.entries.cap;
  few : length l.key-items ≤ 16;
}
