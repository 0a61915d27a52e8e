use Rattle.std.proofs.Common.{◌≡◌, ◌≢◌, ℕ, ◌-◌, [], length, map, slice_index_or}
use Rattle.std.specs.List.{slice_get}
use Rattle.gossip_rounds.proofs.TellingLemmas.{IsTellingMate, StandsAt, mates_of}
use Rattle.gossip_rounds.proofs.rounds.tell_mate.Given as goal

abbrev pub invariant-loop-from : goal.invariant-loop-from
invariant-loop-from g l = record {
  keys : map g.O.Tx.key l.senders.items ≡ map g.O.Tx.key l.fn.senders.items;
  numbers : map g.O.Tx.number l.senders.items ≡ map g.O.Tx.number l.fn.senders.items;
  most : l.changes.most ≡ l.fn.changes.most;
  others : (other : ℕ) → other ≢ l.mate → slice_get l.senders.items other ≡ slice_get l.fn.senders.items other;
  mate :
      IsTellingMate l.cells l.taken l.fn.changes.most l.mate l.from l.sent
      (StandsAt g.O.Tx.clear g.O.Tx.roomy g.O.Tx.unseen l.fn.senders.items l.senders.items l.mate)
      (mates_of g.O.Tx.sent g.O.Tx.fulls l.fn.changes l.fn.turned.items l.fn.senders.items)
      (mates_of g.O.Tx.sent g.O.Tx.fulls l.changes l.turned.items l.senders.items);
}

abbrev pub decreases-loop-from : goal.decreases-loop-from
decreases-loop-from g l = length (slice_index_or l.changes.of_mates l.mate []) - l.from
