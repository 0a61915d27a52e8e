use Rattle.std.proofs.Common.{◌≡◌, ◌≤◌, ℕ, map}
use Rattle.std.specs.List.{slice_get}
use Rattle.gossip_rounds.specs.Batches.{RoomAt}
use Rattle.gossip_rounds.proofs.TellingLemmas.{AreTold, mates_of}
use Rattle.gossip_rounds.proofs.rounds.gossip.Given as goal

abbrev pub invariant-loop-mate : goal.invariant-loop-mate
invariant-loop-mate g l = record {
  keys : map g.O.Tx.key l.senders.items ≡ map g.O.Tx.key l.fn.senders.items;
  numbers : map g.O.Tx.number l.senders.items ≡ map g.O.Tx.number l.fn.senders.items;
  most : l.changes.most ≡ l.fn.changes.most;
  later : (place : ℕ) → l.mate ≤ place → slice_get l.senders.items place ≡ slice_get l.fn.senders.items place;
  mates :
      AreTold l.cells l.taken l.mate l.sent
      (RoomAt g.O.Tx.clear g.O.Tx.roomy g.O.Tx.unseen l.fn.senders.items)
      (mates_of g.O.Tx.sent g.O.Tx.fulls l.fn.changes l.fn.turned.items l.fn.senders.items)
      (mates_of g.O.Tx.sent g.O.Tx.fulls l.changes l.turned.items l.senders.items);
}
