use Rattle.std.proofs.Common.{◌≡◌, All, length}
use Rattle.placement.specs.Config.{IsOneOf}
use Rattle.party_ends.specs.Dealt.{IsEmptyBoxOf}
use Rattle.party_ends.proofs.settling.spare_boxes.Given as goal

abbrev pub invariant-loop : goal.invariant-loop
invariant-loop g l = record {
  long : length l.made.items ≡ l.counter;
  spare : All (IsEmptyBoxOf (IsOneOf 0) g.Q.Rx.key g.Q.Rx.senders g.Q.Rx.received g.Q.Rx.about) l.made.items;
}
