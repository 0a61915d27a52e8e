use Rattle.std.proofs.Common.{map}
use Rattle.party_ends.specs.Numbers.{AreNumbered}
use Rattle.party_ends.specs.Dealt.{AreMade}
use Rattle.party_ends.specs.Fresh.{IsFreshWeak}
use Rattle.party_ends.proofs.making.make_all_weak.Given as goal

abbrev pub invariant-loop-place : goal.invariant-loop-place
invariant-loop-place g l = record {
  made : AreMade (IsFreshWeak g.O.Tx.number g.O.Tx.sent g.O.Tx.key g.G.GossipRx.key g.G.GossipRx.pairs g.G.GossipRx.senders g.G.GossipRx.got g.G.GossipRx.about l.fn.senders)
      l.place l.fn.senders (map (λ row. row.items) l.rows.items) l.made.items;
  made_with : AreNumbered (g.P.MakesGossip.numbers l.post) (map (λ its. g.G.GossipRx.made_with (g.G.GossipRx.key its)) l.made.items);
}
