use Rattle.std.proofs.Common.{map}
use Rattle.mail_contract.specs.Boxes.{weak_box_of}
use Rattle.party_ends.specs.Dealt.{AreDoneBefore, TakesInOwn}
use Rattle.party_ends.proofs.settling.settle_owns.Given as goal

abbrev pub invariant-loop-place : goal.invariant-loop-place
invariant-loop-place g l = AreDoneBefore
    (TakesInOwn g.O.Tx.number g.O.Tx.sent g.G.GossipRx.key g.G.GossipRx.senders g.G.GossipRx.keeps (weak_box_of g.G.GossipRx.got g.G.GossipRx.answers g.G.GossipRx.about g.G.GossipRx.due g.G.GossipRx.most))
    (map (λ row. row.items) l.fn.rows.items) l.fn.boxes.items l.place (map (λ row. row.items) l.rows.items) l.boxes.items
