use Rattle.std.proofs.Common.{map}
use Rattle.party_ends.specs.Dealt.{AreMade}
use Rattle.party_ends.specs.Fresh.{IsFresh}
use Rattle.party_ends.proofs.making.make_all.Given as goal

abbrev pub invariant-loop : goal.invariant-loop
invariant-loop g l = AreMade
    (IsFresh g.S.Tx.number g.S.Tx.sent g.S.Tx.key g.Q.Rx.key g.Q.Rx.pairs g.Q.Rx.senders g.Q.Rx.received g.Q.Rx.about l.fn.senders)
    l.counter l.fn.senders (map (λ row. row.items) l.rows.items) l.made.items
