use Rattle.std.proofs.Common.{◌+◌, arith, map, subst, sym}
use Rattle.std.proofs.lemmas.List.{length-map}
use Rattle.party_ends.specs.Dealt.{AreMade}
use Rattle.party_ends.specs.Fresh.{IsFresh}
use Rattle.party_ends.proofs.DealLemmas.{none_made, one_made}
use Rattle.party_ends.proofs.making.make_all.Goals as goal

pub loop-init : goal.loop-init
loop-init g c = subst
    (AreMade (IsFresh g.S.Tx.number g.S.Tx.sent g.S.Tx.key g.Q.Rx.key g.Q.Rx.pairs g.Q.Rx.senders g.Q.Rx.received g.Q.Rx.about c.args.senders) 0 c.args.senders (map (λ row. row.items) c.in_ok-rows.rows.items))
    (sym c.new-made.ensures.items)
    (none_made (IsFresh g.S.Tx.number g.S.Tx.sent g.S.Tx.key g.Q.Rx.key g.Q.Rx.pairs g.Q.Rx.senders g.Q.Rx.received g.Q.Rx.about c.args.senders) c.args.senders (map (λ row. row.items) c.in_ok-rows.rows.items) c.in_ok-rows.ensures)

pub deal-requires : goal.deal-requires
deal-requires g c =
    let many = c.loop.invariant.rows_are in
    omega (arith, c.in_ok-its.ensures.long, many, length-map c.loop.rows.items (λ row. row.items))

pub loop-preserved : goal.loop-preserved
loop-preserved g c = subst
    (AreMade (IsFresh g.S.Tx.number g.S.Tx.sent g.S.Tx.key g.Q.Rx.key g.Q.Rx.pairs g.Q.Rx.senders g.Q.Rx.received g.Q.Rx.about c.args.senders) (c.loop.counter + 1) c.args.senders (map (λ row. row.items) c.deal.new.rows.items))
    (sym c.in_ok-push.ensures.items)
    (one_made (IsFresh g.S.Tx.number g.S.Tx.sent g.S.Tx.key g.Q.Rx.key g.Q.Rx.pairs g.Q.Rx.senders g.Q.Rx.received g.Q.Rx.about c.args.senders) c.args.senders
    c.loop.counter (map (λ row. row.items) c.loop.rows.items) (map (λ row. row.items) c.deal.new.rows.items) c.loop.made.items c.in_ok-its.its.items c.in_ok-its.mailbox
    c.loop.invariant c.in_ok-its.ensures c.in_ok-its.ensures.long c.in_ok-deal.ensures)

pub returns : goal.returns
returns g c = subst
    (λ count. AreMade (IsFresh g.S.Tx.number g.S.Tx.sent g.S.Tx.key g.Q.Rx.key g.Q.Rx.pairs g.Q.Rx.senders g.Q.Rx.received g.Q.Rx.about c.args.senders) count c.args.senders (map (λ row. row.items) c.loop.rows.items) c.loop.made.items)
    (omega arith) c.loop.invariant
