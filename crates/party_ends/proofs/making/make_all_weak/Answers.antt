use Rattle.std.proofs.Common.{◌+◌, ◌∙◌, ap, arith, map, refl, subst, sym}
use Rattle.std.proofs.lemmas.List.{length-map}
use Rattle.party_ends.specs.Numbers.{AreNumbered}
use Rattle.party_ends.specs.Dealt.{AreMade}
use Rattle.party_ends.specs.Fresh.{IsFreshWeak}
use Rattle.party_ends.proofs.DealLemmas.{none_made, one_made}
use Rattle.party_ends.proofs.NumberedLemmas.{one_numbered}
use Rattle.party_ends.proofs.making.make_all_weak.Goals as goal

pub loop-place-init : goal.loop-place-init
loop-place-init g c = record {
  made = subst (AreMade (IsFreshWeak g.O.Tx.number g.O.Tx.sent g.O.Tx.key g.G.GossipRx.key g.G.GossipRx.pairs g.G.GossipRx.senders g.G.GossipRx.got g.G.GossipRx.about c.args.senders) 0 c.args.senders (map (λ row. row.items) c.in_ok-rows.rows.items)) (sym c.new-made.ensures.items)
      (none_made (IsFreshWeak g.O.Tx.number g.O.Tx.sent g.O.Tx.key g.G.GossipRx.key g.G.GossipRx.pairs g.G.GossipRx.senders g.G.GossipRx.got g.G.GossipRx.about c.args.senders) c.args.senders (map (λ row. row.items) c.in_ok-rows.rows.items) c.in_ok-rows.ensures);
  made_with = subst (λ boxes. AreNumbered (g.P.MakesGossip.numbers c.args.post.now) (map (λ its. g.G.GossipRx.made_with (g.G.GossipRx.key its)) boxes)) (sym c.new-made.ensures.items) refl;
}

pub deal-requires : goal.deal-requires
deal-requires g c =
    let many = c.loop-place.invariant.made.rows_are in
    omega (arith, c.in_ok-its.ensures.fresh.long, many, length-map c.loop-place.rows.items (λ row. row.items))

pub loop-place-preserved : goal.loop-place-preserved
loop-place-preserved g c =
    let so_far = c.loop-place.invariant in
    record {
      made = subst (AreMade (IsFreshWeak g.O.Tx.number g.O.Tx.sent g.O.Tx.key g.G.GossipRx.key g.G.GossipRx.pairs g.G.GossipRx.senders g.G.GossipRx.got g.G.GossipRx.about c.args.senders) (c.loop-place.place + 1) c.args.senders (map (λ row. row.items) c.deal.new.rows.items)) (sym c.in_ok-push.ensures.items)
          (one_made (IsFreshWeak g.O.Tx.number g.O.Tx.sent g.O.Tx.key g.G.GossipRx.key g.G.GossipRx.pairs g.G.GossipRx.senders g.G.GossipRx.got g.G.GossipRx.about c.args.senders) c.args.senders
          c.loop-place.place (map (λ row. row.items) c.loop-place.rows.items) (map (λ row. row.items) c.deal.new.rows.items) c.loop-place.made.items c.in_ok-its.its.items c.in_ok-its.mailbox
          so_far.made c.in_ok-its.ensures.fresh c.in_ok-its.ensures.fresh.long c.in_ok-deal.ensures);
      made_with = subst (λ boxes. AreNumbered (g.P.MakesGossip.numbers c.args.post.now) (map (λ its. g.G.GossipRx.made_with (g.G.GossipRx.key its)) boxes)) (sym c.in_ok-push.ensures.items)
          (one_numbered (λ its. g.G.GossipRx.made_with (g.G.GossipRx.key its)) (g.P.MakesGossip.numbers c.args.post.now) c.loop-place.made.items c.in_ok-its.mailbox so_far.made_with
          (c.in_ok-its.ensures.made_with ∙ ap (λ n. g.P.MakesGossip.numbers c.args.post.now (n + 1)) (sym so_far.made.boxes_are)));
    }

pub returns-clause-made : goal.returns-clause-made
returns-clause-made g c = subst
    (λ count. AreMade (IsFreshWeak g.O.Tx.number g.O.Tx.sent g.O.Tx.key g.G.GossipRx.key g.G.GossipRx.pairs g.G.GossipRx.senders g.G.GossipRx.got g.G.GossipRx.about c.args.senders) count c.args.senders (map (λ row. row.items) c.loop-place.rows.items) c.loop-place.made.items)
    (omega (arith, c.loop-place-test.false)) c.loop-place.invariant.made
