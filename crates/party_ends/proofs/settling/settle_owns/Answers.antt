use Rattle.std.proofs.Common.{◌≡◌, ◌∙◌, ◌+◌, ◌<◌, Some, ap, arith, length, map, slice_get, slice_set, subst, sym}
use Rattle.std.proofs.lemmas.List.{length-map, map-set}
use Rattle.std.proofs.lemmas.Option.{slice_get-get_or}
use Rattle.mail_contract.specs.Boxes.{weak_box_of}
use Rattle.party_turns.proofs.ItemsLemmas.{mapped}
use Rattle.party_ends.specs.Dealt.{AreDoneBefore, TakesInOwn}
use Rattle.party_ends.proofs.OwnsLemmas.{one_done}
use Rattle.party_ends.proofs.settling.settle_owns.Given.{Over}
use Rattle.party_ends.proofs.settling.settle_owns.Goals as goal
use Rattle.party_ends.proofs.settling.settle_owns.Goals.{After-index_mut-in-loop-place}

module _ (g : Over) (c : After-index_mut-in-loop-place g) where
  -- the place is within both lists
  within : c.loop-place.place < length c.loop-place.boxes.items
  within = omega (arith, c.loop-place-test.true, c.len-place-end.ensures, c.loop-place.invariant.ys_long)

  within_rows : c.loop-place.place < length c.loop-place.rows.items
  within_rows = omega (arith, within, c.loop-place.invariant.ys_long, c.loop-place.invariant.xs_long, c.requires.square, length-map c.loop-place.rows.items (λ row. row.items), length-map c.args.rows.now.items (λ row. row.items))

  -- what stands there
  box_there : slice_get c.loop-place.boxes.items c.loop-place.place ≡ Some c.index_mut-in-loop-place.result.now
  box_there = slice_get-get_or c.loop-place.boxes.items c.loop-place.place c.index_mut-in-loop-place.result.now within ∙ ap Some (sym c.index_mut-in-loop-place.ensures.value)

  row_there : slice_get (map (λ row. row.items) c.loop-place.rows.items) c.loop-place.place ≡ Some c.index_mut.result.now.items
  row_there = mapped (λ row. row.items) c.loop-place.rows.items c.loop-place.place c.index_mut.result.now
      (slice_get-get_or c.loop-place.rows.items c.loop-place.place c.index_mut.result.now within_rows ∙ ap Some (sym c.index_mut.ensures.value))

pub settle_own-requires : goal.settle_own-requires
settle_own-requires g c =
    let here = (goal.at.settle_own-requires g c).After-index_mut-in-loop-place in
    c.requires.may c.loop-place.place c.index_mut.result.now.items c.index_mut-in-loop-place.result.now
    (sym (c.loop-place.invariant.xs_left c.loop-place.place (omega arith)) ∙ row_there g here)
    (sym (c.loop-place.invariant.ys_left c.loop-place.place (omega arith)) ∙ box_there g here)

pub loop-place-preserved : goal.loop-place-preserved
loop-place-preserved g c =
    let here = (goal.at.loop-place-preserved g c).After-index_mut-in-loop-place in
    subst
    (λ rows. AreDoneBefore
    (TakesInOwn g.O.Tx.number g.O.Tx.sent g.G.GossipRx.key g.G.GossipRx.senders g.G.GossipRx.keeps (weak_box_of g.G.GossipRx.got g.G.GossipRx.answers g.G.GossipRx.about g.G.GossipRx.due g.G.GossipRx.most))
    (map (λ row. row.items) c.args.rows.now.items) c.args.boxes.now.items (c.loop-place.place + 1) rows (slice_set c.loop-place.boxes.items c.loop-place.place c.settle_own.new.inbox))
    (sym (map-set (λ row. row.items) c.loop-place.rows.items c.loop-place.place c.settle_own.new.row))
    (one_done
    (TakesInOwn g.O.Tx.number g.O.Tx.sent g.G.GossipRx.key g.G.GossipRx.senders g.G.GossipRx.keeps (weak_box_of g.G.GossipRx.got g.G.GossipRx.answers g.G.GossipRx.about g.G.GossipRx.due g.G.GossipRx.most))
    (map (λ row. row.items) c.args.rows.now.items) c.args.boxes.now.items c.loop-place.place (map (λ row. row.items) c.loop-place.rows.items) c.loop-place.boxes.items
    c.index_mut.result.now.items c.settle_own.new.row.items c.index_mut-in-loop-place.result.now c.settle_own.new.inbox (row_there g here) (box_there g here) c.settle_own.ensures c.loop-place.invariant)
