use Rattle.std.proofs.Common.{◌≡◌, ℕ, None, arith, false, map, subst, sym}
use Rattle.std.proofs.lemmas.List.{length-map}
use Rattle.party_ends.specs.Numbers.{AreNumbered}
use Rattle.party_ends.specs.Dealt.{AreNew}
use Rattle.party_ends.proofs.MadeLemmas.{are_new, of_each_box, weak_ends_of}
use Rattle.party_ends.proofs.SettledLemmas.{empty_weak_boxes, keys_stay, may_take_own, still_new}
use Rattle.party_ends.proofs.all_parties.make_mates.Given.{Over}
use Rattle.party_ends.proofs.all_parties.make_mates.Goals as goal
use Rattle.party_ends.proofs.all_parties.make_mates.Goals.{In_ok-rows}

module _ (g : Over) (c : In_ok-rows g) where
  -- the boxes and rows as they were made
  new : AreNew g.O.Tx.key g.O.Tx.number g.O.Tx.sent g.G.GossipRx.pairs g.G.GossipRx.key g.G.GossipRx.about false c.args.mates c.args.mates (map (λ row. row.items) c.in_ok-rows.rows.items) c.in_ok-rows.boxes.items
  new = are_new g.O.Tx.key g.O.Tx.number g.O.Tx.sent g.G.GossipRx.pairs g.G.GossipRx.key g.G.GossipRx.about (λ senders box fresh. weak_ends_of fresh) c.in_ok-rows.ensures.made

pub settle_owns-requires-clause-square : goal.settle_owns-requires-clause-square
settle_owns-requires-clause-square g c =
    let rows = c.in_ok-rows.ensures.made.rows_are in
    let boxes = c.in_ok-rows.ensures.made.boxes_are in
    omega (arith, rows, boxes, length-map c.in_ok-rows.rows.items (λ row. row.items))

pub settle_owns-requires-clause-may : goal.settle_owns-requires-clause-may
settle_owns-requires-clause-may g c =
    may_take_own g.O.Tx.key g.O.Tx.number g.O.Tx.sent g.G.GossipRx.pairs g.G.GossipRx.key g.G.GossipRx.senders g.G.GossipRx.got g.G.GossipRx.answers g.G.GossipRx.about g.G.GossipRx.due g.G.GossipRx.most g.G.GossipRx.keeps
    c.args.mates (map (λ row. row.items) c.in_ok-rows.rows.items) c.in_ok-rows.boxes.items (new g ((goal.at.settle_owns-requires-clause-may g c).In_ok-rows))

pub returns-clause-new : goal.returns-clause-new
returns-clause-new g c =
    still_new g.O.Tx.key g.O.Tx.number g.O.Tx.sent g.G.GossipRx.pairs g.G.GossipRx.key g.G.GossipRx.senders g.G.GossipRx.got g.G.GossipRx.answers g.G.GossipRx.about g.G.GossipRx.due g.G.GossipRx.most g.G.GossipRx.keeps
    c.args.mates (map (λ row. row.items) c.in_ok-rows.rows.items) c.in_ok-rows.boxes.items (new g ((goal.at.returns-clause-new g c).In_ok-rows))
    (map (λ row. row.items) c.settle_owns.new.rows.items) c.settle_owns.new.boxes.items c.settle_owns.ensures

pub returns-clause-empty : goal.returns-clause-empty
returns-clause-empty g c =
    empty_weak_boxes g.O.Tx.key g.O.Tx.number g.O.Tx.sent g.G.GossipRx.pairs g.G.GossipRx.key g.G.GossipRx.senders g.G.GossipRx.got g.G.GossipRx.answers g.G.GossipRx.about g.G.GossipRx.due g.G.GossipRx.most g.G.GossipRx.keeps
    c.args.mates (map (λ row. row.items) c.in_ok-rows.rows.items) c.in_ok-rows.boxes.items (new g ((goal.at.returns-clause-empty g c).In_ok-rows))
    (map (λ row. row.items) c.settle_owns.new.rows.items) c.settle_owns.new.boxes.items c.settle_owns.ensures
    (of_each_box c.in_ok-rows.ensures.made (λ box. (g.G.GossipRx.senders (g.G.GossipRx.key box) ≡ c.args.mates) × ((sender place : ℕ) → g.G.GossipRx.got box sender place ≡ None)) (λ senders box fresh. (fresh.senders_are, fresh.none_got)))

pub returns-clause-made_with : goal.returns-clause-made_with
returns-clause-made_with g c =
    subst (AreNumbered (g.P.MakesGossip.numbers c.args.post.now))
    (sym (keys_stay g.O.Tx.key g.O.Tx.number g.O.Tx.sent g.G.GossipRx.pairs g.G.GossipRx.key g.G.GossipRx.senders g.G.GossipRx.got g.G.GossipRx.answers g.G.GossipRx.about g.G.GossipRx.due g.G.GossipRx.most g.G.GossipRx.keeps
    c.args.mates (map (λ row. row.items) c.in_ok-rows.rows.items) c.in_ok-rows.boxes.items (new g ((goal.at.returns-clause-made_with g c).In_ok-rows))
    (map (λ row. row.items) c.settle_owns.new.rows.items) c.settle_owns.new.boxes.items c.settle_owns.ensures g.G.GossipRx.made_with))
    c.in_ok-rows.ensures.made_with
