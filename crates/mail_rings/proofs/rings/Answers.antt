use Rattle.std.proofs.Common.{rules, ◌≡◌, ◌∙◌, sym, ap, refl, arith}
use Rattle.rtrb.specs.Ring.{sent}
use Rattle.mail_contract.proofs.MapsLemmas.{push_map, push_replicate, range_more}
use Rattle.mail_rings.specs.Rings.{lane_of, new_lane, rx_ring, tx_ring}
use Rattle.mail_contract.specs.Lanes.{about_of}
use Rattle.mail_rings.proofs.RingsLemmas.{about_same}
use Rattle.mail_rings.proofs.rings.Goals as goal

pub loop-place-preserved : goal.loop-place-preserved
loop-place-preserved g c =
    let v = c.loop-place.invariant in
    let tx = c.in_ok-push.ensures.items in
    let lane = c.in_ok-push-2.ensures.items in
    let made = c.in_ok-producer.ensures in
    let same_ring : tx_ring c.in_ok-producer.producer ≡ rx_ring c.in_ok-producer.consumer = search rules in
    record {
      numbers = push_map (λ tx. tx.number) _ _ _ _ _ tx v.numbers c.new-in-loop-place.ensures.number ∙ sym (range_more c.loop-place.place);
      sent = push_replicate (λ tx. sent tx.ring) _ _ _ _ _ tx v.sent (c.new-in-loop-place.ensures.sent ∙ made.producer.0);
      fulls = push_replicate (λ tx. tx.fulls) _ _ _ _ _ tx v.fulls c.new-in-loop-place.ensures.fulls;
      unseen = push_replicate (λ tx. tx.unseen) _ _ _ _ _ tx v.unseen c.new-in-loop-place.ensures.unseen;
      pairs = push_map (λ tx. tx_ring tx.ring) _ _ _ _ _ tx v.pairs (c.new-in-loop-place.ensures.key ∙ same_ring ∙ sym c.new-in-loop-place-2.ensures.key)
          ∙ sym (push_map (λ lane. rx_ring lane.ring) _ _ _ _ _ lane refl refl);
      lanes = push_replicate (λ lane. lane_of lane.ended lane.shown lane.ring) _ _ _ _ _ lane v.lanes c.new-in-loop-place-2.ensures.lane;
    }

pub returns-clause-about : goal.returns-clause-about
returns-clause-about g c = λ sender low high.
    ap (λ about. about sender) c.new-2.ensures.about ∙ ap (λ lanes. about_of lanes sender) c.loop-place.invariant.lanes
    ∙ about_same new_lane c.loop-place.place sender low (omega (arith, high, c.loop-place-test.false))
