use Rattle.std.proofs.Common.{◌≡◌, ◌<◌, ◌+◌, ◌∙◌, length, map, sym, ap, subst, arith, length-set}
use Rattle.std.proofs.lemmas.List.{length-map, map-set}
use Rattle.mail_contract.specs.Lanes.{lane_apart, nothing}
use Rattle.mail_contract.proofs.MapsLemmas.{Changed, at_map, same_map, changed_more, changed_all}
use Rattle.mail_contract.proofs.gathered.part_all.Goals as goal

pub loop-i-preserved : goal.loop-i-preserved
loop-i-preserved g c =
    let at = c.index_mut-lane.ensures.value in
    let v = c.loop-i.invariant in
    let low : c.loop-i.i < length c.loop-i.lanes.items = omega arith in
    let low_map : c.loop-i.i < length (map g.L.Lane.lane c.loop-i.lanes.items) = rw length-map low in
    let long : length (map g.L.Lane.lane c.loop-i.lanes.items) ≡ length (map g.L.Lane.lane c.args.lanes.now.items) = length-map _ _ ∙ v.long ∙ sym (length-map _ _) in
    record {
      long = length-set _ _ _ ∙ v.long;
      keys = same_map g.L.Lane.key _ _ _ _ at c.part.ensures.key ∙ v.keys;
      lanes = subst (λ now. Changed lane_apart (map g.L.Lane.lane c.args.lanes.now.items) now (c.loop-i.i + 1)) (sym (map-set g.L.Lane.lane c.loop-i.lanes.items c.loop-i.i c.part.new.self))
          (changed_more lane_apart _ _ c.loop-i.i _ nothing low_map long (c.part.ensures.lane ∙ ap lane_apart (sym (at_map g.L.Lane.lane c.loop-i.lanes.items c.loop-i.i _ nothing low at))) v.lanes);
    }

pub returns-clause-lanes : goal.returns-clause-lanes
returns-clause-lanes g c = changed_all lane_apart _ _ c.loop-i.i (omega (arith, length-map c.loop-i.lanes.items g.L.Lane.lane)) (omega (arith, length-map c.args.lanes.now.items g.L.Lane.lane)) c.loop-i.invariant.lanes
