use Rattle.std.proofs.Common.{◌<◌, ◌∙◌, length, map, arith, sym, ap, subst, length-set}
use Rattle.std.proofs.lemmas.List.{length-map}
use Rattle.mail_contract.specs.Lanes.{Lane, IsDry, IsGiven, at_place, nothing, with_taken}
use Rattle.mail_contract.proofs.LanesLemmas.{dry_more}
use Rattle.mail_contract.proofs.MapsLemmas.{at_map, same_map, more_map, new_map}
use Rattle.mail_contract.proofs.gathered.scan.Goals as goal

pub loop-i-preserved : goal.loop-i-preserved
loop-i-preserved g c =
    let at = c.index_mut-lane.ensures.value in
    let e = rw c.in-Ok-None.field-0-is at c.in-Ok-None.ensures in
    let v = c.loop-i.invariant in
    let low : c.loop-i.i < length c.loop-i.lanes.items = omega arith in
    let here = sym (ap (λ l. at_place l c.loop-i.i) v.lanes) ∙ at_map g.L.Lane.lane c.loop-i.lanes.items c.loop-i.i _ nothing low at in
    record {
      long = length-set _ _ _ ∙ v.long;
      keys = same_map g.L.Lane.key _ _ _ _ at c.draw.ensures.key ∙ v.keys;
      lanes = same_map g.L.Lane.lane _ _ _ _ at e.lane ∙ v.lanes;
      dry = dry_more g.L.Lane.keeps _ c.args.from c.loop-i.i (subst (IsDry g.L.Lane.keeps) (e.lane ∙ sym here) e.dry) v.dry;
    }

pub returns-in-Ok-Some-clause-keys : goal.returns-in-Ok-Some-clause-keys
returns-in-Ok-Some-clause-keys g c = same_map g.L.Lane.key _ _ _ _ c.index_mut-lane.ensures.value c.draw.ensures.key ∙ c.loop-i.invariant.keys

pub returns-in-Ok-Some-clause-lanes : goal.returns-in-Ok-Some-clause-lanes
returns-in-Ok-Some-clause-lanes g c =
    let e = rw c.in-Ok-Some.field-0-is at c.in-Ok-Some.ensures in
    let v = c.loop-i.invariant in
    let low : c.loop-i.i < length c.loop-i.lanes.items = omega arith in
    let low_map : c.loop-i.i < length (map g.L.Lane.lane c.args.lanes.now.items) = rw (← v.lanes, length-map) low in
    (low_map, more_map g.L.Lane.lane (with_taken c.in-Ok-Some.message) _ _ _ _ _ nothing low c.index_mut-lane.ensures.value v.lanes e.lane)

pub returns-in-Ok-Some-clause-given : goal.returns-in-Ok-Some-clause-given
returns-in-Ok-Some-clause-given g c =
    let at = c.index_mut-lane.ensures.value in
    let e = rw c.in-Ok-Some.field-0-is at c.in-Ok-Some.ensures in
    let v = c.loop-i.invariant in
    let low : c.loop-i.i < length c.loop-i.lanes.items = omega arith in
    let here = sym (ap (λ l. at_place l c.loop-i.i) v.lanes) ∙ at_map g.L.Lane.lane c.loop-i.lanes.items c.loop-i.i _ nothing low at in
    let there = new_map g.L.Lane.lane c.loop-i.lanes.items c.loop-i.i c.draw.new.self nothing low in
    subst (IsGiven g.L.Lane.keeps (at_place (map g.L.Lane.lane c.args.lanes.now.items) c.loop-i.i)) (sym there)
    (subst (λ (lane : Lane g.row.M.Denot). IsGiven g.L.Lane.keeps lane (g.L.Lane.lane c.draw.new.self)) (sym here) e.given)

pub returns-in-Err-clause-keys : goal.returns-in-Err-clause-keys
returns-in-Err-clause-keys g c = same_map g.L.Lane.key _ _ _ _ c.index_mut-lane.ensures.value c.draw.ensures.key ∙ c.loop-i.invariant.keys

pub returns-in-Err-clause-lanes : goal.returns-in-Err-clause-lanes
returns-in-Err-clause-lanes g c = same_map g.L.Lane.lane _ _ _ _ c.index_mut-lane.ensures.value c.in-Err.ensures.lane ∙ c.loop-i.invariant.lanes
