use Rattle.std.proofs.Common.{◌∷◌, [], ◌∙◌, ap, sym, length, length-append, arith}
use Rattle.merge_world.specs.Back.{with_all_back, with_back}
use Rattle.merge_world.proofs.AtLemmas.{all_back_more, hears_more}
use Rattle.merge_world.proofs.private_map.PrivateMap.hear.Goals as goal
use Rattle.merge_world.proofs.private_map.PrivateMap.hear.Goals.{in-Some, in_default-whole}

pub loop-key-preserved : goal.loop-key-preserved
loop-key-preserved c =
    let v = c.loop-key.invariant in
    let entry = c.loop-key-item.result in
    let now = c.hear_one.new.self in
    let done = c.loop-key.before.items in
    let heard = c.in-Ok.ensures.ok ∙ hears_more c.args.entries.now c.loop-key.key-index entry c.args.self.now c.loop-key.self c.loop-key-test.true c.loop-key-item.is v.heard in
    elim c.match-whole.branch [
      | in-Some w ↦
          let items = ap (λ before. before.items) w.before-is ∙ w.push_reserved.ensures.items in
          record {
            heard = heard;
            back = ap (λ entries. with_all_back entries now) items ∙ all_back_more done (entry.0, w.in-Some.whole) now
                ∙ ap (with_all_back done) (ap (λ whole. with_back entry.0 whole now) (sym w.in-Some.is) ∙ c.in-Ok.ensures.before) ∙ v.back;
            few = omega (arith, v.few, ap length items, length-append done ((entry.0, w.in-Some.whole) ∷ []));
            room = omega (arith, v.room, ap (λ before. before.cap) w.before-is, w.push_reserved.ensures.capacity);
          }
      | in_default-whole w ↦ record {
        heard = heard;
        back = ap (λ before. with_all_back before.items now) w.before-is
            ∙ ap (with_all_back done) (ap (λ whole. with_back entry.0 whole now) (sym w.in_default-whole.is) ∙ c.in-Ok.ensures.before) ∙ v.back;
        few = omega (arith, v.few, ap (λ before. length before.items) w.before-is);
        room = omega (arith, v.room, ap (λ before. before.cap) w.before-is);
      }
    ]
