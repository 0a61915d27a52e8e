use Rattle.std.proofs.Common.{◌∙◌, ap, sym}
use Rattle.merge_world.specs.Back.{with_all_back}
use Rattle.merge_world.proofs.AtLemmas.{all_back_more}
use Rattle.merge_world.proofs.private_map.PrivateMap.put_back.Goals as goal

pub loop-key-preserved : goal.loop-key-preserved
loop-key-preserved c =
    ap (with_all_back c.pop.new.self.items) c.put_one_back.ensures
    ∙ sym (all_back_more c.pop.new.self.items (c.in-Some.key, c.in-Some.whole) c.loop-key.self)
    ∙ ap (λ entries. with_all_back entries c.loop-key.self) (sym c.in-Some.ensures.items)
    ∙ c.loop-key.invariant
