use Rattle.std.proofs.Common.{◌≡◌, ◌<◌, ◌∙◌, ap, length, option_map, set, subst, sym, arith}
use Rattle.merge_world.specs.Back.{with_whole}
use Rattle.merge_world.specs.Effects.{changed_at}
use Rattle.merge_world.proofs.AtLemmas.{item_at, nothing_at}
use Rattle.merge_world.proofs.private_map.PrivateMap.put_one_back.Goals as goal

pub returns-in-Some : goal.returns-in-Some
returns-in-Some c =
    let items = c.self.inside.cells.items in
    let low : c.in-Some.place < length items = omega (arith, c.in-Some.ensures.some.1, c.len.ensures) in
    subst (λ map. set items c.in-Some.place c.put_cell_back.new.held ≡ changed_at c.args.key (option_map (with_whole c.args.whole)) map) c.self.view_is
    (ap (set items c.in-Some.place) c.put_cell_back.ensures ∙ sym (item_at c.args.key c.in-Some.place (option_map (with_whole c.args.whole)) items c.index_mut.result.now (omega (arith, c.in-Some.ensures.some.0)) low c.index_mut.ensures.value))

pub returns-in-None : goal.returns-in-None
returns-in-None c = subst (λ map. map ≡ changed_at c.args.key (option_map (with_whole c.args.whole)) map) c.self.view_is
    (nothing_at c.args.key c.len.result (option_map (with_whole c.args.whole)) c.self.inside.cells.items (omega (arith, c.len.ensures)) c.in-None.ensures.none)
