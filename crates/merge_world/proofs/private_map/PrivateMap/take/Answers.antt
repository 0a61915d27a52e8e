use Rattle.std.proofs.Common.{◌≡◌, ◌<◌, OnOk, length, option_map, set, subst, arith}
use Rattle.merge_world.specs.Effects.{takes, with_put}
use Rattle.merge_world.proofs.AtLemmas.{nothing_at, ok_at}
use Rattle.merge_world.proofs.private_map.PrivateMap.take.Goals as goal

pub returns-in-None-clause-ok : goal.returns-in-None-clause-ok
returns-in-None-clause-ok c = subst (λ map. map ≡ takes c.args.key c.args.put.now map) c.self.view_is
    (nothing_at c.args.key c.len.result (option_map (with_put c.args.put.now)) c.self.inside.cells.items (omega (arith, c.len.ensures)) c.in-None.ensures.none)

pub returns-in-Some-clause-ok : goal.returns-in-Some-clause-ok
returns-in-Some-clause-ok c =
    let items = c.self.inside.cells.items in
    let low : c.in-Some.place < length items = omega (arith, c.in-Some.ensures.some.1, c.len.ensures) in
    subst (λ map. OnOk c.take_put.result (set items c.in-Some.place c.take_put.new.held ≡ takes c.args.key c.args.put.now map)) c.self.view_is
    (ok_at c.take_put.result c.args.key c.in-Some.place (option_map (with_put c.args.put.now)) items c.index_mut.result.now c.take_put.new.held (omega (arith, c.in-Some.ensures.some.0)) low c.index_mut.ensures.value c.take_put.ensures.ok)
