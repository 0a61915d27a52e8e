use Rattle.std.proofs.Common.{◌≡◌, ◌<◌, IfOk, OnOk, length, option_map, set, subst, arith}
use Rattle.merge_world.specs.Back.{with_back}
use Rattle.merge_world.specs.Effects.{changed_at, with_heard}
use Rattle.merge_world.proofs.AtLemmas.{heard_back_at, nothing_at, ok_at}
use Rattle.merge_world.proofs.private_map.PrivateMap.hear_one.Goals as goal

pub returns-in-None-clause-ok : goal.returns-in-None-clause-ok
returns-in-None-clause-ok c = subst (λ map. map ≡ changed_at c.args.key (option_map (with_heard c.args.cell.now)) map) c.self.view_is
    (nothing_at c.args.key c.len.result (option_map (with_heard c.args.cell.now)) c.self.inside.cells.items (omega (arith, c.len.ensures)) c.in-None.ensures.none)

pub returns-in-Some-clause-ok : goal.returns-in-Some-clause-ok
returns-in-Some-clause-ok c =
    let items = c.self.inside.cells.items in
    let low : c.in-Some.place < length items = omega (arith, c.in-Some.ensures.some.1, c.len.ensures) in
    subst (λ map. OnOk c.hear_cell.result (set items c.in-Some.place c.hear_cell.new.held ≡ changed_at c.args.key (option_map (with_heard c.args.cell.now)) map)) c.self.view_is
    (ok_at c.hear_cell.result c.args.key c.in-Some.place (option_map (with_heard c.args.cell.now)) items c.index_mut.result.now c.hear_cell.new.held (omega (arith, c.in-Some.ensures.some.0)) low c.index_mut.ensures.value c.hear_cell.ensures.ok)

pub returns-in-Some-clause-before : goal.returns-in-Some-clause-before
returns-in-Some-clause-before c =
    let items = c.self.inside.cells.items in
    let low : c.in-Some.place < length items = omega (arith, c.in-Some.ensures.some.1, c.len.ensures) in
    subst (λ map. IfOk c.hear_cell.result (λ before. with_back c.args.key before (set items c.in-Some.place c.hear_cell.new.held) ≡ map)) c.self.view_is
    (heard_back_at c.hear_cell.result c.args.key c.in-Some.place c.args.cell.now items c.index_mut.result.now c.hear_cell.new.held (omega (arith, c.in-Some.ensures.some.0)) low c.index_mut.ensures.value c.hear_cell.ensures.ok c.hear_cell.ensures.before)
