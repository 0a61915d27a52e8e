use Rattle.std.proofs.Common.{◌≡◌, ◌∙◌, IfOk, ap, subst, sym, arith}
use Rattle.merge_world.specs.Effects.{tells}
use Rattle.merge_world.specs.World.{PlainWorld, map_of}
use Rattle.merge_world.proofs.WorkersLemmas.{map_at, no_map_at, nothing_told}
use Rattle.merge_world.proofs.world.World.told.Goals as goal

pub returns-in-Some : goal.returns-in-Some
returns-in-Some c =
    let is = map_at c.args.worker c.in-Some.place c.self.inside.maps.items c.index.result.now (omega (arith, c.in-Some.ensures.some.0)) (omega (arith, c.in-Some.ensures.some.1, c.len.ensures)) c.index.ensures in
    subst (λ map. IfOk c.tell.result (λ entries. entries ≡ tells c.args.keys.now map)) (is ∙ ap (λ (world : PlainWorld). map_of world c.args.worker) c.self.view_is) c.tell.ensures

pub returns-in-None : goal.returns-in-None
returns-in-None c =
    let none = no_map_at c.args.worker c.len.result c.self.inside.maps.items (omega (arith, c.len.ensures)) c.in-None.ensures.none in
    c.new-in-None.ensures ∙ c.new.ensures.items ∙ sym (nothing_told c.args.keys.now)
    ∙ ap (tells c.args.keys.now) (sym none ∙ ap (λ (world : PlainWorld). map_of world c.args.worker) c.self.view_is)
