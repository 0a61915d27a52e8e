use Rattle.std.proofs.Common.{◌≡◌, ◌∙◌, ap, set, subst, arith}
use Rattle.merge_world.specs.Effects.{changed_at, takes}
use Rattle.merge_world.specs.World.{PlainWorld, after}
use Rattle.merge_world.specs.declared.event.Event.TheVariants as events
use Rattle.merge_world.proofs.AtLemmas.{nothing_at, ok_at, on_ok}
use Rattle.merge_world.proofs.WorkersLemmas.{long_taken, still_long}
use Rattle.merge_world.proofs.world.World.put.Goals as goal

pub invariant_of-self : goal.invariant_of-self
invariant_of-self c = still_long c.self.inside.maps.items _ c.in-Some.place c.index_mut.result.now c.take.new.self c.self.invariant (omega (arith, c.in-Some.ensures.some.1, c.len.ensures)) c.index_mut.ensures.value
    (long_taken c.take.result c.args.key c.args.put.now c.index_mut.result.now c.take.new.self c.take.ensures.ok c.take.ensures.err)

pub returns-in-Some-clause-ok : goal.returns-in-Some-clause-ok
returns-in-Some-clause-ok c =
    let maps = c.self.inside.maps.items in
    let changed = ok_at c.take.result c.args.worker c.in-Some.place (takes c.args.key c.args.put.now) maps c.index_mut.result.now c.take.new.self
    (omega (arith, c.in-Some.ensures.some.0)) (omega (arith, c.in-Some.ensures.some.1, c.len.ensures)) c.index_mut.ensures.value c.take.ensures.ok in
    on_ok c.take.result
    (λ (is : set maps c.in-Some.place c.take.new.self ≡ changed_at c.args.worker (takes c.args.key c.args.put.now) maps).
    (λ j. record { placement = c.self.inside.placement; kinds = c.self.inside.kinds; maps = is j; pool = c.self.inside.pool.items })
    ∙ ap (λ (world : PlainWorld). after world (events.Put c.args.worker c.args.key c.args.put.now)) c.self.view_is) changed

pub returns-in-None-clause-ok : goal.returns-in-None-clause-ok
returns-in-None-clause-ok c =
    let same = nothing_at c.args.worker c.len.result (takes c.args.key c.args.put.now) c.self.inside.maps.items (omega (arith, c.len.ensures)) c.in-None.ensures.none in
    subst (λ (world : PlainWorld). world ≡ after world (events.Put c.args.worker c.args.key c.args.put.now)) c.self.view_is
    (λ j. record { placement = c.self.inside.placement; kinds = c.self.inside.kinds; maps = same j; pool = c.self.inside.pool.items })
