use Rattle.std.proofs.Common.{◌+◌, ◌<◌, ◌∙◌, true, length, ap, subst, sym, refl, arith}
use Rattle.std.proofs.lemmas.Option.{slice_get_read}
use Rattle.merge_world.specs.Effects.{changed_at, hears}
use Rattle.merge_world.specs.World.{PlainWorld, after, entries_of}
use Rattle.merge_world.specs.declared.event.Event.TheVariants as events
use Rattle.merge_world.specs.declared.world.Message.{Message}
use Rattle.merge_world.proofs.AtLemmas.{item_at}
use Rattle.merge_world.proofs.world.World.deliver.Goals as goal

pub invariant_of-self-2 : goal.invariant_of-self-2
invariant_of-self-2 c = c.hear_at.ensures.long _ c.self.invariant

pub returns-clause-ok : goal.returns-clause-ok
returns-clause-ok c =
    let pool = c.self.inside.pool.items in
    let i = c.args.message in
    let low : i < length pool = subst (λ (world : PlainWorld). i < length world.pool) (sym c.self.view_is) c.requires in
    let told = ap entries_of (slice_get_read pool (length pool) i c.index.result.now refl low c.index.ensures) in
    let maps = c.in_ok-hear_at.ensures.ok ∙ ap (λ entries. changed_at c.args.worker (hears entries) c.self.inside.maps.items) (c.as_slice.ensures ∙ sym told) in
    let marked = item_at (i + 1) i (λ (m : Message). record m { delivered = true }) pool c.index_mut-message.result.now (omega arith) low c.index_mut-message.ensures.value in
    (λ j. record { placement = c.self.inside.placement; kinds = c.self.inside.kinds; maps = maps j; pool = sym marked j })
    ∙ ap (λ (world : PlainWorld). after world (events.Deliver c.args.worker c.args.message)) c.self.view_is
