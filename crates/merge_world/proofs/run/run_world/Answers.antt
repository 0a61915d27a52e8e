use Rattle.std.proofs.Common.{◌∙◌, ap, arith, length, subst, sym, take_all}
use Rattle.std.specs.Prelude.{All}
use Rattle.std.proofs.lemmas.List.Elements.{All-more, All-nil}
use Rattle.merge_world.specs.World.{PlainWorld, AreEqual, AreSound, IsEvent, IsSettled, opening, puts_taken, ran, stepped}
use Rattle.merge_world.proofs.RunsLemmas.{runs_are_sound, settled_are_equal}
use Rattle.merge_world.proofs.StepsLemmas.{ran_more, stepped_few}
use Rattle.merge_world.proofs.run.run_world.Goals as goal

pub loop-event-init : goal.loop-event-init
loop-event-init c = (c.in_ok-world.ensures, omega (arith, ap (λ (w : PlainWorld). length w.pool) c.in_ok-world.ensures), All-nil IsEvent)

pub step-requires : goal.step-requires
step-requires c = let few = c.loop-event.invariant.1 in omega (arith, few, c.loop-event-test.true, c.requires.few)

pub loop-event-preserved : goal.loop-event-preserved
loop-event-preserved c =
    let so_far = c.loop-event.invariant in
    let next = c.in_ok-step.ensures.world in (
      next ∙ ap (λ w. stepped w c.event-item.result) so_far.0 ∙ sym (ran_more (opening c.args.placement c.args.kinds) c.args.events.now c.loop-event.event-index c.event-item.result c.loop-event-test.true c.event-item.is),
      omega (arith, ap (λ (w : PlainWorld). length w.pool) next, stepped_few c.loop-event.world c.event-item.result, so_far.1),
      All-more IsEvent c.args.events.now c.loop-event.event-index c.event-item.result c.loop-event-test.true so_far.2 (subst IsEvent c.event-item.is c.attest.ensures),
    )

pub returns-clause-world : goal.returns-clause-world
returns-clause-world c = c.loop-event.invariant.0 ∙ ap (ran (opening c.args.placement c.args.kinds)) (take_all c.loop-event.event-index c.args.events.now c.loop-event-test.false)

-- all are events that there can be
are_events : (c : goal.After-loop-event) → All IsEvent c.args.events.now
are_events c = subst (All IsEvent) (take_all c.loop-event.event-index c.args.events.now c.loop-event-test.false) c.loop-event.invariant.2

pub returns-clause-sound : goal.returns-clause-sound
returns-clause-sound c = subst (AreSound (puts_taken (opening c.args.placement c.args.kinds) c.args.events.now)) (sym (returns-clause-world c)) (runs_are_sound c.args.placement c.args.kinds c.args.events.now (are_events c))

pub returns-clause-equal : goal.returns-clause-equal
returns-clause-equal c = subst (λ w. IsSettled w → AreEqual w) (sym (returns-clause-world c)) (settled_are_equal c.args.placement c.args.kinds c.args.events.now (are_events c))
