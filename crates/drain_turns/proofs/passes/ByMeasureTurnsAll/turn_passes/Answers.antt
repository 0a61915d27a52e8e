use Rattle.std.proofs.Common.{◌≡◌, ◌∙◌, ◌+◌, ◌<◌, ◌≤◌, ℕ, Bool, true, false, if◌then◌else◌, arith, inl, inr, refl, sym}
use Rattle.std.proofs.lemmas.Bool.{false≢true}
use Rattle.party_turns.proofs.GoingOnLemmas.{all_through}
use Rattle.drain_turns.proofs.PassesGoingOn.{places_stay, ready_stays}
use Rattle.drain_turns.proofs.passes.ByMeasureTurnsAll.turn_passes.Goals as goal

pub loop-idle-init : goal.loop-idle-init
loop-idle-init g c = record {
  gone_on = c.pass.ensures.gone_on;
  done = c.in_ok-idle.ensures.done;
  rested = elim (c.requires.room refl) [
    | inl full ↦ inl (c.in_ok-idle.ensures.never_full full)
    | inr finds ↦ inr (record {
      finds = places_stay c.args.workers.now c.pass.new.workers c.pass.ensures.gone_on finds;
      none_left = c.in_ok-idle.ensures.rests finds;
    })
  ];
}

pub pass-requires-in-loop-idle-clause-ready : goal.pass-requires-in-loop-idle-clause-ready
pass-requires-in-loop-idle-clause-ready g c = ready_stays c.args.workers.now c.loop-idle.workers c.loop-idle.invariant.gone_on c.requires.ready

pub returns-in_err-idle-2-clause-gone_on : goal.returns-in_err-idle-2-clause-gone_on
returns-in_err-idle-2-clause-gone_on g c =
    all_through c.args.workers.now c.loop-idle.workers c.pass-in-loop-idle.new.workers c.loop-idle.invariant.gone_on c.pass-in-loop-idle.ensures.gone_on

-- one pass fewer is left to be made
smaller : (idle : Bool) (after before : ℕ) → idle ≡ false → after ≤ before → after < before + (if idle then 0 else 1)
smaller true after before busy fell = absurd (false≢true (sym busy))
smaller false after before busy fell = omega (arith, fell)

pub loop-idle-smaller : goal.loop-idle-smaller
loop-idle-smaller g c = elim c.loop-idle.invariant.rested [
  | inl idle ↦ absurd (false≢true (sym c.loop-idle-test.true ∙ idle))
  | inr are ↦ smaller c.loop-idle.idle _ _ c.loop-idle-test.true (c.in_ok-idle-2.ensures.fell are.finds are.none_left)
]

pub loop-idle-preserved : goal.loop-idle-preserved
loop-idle-preserved g c = record {
  gone_on = all_through c.args.workers.now c.loop-idle.workers c.pass-in-loop-idle.new.workers c.loop-idle.invariant.gone_on c.pass-in-loop-idle.ensures.gone_on;
  done = c.in_ok-idle-2.ensures.done;
  rested = elim c.loop-idle.invariant.rested [
    | inl idle ↦ absurd (false≢true (sym c.loop-idle-test.true ∙ idle))
    | inr are ↦ inr (record {
      finds = places_stay c.loop-idle.workers c.pass-in-loop-idle.new.workers c.pass-in-loop-idle.ensures.gone_on are.finds;
      none_left = c.in_ok-idle-2.ensures.rests are.finds;
    })
  ];
}

pub returns-clause-done : goal.returns-clause-done
returns-clause-done g c = c.loop-idle.invariant.done c.loop-idle-test.false
