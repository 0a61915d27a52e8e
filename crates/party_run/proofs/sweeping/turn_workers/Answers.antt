use Rattle.std.proofs.Common.{◌∙◌, All, ap, arith, inl, inr, refl, slice_get, subst, sym}
use Rattle.std.proofs.lemmas.Bool.{cases_eq}
use Rattle.std.proofs.lemmas.Option.{slice_get_within}
use Rattle.parties.specs.Sweeping.{HasServedEach}
use Rattle.parties.specs.Waiting.{AreSigned}
use Rattle.party_run.proofs.sweeping.turn_workers.Goals as goal

pub loop-place-init : goal.loop-place-init
loop-place-init g c = record {
  same = refl;
  steps = g.met.R.Run.no_steps c.args.run.now;
  served = λ place below. absurd (omega (arith, below));
}

pub turn_worker-requires-clause-within : goal.turn_worker-requires-clause-within
turn_worker-requires-clause-within g c =
    let long = (g.met.R.Run.as_many _ _ c.loop-place.invariant.steps).0 in
    omega (arith, long, c.loop-place-test.true, c.workers-place-end.ensures)

pub turn_worker-requires-clause-running : goal.turn_worker-requires-clause-running
turn_worker-requires-clause-running g c = (g.met.R.Run.goes_on _ _ c.loop-place.invariant.steps c.requires.running c.requires.none_kept).0

pub turn_worker-requires-clause-none_kept : goal.turn_worker-requires-clause-none_kept
turn_worker-requires-clause-none_kept g c = (g.met.R.Run.goes_on _ _ c.loop-place.invariant.steps c.requires.running c.requires.none_kept).1

pub turn_worker-requires-clause-signed : goal.turn_worker-requires-clause-signed
turn_worker-requires-clause-signed g c = subst (All AreSigned) (sym c.loop-place.invariant.same) c.requires.signed

pub loop-place-preserved : goal.loop-place-preserved
loop-place-preserved g c =
    let so_far = c.loop-place.invariant in
    let turned = c.turn_worker.new.self in
    record {
      same = c.turn_worker.ensures.sessions ∙ so_far.same;
      steps = g.met.R.Run.more_steps _ _ _ so_far.steps c.in_ok-turn_worker.ensures.steps;
      served = λ place below. elim (cases_eq place c.loop-place.place) [
        | inl here ↦
            subst (λ n. HasServedEach n (g.R.Run.worker_lists turned) (g.R.Run.session_lists turned)) (sym here) c.in_ok-turn_worker.ensures.served
        | inr apart ↦ λ at worker its worker_is its_is.
            so_far.served place (omega (arith, below, apart)) at worker its (sym (c.turn_worker.ensures.others place apart) ∙ worker_is)
            (ap (λ all. slice_get all at) (sym c.turn_worker.ensures.sessions) ∙ its_is)
      ];
    }

pub returns-clause-served : goal.returns-clause-served
returns-clause-served g c place at worker its worker_is its_is =
    let low = slice_get_within (g.R.Run.worker_lists c.loop-place.run) place worker worker_is in
    let long = (g.met.R.Run.as_many _ _ c.loop-place.invariant.steps).0 in
    c.loop-place.invariant.served place (omega (arith, low, long, c.loop-place-test.false, c.workers-place-end.ensures)) at worker its worker_is its_is
