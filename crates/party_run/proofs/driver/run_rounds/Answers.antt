use Rattle.std.proofs.Common.{arith, subst, sym}
use Rattle.party_turns.proofs.StepsLemmas.{steps_go_on}
use Rattle.party_turns.proofs.StepsLemmas.{steps_through}
use Rattle.parties.proofs.LowerLemmas.{steps_lower}
use Rattle.parties.specs.Sweeping.{AllAwait}
use Rattle.party_run.proofs.ToldLemmas.{all_counted}
use Rattle.party_run.proofs.driver.run_rounds.Goals as goal

pub loop-turns-init : goal.loop-turns-init
loop-turns-init g c = record {
  steps = c.show_all.ensures.steps;
  told = c.show_all.ensures.told;
  await_theirs = subst AllAwait (sym c.show_all.ensures.sessions) c.requires.await_theirs;
  to_asks = c.show_all.ensures.to_asks;
}

pub round-requires-clause-running : goal.round-requires-clause-running
round-requires-clause-running g c κs within = (steps_go_on _ _ _ _ c.loop-turns.invariant.steps c.requires.running c.requires.none_kept).0

pub round-requires-clause-none_kept : goal.round-requires-clause-none_kept
round-requires-clause-none_kept g c κs within = (steps_go_on _ _ _ _ c.loop-turns.invariant.steps c.requires.running c.requires.none_kept).1

pub loop-turns-preserved : goal.loop-turns-preserved
loop-turns-preserved g c = record {
  steps = steps_through _ _ _ _ _ _ c.loop-turns.invariant.steps c.in_ok-round.ensures.steps;
  told = c.in_ok-round.ensures.told;
  await_theirs = c.in_ok-round.ensures.await_theirs;
  to_asks = c.in_ok-round.ensures.to_asks;
}

pub loop-turns-smaller : goal.loop-turns-smaller
loop-turns-smaller g c =
    let then = steps_go_on _ _ _ _ c.loop-turns.invariant.steps c.requires.running c.requires.none_kept in
    let lower =
    steps_lower then.0.0 _ _ _ _ then.0.1 then.1 c.in_ok-round.ensures.steps (all_counted _ _ c.loop-turns.invariant.told) (all_counted _ _ c.in_ok-round.ensures.told)
    in
    let more = c.in_ok-round.ensures.done c.if-not-branch.true in
    omega (arith, lower, more)

pub returns-clause-steps : goal.returns-clause-steps
returns-clause-steps g c = steps_through _ _ _ _ _ _ c.loop-turns.invariant.steps c.in_ok-round.ensures.steps

pub returns-clause-ended : goal.returns-clause-ended
returns-clause-ended g c = c.in_ok-round.ensures.ended c.if-not-branch.false
