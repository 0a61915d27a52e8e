use Rattle.party_turns.proofs.GoingOnLemmas.{all_stay, all_through}
use Rattle.drain_turns.proofs.PassesGoingOn.{ready_stays}
use Rattle.drain_turns.proofs.waiting.WaitingTurnsAll.turn_passes.Goals as goal

pub loop-init : goal.loop-init
loop-init g c = record { gone_on = all_stay c.args.workers.now; rounds = (tt, tt) }

pub pass-requires-clause-ready : goal.pass-requires-clause-ready
pass-requires-clause-ready g c = ready_stays c.args.workers.now c.loop.workers c.loop.invariant.gone_on c.requires.ready

pub returns-in_err-pass-clause-gone_on : goal.returns-in_err-pass-clause-gone_on
returns-in_err-pass-clause-gone_on g c = all_through c.args.workers.now c.loop.workers c.pass.new.workers c.loop.invariant.gone_on c.pass.ensures.gone_on

pub returns-then-branch-clause-gone_on : goal.returns-then-branch-clause-gone_on
returns-then-branch-clause-gone_on g c = all_through c.args.workers.now c.loop.workers c.pass.new.workers c.loop.invariant.gone_on c.pass.ensures.gone_on

pub returns-then-branch-clause-done : goal.returns-then-branch-clause-done
returns-then-branch-clause-done g c = c.in_ok-pass.ensures.done c.if-branch.true

pub loop-preserved : goal.loop-preserved
loop-preserved g c = record { gone_on = all_through c.args.workers.now c.loop.workers c.pass.new.workers c.loop.invariant.gone_on c.pass.ensures.gone_on; rounds = (tt, tt) }
