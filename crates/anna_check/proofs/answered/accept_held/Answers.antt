use Rattle.std.proofs.Common.{rules}
use Rattle.anna_check.proofs.HeldLemmas.{accepting_more, accepted_all}
use Rattle.anna_check.proofs.answered.accept_held.Goals as goal

pub loop-place-preserved : goal.loop-place-preserved
loop-place-preserved c =
    let held = c.index-held-place.result in
    accepting_more c.args.session.now c.args.accepted.now c.args.lamport c.args.held.now c.loop-place.place c.loop-place.session c.accept.new.session c.loop-place.accepted c.accept.new.accepted held.0 held.1 c.loop-place.invariant c.loop-place-test.true c.index-held-place.is
    c.accept.ensures.client c.accept.ensures.held c.in_ok-accept.ensures.knows c.in_ok-accept.ensures.kinds c.in_ok-accept.ensures.puts

pub returns-clause-puts : goal.returns-clause-puts
returns-clause-puts c = (accepted_all c.args.session.now c.args.accepted.now c.args.lamport c.args.held.now c.loop-place.place c.loop-place.session c.loop-place.accepted c.loop-place.invariant (search rules)).1
