use Rattle.std.proofs.Common.{arith}
use Rattle.drain_steps.specs.Hearing.{HasHeard}
use Rattle.worker_core.specs.Sealed.{PlainSealed}
use Rattle.party_turns.proofs.PlacesLemmas.{all_done, none_done, one_done}
use Rattle.drain_steps.proofs.hearing.hear_all.Given.{Over}
use Rattle.drain_steps.proofs.hearing.hear_all.Goals as goal

module _ (g : Over) where
  abbrev Heard : PlainSealed g.row.Q.Denot g.row.G.Denot → PlainSealed g.row.Q.Denot g.row.G.Denot → Type 0
  Heard = HasHeard g.Q.Rx.received g.G.GossipRx.key g.G.GossipRx.senders g.G.GossipRx.got g.G.GossipRx.about g.G.GossipRx.keeps.complete

pub loop-place-init : goal.loop-place-init
loop-place-init g c = none_done (Heard g) c.args.workers.now.items

pub loop-place-preserved : goal.loop-place-preserved
loop-place-preserved g c =
    let within = c.loop-place-test.true in
    let long = c.loop-place.invariant.long in
    one_done (Heard g) c.args.workers.now.items c.loop-place.place c.loop-place.workers.items c.index_mut.result.now c.hear_out.new.worker (omega (arith, within, long)) c.index_mut.ensures.value
    c.in_ok-hear_out.ensures.heard c.loop-place.invariant

pub returns-clause-heard : goal.returns-clause-heard
returns-clause-heard g c =
    let over = c.loop-place-test.false in
    let long = c.loop-place.invariant.long in
    all_done (Heard g) c.args.workers.now.items c.loop-place.place c.loop-place.workers.items (omega (arith, over, long)) c.loop-place.invariant
