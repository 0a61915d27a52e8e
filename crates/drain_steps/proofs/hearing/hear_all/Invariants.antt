use Rattle.drain_steps.specs.Hearing.{HasHeard}
use Rattle.party_turns.proofs.PlacesLemmas.{IsDoneBefore}
use Rattle.drain_steps.proofs.hearing.hear_all.Given as goal

abbrev pub invariant-loop-place : goal.invariant-loop-place
invariant-loop-place g l =
    IsDoneBefore (HasHeard g.Q.Rx.received g.G.GossipRx.key g.G.GossipRx.senders g.G.GossipRx.got g.G.GossipRx.about g.G.GossipRx.keeps.complete) l.fn.workers.items l.place l.workers.items
