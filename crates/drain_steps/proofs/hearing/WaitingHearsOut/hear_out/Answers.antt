use Rattle.mail_contract.specs.Boxes.{WeakBox, weak_box_of}
use Rattle.worker_core.specs.State.{Entries}
use Rattle.drain_steps.proofs.HearingLemmas.{heard_out, hears_next}
use Rattle.drain_steps.proofs.hearing.WaitingHearsOut.hear_out.Given.{Over}
use Rattle.drain_steps.proofs.hearing.WaitingHearsOut.hear_out.Goals as goal

module _ (g : Over) where
  abbrev box : g.row.G.Denot → WeakBox Entries
  box = weak_box_of g.G.GossipRx.got g.G.GossipRx.answers g.G.GossipRx.about g.G.GossipRx.due g.G.GossipRx.most

pub loop-preserved : goal.loop-preserved
loop-preserved g c =
    let next =
    hears_next g.G.GossipRx.key g.G.GossipRx.senders (box g) g.G.GossipRx.keeps c.args.worker.now c.loop.worker c.hear.new.self c.loop.invariant.on
    c.in_ok-hear.ensures.fixed c.in_ok-hear.ensures.key c.in_ok-hear.ensures.gossip c.in_ok-hear.field-0 c.in_ok-hear.ensures.hears
    in
    record { on = next; rounds = (tt, tt) }

pub returns-then-not-branch : goal.returns-then-not-branch
returns-then-not-branch g c = record {
  heard =
      heard_out g.G.GossipRx.key g.G.GossipRx.senders (box g) g.G.GossipRx.keeps c.args.worker.now c.loop.worker c.hear.new.self c.loop.invariant.on
      c.in_ok-hear.ensures.fixed c.in_ok-hear.ensures.key c.in_ok-hear.ensures.gossip c.in_ok-hear.field-0 c.in_ok-hear.ensures.hears
      g.Q.Rx.received c.in_ok-hear.ensures.holds c.if-not-branch.true;
}
