use Rattle.std.proofs.Common.{◌≡◌, None, Ok, ap, arith}
use Rattle.worker_core.specs.State.{lists_of}
use Rattle.worker_core.specs.declared.did.Did.{Did}
use Rattle.run_measure.specs.Steps.{HasServed}
use Rattle.parties.proofs.OneChangedLemmas.{as_many_made}
use Rattle.run_measure.proofs.ServedLemmas.{served_once, served_still, served_through}
use Rattle.parties.specs.Turning.{HasTurned}
use Rattle.parties.proofs.TurnedLemmas.{turned_once, turned_still, turned_through}
use Rattle.parties.proofs.stepping.turn_often.Given.{Over}
use Rattle.parties.proofs.stepping.turn_often.Goals as goal
use Rattle.parties.proofs.stepping.turn_often.Goals.{After-turn, else-eq-2-via-else-eq-2, else-eq-2-via-then-eq-2+else-not-tries_again}

-- the worker after one more turn
turned : (g : Over) (c : After-turn g)
    → HasTurned g.Q.Rx g.T.Tx g.O.Tx g.G.GossipRx c.args.worker.now c.turn.new.self
turned g c =
    turned_through c.loop.invariant.turned
    (turned_once c.loop.worker c.turn.new.self
    c.turn.ensures.fixed c.turn.ensures.keys c.turn.ensures.replied c.turn.ensures.requests c.turn.ensures.gossip)

-- and what it has served, where the turn had memory
served : (g : Over) (c : After-turn g) (its : Did) → c.turn.result ≡ Ok its → c.args.worker.now.state.kept ≡ None
    → HasServed (lists_of g.Q.Rx.received g.T.Tx.sent g.O.Tx.sent g.G.GossipRx.got c.args.worker.now)
    (lists_of g.Q.Rx.received g.T.Tx.sent g.O.Tx.sent g.G.GossipRx.got c.turn.new.self)
served g c its is none_kept =
    let lists = lists_of g.Q.Rx.received g.T.Tx.sent g.O.Tx.sent g.G.GossipRx.got in
    let so_far = c.loop.invariant.served none_kept in
    served_through (lists c.args.worker.now) (lists c.loop.worker) (lists c.turn.new.self)
    (as_many_made g.T.Tx.number g.T.Tx.sent c.args.worker.now.ends.replies.items c.loop.worker.ends.replies.items c.loop.invariant.turned.gone_on.keys.replies_numbers)
    so_far (served_once its c.turn.result (lists c.loop.worker) (lists c.turn.new.self) _ _ _ is c.turn.ensures.did c.turn.ensures.shows_more c.loop.invariant.share so_far.kept)

pub loop-init : goal.loop-init
loop-init g c = record {
  counted = (omega arith, omega arith);
  turned = turned_still c.args.worker.now;
  share = c.attest.ensures.share;
  served = served_still (lists_of g.Q.Rx.received g.T.Tx.sent g.O.Tx.sent g.G.GossipRx.got c.args.worker.now);
}

pub loop-preserved : goal.loop-preserved
loop-preserved g c =
    let after = (goal.at.loop-preserved g c).After-turn in
    record {
      counted = elim c.else-eq-2.branch [
        | else-eq-2-via-then-eq-2+else-not-tries_again w ↦
            let is = ap g.A.Pace.steps w.pace-is in
            (omega (arith, is, w.tries_again.ensures, c.begin.ensures.0, c.loop.invariant.counted.0), omega (arith, is, w.tries_again.ensures, c.begin.ensures.1, c.loop.invariant.counted.1))
        | else-eq-2-via-else-eq-2 w ↦
            let is = ap g.A.Pace.steps w.pace-is in
            (omega (arith, is, c.begin.ensures.0, c.loop.invariant.counted.0), omega (arith, is, c.begin.ensures.1, c.loop.invariant.counted.1))
      ];
      turned = turned g after;
      share = c.turn.ensures.share;
      served = served g after c.in_ok-did.did c.in_ok-did.was;
    }

pub returns-in_err-did-clause-turned : goal.returns-in_err-did-clause-turned
returns-in_err-did-clause-turned g c = turned g (goal.at.returns-in_err-did-clause-turned g c).After-turn

pub returns-then-not-tries_again-clause-turned : goal.returns-then-not-tries_again-clause-turned
returns-then-not-tries_again-clause-turned g c = turned g (goal.at.returns-then-not-tries_again-clause-turned g c).After-turn

pub returns-then-not-tries_again-clause-served : goal.returns-then-not-tries_again-clause-served
returns-then-not-tries_again-clause-served g c =
    served g (goal.at.returns-then-not-tries_again-clause-served g c).After-turn c.in_ok-did.did c.in_ok-did.was
