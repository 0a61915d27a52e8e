use Rattle.std.proofs.Common.{◌≡◌, None}
use Rattle.worker_core.specs.State.{lists_of}
use Rattle.worker_core.specs.Share.{Share}
use Rattle.run_measure.specs.Steps.{HasServed}
use Rattle.parties.specs.Pace.{RoseAtMost}
use Rattle.parties.specs.Turning.{HasTurned}
use Rattle.parties.proofs.stepping.turn_often.Given as goal

abbrev pub invariant-loop : goal.invariant-loop
invariant-loop g l =
    let lists = lists_of g.Q.Rx.received g.T.Tx.sent g.O.Tx.sent g.G.GossipRx.got in
    record {
      counted : RoseAtMost l.counter (g.A.Pace.steps l.fn.pace) (g.A.Pace.steps l.pace);
      turned : HasTurned g.Q.Rx g.T.Tx g.O.Tx g.G.GossipRx l.fn.worker l.worker;
      share : Share (lists l.worker);
      served : l.fn.worker.state.kept ≡ None → HasServed (lists l.fn.worker) (lists l.worker);
    }
