use Rattle.std.proofs.Common.{length}
use Rattle.worker_core.specs.Sealed.{sealed_of}
use Rattle.worker_core.specs.State.{PlainWorker}
use Rattle.drain_steps.proofs.TurnedLemmas.{IsTaken, IsTurned}
use Rattle.drain_steps.proofs.sealing.seal_all.Given as goal

abbrev pub invariant-loop-worker : goal.invariant-loop-worker
invariant-loop-worker g l = record {
  taken : IsTaken {X = PlainWorker g.row.Q.Denot g.row.T.Denot g.row.O.Denot g.row.G.Denot} l.fn.workers.items l.workers.items;
  sealed : IsTurned {X = PlainWorker g.row.Q.Denot g.row.T.Denot g.row.O.Denot g.row.G.Denot} l.fn.workers.items sealed_of taken.taken l.sealed.items;
  replies : IsTurned {X = PlainWorker g.row.Q.Denot g.row.T.Denot g.row.O.Denot g.row.G.Denot} l.fn.workers.items (λ worker. worker.ends.replies) taken.taken l.replies.items;
  gossip : IsTurned {X = PlainWorker g.row.Q.Denot g.row.T.Denot g.row.O.Denot g.row.G.Denot} l.fn.workers.items (λ worker. worker.ends.gossip_out) taken.taken l.gossip.items;
}

abbrev pub decreases-loop-worker : goal.decreases-loop-worker
decreases-loop-worker g l = length l.workers.items
