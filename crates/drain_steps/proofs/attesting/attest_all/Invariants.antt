use Rattle.std.proofs.Common.{◌≡◌, ◌<◌, ℕ, All, Some, slice_get}
use Rattle.worker_core.specs.Kept.{IsRequest}
use Rattle.worker_core.specs.Share.{Share}
use Rattle.worker_core.specs.State.{PlainWorker, lists_of}
use Rattle.drain_steps.proofs.attesting.attest_all.Given as goal

abbrev pub invariant-loop-i : goal.invariant-loop-i
invariant-loop-i g l = record {
  share : (place : ℕ) (worker : PlainWorker g.row.Q.Denot g.row.T.Denot g.row.O.Denot g.row.G.Denot) → place < l.i → slice_get l.workers place ≡ Some worker
      → Share (lists_of g.Q.Rx.received g.T.Tx.sent g.O.Tx.sent g.G.GossipRx.got worker);
  requests : (place : ℕ) (worker : PlainWorker g.row.Q.Denot g.row.T.Denot g.row.O.Denot g.row.G.Denot) → place < l.i → slice_get l.workers place ≡ Some worker
      → All (λ message. IsRequest message.1) (g.Q.Rx.received worker.ends.requests);
}
