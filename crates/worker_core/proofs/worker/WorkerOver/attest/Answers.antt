use Rattle.std.proofs.Common.{ℕ, ◌≤◌, All, length, subst}
use Rattle.worker_core.specs.Kept.{IsRequest}
use Rattle.worker_core.specs.Lag.{Lags}
use Rattle.worker_core.specs.Local.{state_of}
use Rattle.worker_core.specs.State.{changed_of, lists_of}
use Rattle.worker_core.proofs.FewLemmas.{few_changed}
use Rattle.worker_core.proofs.LagLemmas.{lag_less}
use Rattle.worker_core.proofs.worker.WorkerOver.attest.Goals as goal

pub returns-clause-lags : goal.returns-clause-lags
returns-clause-lags g c =
    let lists_are = lists_of g.Q.Rx.received g.T.Tx.sent g.O.Tx.sent g.G.GossipRx.got in
    let keeps = c.self.invariant.keeps in
    subst (λ worker. Lags (lists_are worker)) c.self.view_is
    (lag_less c.self.inside.local.since c.self.inside.local.round (lists_are (record { state = state_of c.self.inside.local; ends = c.self.inside.ends })) keeps.since keeps.lags)

pub returns-clause-requests : goal.returns-clause-requests
returns-clause-requests g c =
    let lists_are = lists_of g.Q.Rx.received g.T.Tx.sent g.O.Tx.sent g.G.GossipRx.got in
    subst (λ worker. All (λ message. IsRequest message.1) (lists_are worker).received) c.self.view_is c.self.invariant.keeps.requests

pub returns-clause-few_changed : goal.returns-clause-few_changed
returns-clause-few_changed g c =
    let lists_are = lists_of g.Q.Rx.received g.T.Tx.sent g.O.Tx.sent g.G.GossipRx.got in
    subst (λ worker. (place : ℕ) → length (changed_of worker.state place) ≤ length worker.state.placement) c.self.view_is
    (few_changed (lists_are (record { state = state_of c.self.inside.local; ends = c.self.inside.ends })) c.self.invariant.keeps)
