use Rattle.std.proofs.Common.{◌+◌, refl, length, ap, arith}
use Rattle.std.proofs.lemmas.Bool.{false≢true}
use Rattle.merge_world.specs.Heard.{IsWorkerHeard}
use Rattle.merge_world.specs.World.{PlainWorld}
use Rattle.merge_world.proofs.HeardLemmas.{below_more, worker_from_settled, workers_from_places}
use Rattle.merge_world.proofs.world.World.settled.Goals as goal

pub returns-then-not-are_keys_heard : goal.returns-then-not-are_keys_heard
returns-then-not-are_keys_heard c = (
  λ is. absurd (false≢true is),
  λ settled. c.if-not-are_keys_heard.ensures.1 (worker_from_settled c.args.self.now (c.loop-worker.worker + 1) settled),
)

pub loop-worker-preserved : goal.loop-worker-preserved
loop-worker-preserved c = below_more (λ place. IsWorkerHeard c.args.self.now (place + 1)) c.loop-worker.worker c.loop-worker.invariant (c.if-not-are_keys_heard.ensures.0 refl)

pub returns : goal.returns
returns c =
    let long = ap (λ (world : PlainWorld). length world.maps) c.self.view_is in
    (λ _. workers_from_places c.args.self.now (λ place low. c.loop-worker.invariant place (omega (arith, low, long))), λ _. refl)
