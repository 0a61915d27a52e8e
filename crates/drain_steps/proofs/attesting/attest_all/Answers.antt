use Rattle.std.proofs.Common.{All, arith}
use Rattle.std.proofs.lemmas.Option.{slice_get_within}
use Rattle.worker_core.specs.Kept.{IsRequest}
use Rattle.worker_core.specs.Share.{Share}
use Rattle.worker_core.specs.State.{PlainWorker, lists_of}
use Rattle.party_turns.proofs.PlacesLemmas.{of_that, one_more_place}
use Rattle.drain_steps.proofs.attesting.attest_all.Given.{Over}
use Rattle.drain_steps.proofs.attesting.attest_all.Goals as goal

module _ (g : Over) where
  abbrev Worker : Type 0
  Worker = PlainWorker g.row.Q.Denot g.row.T.Denot g.row.O.Denot g.row.G.Denot

pub loop-i-preserved : goal.loop-i-preserved
loop-i-preserved g c =
    let shares : Worker g → Type 0 = λ worker. Share (lists_of g.Q.Rx.received g.T.Tx.sent g.O.Tx.sent g.G.GossipRx.got worker) in
    let requests : Worker g → Type 0 = λ worker. All (λ message. IsRequest message.1) (g.Q.Rx.received worker.ends.requests) in
    record {
      share = one_more_place shares c.args.workers.now c.loop-i.i c.loop-i.invariant.share
          (of_that shares c.args.workers.now c.loop-i.i c.index-workers-i.result c.index-workers-i.is c.attest.ensures.share);
      requests = one_more_place requests c.args.workers.now c.loop-i.i c.loop-i.invariant.requests
          (of_that requests c.args.workers.now c.loop-i.i c.index-workers-i.result c.index-workers-i.is c.attest.ensures.requests);
    }

pub returns-clause-share : goal.returns-clause-share
returns-clause-share g c = λ place worker here. c.loop-i.invariant.share place worker (let within = slice_get_within c.args.workers.now place worker here in omega (arith, within, c.loop-i-test.false)) here

pub returns-clause-requests : goal.returns-clause-requests
returns-clause-requests g c = λ place worker here. c.loop-i.invariant.requests place worker (let within = slice_get_within c.args.workers.now place worker here in omega (arith, within, c.loop-i-test.false)) here
