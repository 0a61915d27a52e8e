use Rattle.std.proofs.Common.{◌≡◌, ◌∷◌, ◌++◌, ◌∙◌, [], List, None, ap, arith, inl, inr, length, length-append}
use Rattle.std.proofs.lemmas.Bool.{cases_lt, false≢true}
use Rattle.std.proofs.lemmas.List.{nil_from_length}
use Rattle.worker_core.specs.Sealed.{sealed_of}
use Rattle.worker_core.specs.State.{PlainWorker, dirty, kept_request}
use Rattle.drain_steps.proofs.TurnedLemmas.{IsTaken, none_taken, of_last, one_more, one_taken, turned_round}
use Rattle.drain_steps.proofs.sealing.seal_all.Given.{Over}
use Rattle.drain_steps.proofs.sealing.seal_all.Goals as goal

pub loop-worker-init : goal.loop-worker-init
loop-worker-init g c = record { taken = none_taken c.args.workers.items; sealed = c.in_ok-sealed.ensures.items; replies = c.in_ok-replies.ensures.items; gossip = c.in_ok-gossip.ensures.items }

pub seal-its_sealed-requires-clause-clean : goal.seal-its_sealed-requires-clause-clean
seal-its_sealed-requires-clause-clean g c = of_last c.args.workers.items c.loop-worker.workers.items c.pop.new.self.items c.in-Some.worker c.in-Some.ensures.items c.loop-worker.invariant.taken (λ worker. dirty worker.state ≡ 0) c.requires.clean

pub seal-its_sealed-requires-clause-none_held : goal.seal-its_sealed-requires-clause-none_held
seal-its_sealed-requires-clause-none_held g c = of_last c.args.workers.items c.loop-worker.workers.items c.pop.new.self.items c.in-Some.worker c.in-Some.ensures.items c.loop-worker.invariant.taken (λ worker. worker.state.held ≡ None) c.requires.none_held

pub seal-its_sealed-requires-clause-none_kept : goal.seal-its_sealed-requires-clause-none_kept
seal-its_sealed-requires-clause-none_kept g c = of_last c.args.workers.items c.loop-worker.workers.items c.pop.new.self.items c.in-Some.worker c.in-Some.ensures.items c.loop-worker.invariant.taken (λ worker. kept_request worker.state.kept ≡ []) c.requires.none_kept

pub loop-worker-smaller : goal.loop-worker-smaller
loop-worker-smaller g c = let long = ap length c.in-Some.ensures.items in omega (arith, long, length-append c.pop.new.self.items (c.in-Some.worker ∷ []))

module _ (g : Over) where
  abbrev Worker : Type 0
  Worker = PlainWorker g.row.Q.Denot g.row.T.Denot g.row.O.Denot g.row.G.Denot

pub loop-worker-preserved : goal.loop-worker-preserved
loop-worker-preserved g c =
    let all : List (Worker g) = c.args.workers.items in
    let worker : Worker g = c.in-Some.worker in
    let taken : List (Worker g) = c.loop-worker.invariant.taken.taken in
    record {
      taken = one_taken all c.loop-worker.workers.items c.pop.new.self.items worker c.in-Some.ensures.items c.loop-worker.invariant.taken;
      sealed = one_more all sealed_of taken worker c.loop-worker.sealed.items c.push.new.self.items c.seal-its_sealed.result.0 c.in_ok-push.ensures.items c.seal-its_sealed.ensures.sealed c.loop-worker.invariant.sealed;
      replies = one_more all (λ its. its.ends.replies) taken worker c.loop-worker.replies.items c.push-in-Some.new.self.items c.seal-its_sealed.result.1 c.in_ok-push-2.ensures.items c.seal-its_sealed.ensures.replies c.loop-worker.invariant.replies;
      gossip = one_more all (λ its. its.ends.gossip_out) taken worker c.loop-worker.gossip.items c.push-in-Some-2.new.self.items c.seal-its_sealed.result.2 c.in_ok-push-3.ensures.items c.seal-its_sealed.ensures.gossip_out c.loop-worker.invariant.gossip;
    }

module _ (g : Over) (c : goal.After-drop-workers-2 g) where
  -- none is left
  none : c.loop-worker.workers.items ≡ []
  none = elim (cases_lt 0 (length c.loop-worker.workers.items)) [
    | inl some ↦ absurd (false≢true (c.in_default.ensures.variant.1 (omega (arith, some))))
    | inr few ↦ nil_from_length c.loop-worker.workers.items (omega (arith, few))
  ]

  -- so all were taken
  abbrev all_taken : IsTaken c.args.workers.items []
  all_taken = record { taken = c.loop-worker.invariant.taken.taken; split = c.loop-worker.invariant.taken.split ∙ ap (λ those. those ++ c.loop-worker.invariant.taken.taken) none }

pub returns-clause-sealed : goal.returns-clause-sealed
returns-clause-sealed g c = c.reverse.ensures.items ∙ turned_round c.args.workers.items sealed_of (all_taken g c) c.loop-worker.sealed.items c.loop-worker.invariant.sealed

pub returns-clause-replies : goal.returns-clause-replies
returns-clause-replies g c =
    c.reverse-2.ensures.items
    ∙ turned_round c.args.workers.items (λ worker. worker.ends.replies) (all_taken g c) c.loop-worker.replies.items c.loop-worker.invariant.replies

pub returns-clause-gossip : goal.returns-clause-gossip
returns-clause-gossip g c =
    c.reverse-3.ensures.items
    ∙ turned_round c.args.workers.items (λ worker. worker.ends.gossip_out) (all_taken g c) c.loop-worker.gossip.items c.loop-worker.invariant.gossip
