use Rattle.std.proofs.Common.{◌≡◌, ◌+◌, ◌++◌, ◌∙◌, ◌∷◌, [], ap, length, map, subst, sym}
use Rattle.std.proofs.lemmas.List.{length-map, map-append, map-id}
use Rattle.std.proofs.lemmas.Iterator.Adapters.{YieldsList-from_vec}
use Rattle.std.proofs.lemmas.Iterator.Consumers.{YieldsList-end}
use Rattle.party_epochs.specs.Turns.{AreCounted, turns_of}
use Rattle.party_epochs.proofs.TurnsLemmas.{one_counted}
use Rattle.party_epochs.proofs.epoch.parts_of_workers.Goals as goal

pub loop-worker-preserved : goal.loop-worker-preserved
loop-worker-preserved g c =
    let those = c.loop-worker.parts.items in
    let long : c.len-place.result ≡ length (map (λ part. part.turns) those) = c.len-place.ensures ∙ c.loop-worker.parts.ok.0 ∙ sym (length-map those (λ part. part.turns)) in
    record {
      parts = ap (map (λ part. part.worker)) c.in_ok-push.ensures.items ∙ map-append (λ part. part.worker) those _ ∙ ap (λ all. all ++ c.in-Some.worker ∷ []) c.loop-worker.invariant.parts;
      counted = subst (AreCounted c.args.turns.now 0) (sym (ap (map (λ part. part.turns)) c.in_ok-push.ensures.items ∙ map-append (λ part. part.turns) those _))
          (one_counted c.args.turns.now 0 (map (λ part. part.turns) those) c.turns_of.result c.loop-worker.invariant.counted
          (c.turns_of.ensures ∙ ap (λ n. turns_of c.args.turns.now (0 + n)) long));
    }

pub returns-clause-workers : goal.returns-clause-workers
returns-clause-workers g c =
    let source = c.into_iter-worker-iterator.ensures.into_iter_gives in
    let all = YieldsList-end (YieldsList-from_vec {s = c.into_iter-worker-iterator.result} c.args.workers.items source.0 (source.1 ∙ c.args.workers.ok.0))
    c.loop-worker.yielded c.loop-worker.worker-iterator c.loop-worker.yielded_by c.next.result c.next.new.self c.in-None.is c.next.ensures.steps in
    c.loop-worker.invariant.parts ∙ sym (map-id c.loop-worker.yielded) ∙ all.0
