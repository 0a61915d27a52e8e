use Rattle.std.proofs.Common.{◌∙◌, ◌∷◌, ◌++◌, [], subst, sym}
use Rattle.std.proofs.lemmas.List.{map-id}
use Rattle.std.proofs.lemmas.Iterator.Adapters.{YieldsList-from_vec}
use Rattle.std.proofs.lemmas.Iterator.Consumers.{YieldsList-end}
use Rattle.party_ends.specs.Parties.{AreMadeOf, IsNewWorker}
use Rattle.party_ends.proofs.PartiesLemmas.{one_more}
use Rattle.party_ends.proofs.beginning.new_workers.Goals as goal

pub loop-its-preserved : goal.loop-its-preserved
loop-its-preserved g c =
    subst (AreMadeOf (IsNewWorker c.args.script.now c.args.placement.now) (c.loop-its.yielded ++ c.in-Some.its ∷ [])) (sym c.in_ok-push.ensures.items)
    (one_more c.loop-its.yielded c.loop-its.workers.items c.in-Some.its c.in_ok-new_worker.field-0 c.loop-its.invariant
    (subst (λ place. IsNewWorker c.args.script.now c.args.placement.now place c.in-Some.its c.in_ok-new_worker.field-0)
    (c.len-place.ensures ∙ c.loop-its.workers.ok.0 ∙ c.loop-its.invariant.long) c.in_ok-new_worker.ensures))

pub returns : goal.returns
returns g c =
    let source = c.into_iter-its-iterator.ensures.into_iter_gives in
    let all = YieldsList-end (YieldsList-from_vec {s = c.into_iter-its-iterator.result} c.args.ends.items source.0 (source.1 ∙ c.args.ends.ok.0))
    c.loop-its.yielded c.loop-its.its-iterator c.loop-its.yielded_by c.next.result c.next.new.self c.in-None.is c.next.ensures.steps in
    subst (λ items. AreMadeOf (IsNewWorker c.args.script.now c.args.placement.now) items c.loop-its.workers.items) (sym (map-id c.loop-its.yielded) ∙ all.0) c.loop-its.invariant
