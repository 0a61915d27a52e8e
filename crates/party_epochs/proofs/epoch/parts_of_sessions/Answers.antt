use Rattle.std.proofs.Common.{◌≡◌, ◌+◌, ◌++◌, ◌∙◌, ◌∷◌, [], ap, length, map, subst, sym}
use Rattle.std.proofs.lemmas.List.{length-map, map-append, map-id}
use Rattle.std.proofs.lemmas.Iterator.Adapters.{YieldsList-from_vec}
use Rattle.std.proofs.lemmas.Iterator.Consumers.{YieldsList-end}
use Rattle.party_epochs.specs.Turns.{AreCounted, turns_of}
use Rattle.party_epochs.proofs.TurnsLemmas.{one_counted}
use Rattle.party_epochs.proofs.epoch.parts_of_sessions.Goals as goal

pub loop-session-preserved : goal.loop-session-preserved
loop-session-preserved g c =
    let those = c.loop-session.parts.items in
    let long : c.len-place.result ≡ length (map (λ part. part.turns) those) = c.len-place.ensures ∙ c.loop-session.parts.ok.0 ∙ sym (length-map those (λ part. part.turns)) in
    record {
      parts = ap (map (λ part. part.session)) c.in_ok-push.ensures.items ∙ map-append (λ part. part.session) those _ ∙ ap (λ all. all ++ c.in-Some.session ∷ []) c.loop-session.invariant.parts;
      counted = subst (AreCounted c.args.turns.now c.args.workers) (sym (ap (map (λ part. part.turns)) c.in_ok-push.ensures.items ∙ map-append (λ part. part.turns) those _))
          (one_counted c.args.turns.now c.args.workers (map (λ part. part.turns) those) c.turns_of.result c.loop-session.invariant.counted
          (c.turns_of.ensures ∙ ap (λ n. turns_of c.args.turns.now (c.args.workers + n)) long));
    }

pub returns-clause-sessions : goal.returns-clause-sessions
returns-clause-sessions g c =
    let source = c.into_iter-session-iterator.ensures.into_iter_gives in
    let all = YieldsList-end (YieldsList-from_vec {s = c.into_iter-session-iterator.result} c.args.sessions.items source.0 (source.1 ∙ c.args.sessions.ok.0))
    c.loop-session.yielded c.loop-session.session-iterator c.loop-session.yielded_by c.next.result c.next.new.self c.in-None.is c.next.ensures.steps in
    c.loop-session.invariant.parts ∙ sym (map-id c.loop-session.yielded) ∙ all.0
