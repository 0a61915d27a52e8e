use Rattle.std.proofs.Common.{◌∙◌, ◌∷◌, ◌++◌, [], map, subst, sym, ap}
use Rattle.std.proofs.lemmas.List.{length-map, map-append, map-id}
use Rattle.std.proofs.lemmas.Iterator.Adapters.{YieldsList-from_vec}
use Rattle.std.proofs.lemmas.Iterator.Consumers.{YieldsList-end}
use Rattle.parties.specs.Session.{proxy_of}
use Rattle.party_ends.specs.Parties.{AreMadeOf, IsNewSession}
use Rattle.party_ends.proofs.PartiesLemmas.{one_more}
use Rattle.party_ends.proofs.beginning.new_sessions.Goals as goal

pub loop-its-preserved : goal.loop-its-preserved
loop-its-preserved g c =
    subst (AreMadeOf (IsNewSession g.S.Tx.sent g.R.Rx.received c.args.script.now c.args.placement.now) (c.loop-its.yielded ++ c.in-Some.its ∷ []))
    (sym (ap (map proxy_of) c.in_ok-push.ensures.items ∙ map-append proxy_of c.loop-its.sessions.items (c.in_ok-new_session.field-0 ∷ [])))
    (one_more c.loop-its.yielded (map proxy_of c.loop-its.sessions.items) c.in-Some.its (proxy_of c.in_ok-new_session.field-0) c.loop-its.invariant
    (subst (λ place. IsNewSession g.S.Tx.sent g.R.Rx.received c.args.script.now c.args.placement.now place c.in-Some.its (proxy_of c.in_ok-new_session.field-0))
    (c.len-place.ensures ∙ c.loop-its.sessions.ok.0 ∙ sym (length-map c.loop-its.sessions.items proxy_of) ∙ c.loop-its.invariant.long) c.in_ok-new_session.ensures))

pub returns : goal.returns
returns g c =
    let source = c.into_iter-its-iterator.ensures.into_iter_gives in
    let all = YieldsList-end (YieldsList-from_vec {s = c.into_iter-its-iterator.result} c.args.ends.items source.0 (source.1 ∙ c.args.ends.ok.0))
    c.loop-its.yielded c.loop-its.its-iterator c.loop-its.yielded_by c.next.result c.next.new.self c.in-None.is c.next.ensures.steps in
    subst (λ items. AreMadeOf (IsNewSession g.S.Tx.sent g.R.Rx.received c.args.script.now c.args.placement.now) items (map proxy_of c.loop-its.sessions.items))
    (sym (map-id c.loop-its.yielded) ∙ all.0) c.loop-its.invariant
