use Rattle.std.proofs.Common.{◌≡◌, ◌∙◌, length, map, subst, sym}
use Rattle.party_turns.proofs.ItemsLemmas.{at_its_place, mapped}
use Rattle.parties.specs.Session.{proxy_of}
use Rattle.parties.specs.Polling.{IsAllAnswered, left_by}
use Rattle.parties.proofs.YieldedLemmas.{all_taken, next_there}
use Rattle.party_run.proofs.finishing.finish_all.Goals as goal

pub finish-requires : goal.finish-requires
finish-requires g c =
    let sessions = c.args.sessions.items in
    let taken = c.loop-session.yielded in
    let gives = c.into_iter-session-iterator.ensures.into_iter_gives in
    at_its_place IsAllAnswered (map proxy_of sessions) (length taken) (proxy_of c.in-Some.session) c.requires
    (mapped proxy_of sessions (length taken) c.in-Some.session
    (next_there sessions c.into_iter-session-iterator.result gives.0 (gives.1 ∙ c.args.sessions.ok.0) taken c.loop-session.session-iterator c.next.new.self
    c.loop-session.yielded_by c.next.result c.next.ensures.steps c.in-Some.session c.in-Some.is))

pub returns : goal.returns
returns g c =
    let sessions = c.args.sessions.items in
    let gives = c.into_iter-session-iterator.ensures.into_iter_gives in
    subst (λ those. c.loop-session.left.items ≡ map left_by (map proxy_of those))
    (sym (all_taken sessions c.into_iter-session-iterator.result gives.0 (gives.1 ∙ c.args.sessions.ok.0) c.loop-session.yielded c.loop-session.session-iterator c.next.new.self
    c.loop-session.yielded_by c.next.result c.next.ensures.steps c.in-None.is)) c.loop-session.invariant.2
