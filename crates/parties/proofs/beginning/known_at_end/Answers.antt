use Rattle.std.proofs.Common.{◌≡◌, ◌∙◌, ◌-◌, ◌<◌, Option, Some, IfSome, None, ap, length, map, slice_get, subst, sym}
use Rattle.std.proofs.lemmas.Bool.{false≢true, lt-ltb, ltb-true}
use Rattle.std.proofs.lemmas.Option.{same_Some, slice_get_within}
use Rattle.party_turns.proofs.ItemsLemmas.{mapped, of_mapped}
use Rattle.parties.proofs.ChangedLemmas.{read_there}
use Rattle.parties.specs.Polling.{IsAllAnswered}
use Rattle.parties.specs.Session.{proxy_of}
use Rattle.parties.proofs.beginning.known_at_end.Goals as goal
use Rattle.parties.proofs.beginning.known_at_end.Goals.{After-known_at_end}
use Rattle.parties.proofs.beginning.known_at_end.Given.{Over}

-- what holds of a value of which something else is known
on_some : {X : Type 0} {P Q : X → Type 0} (found : Option X) → ((x : X) → P x → Q x) → IfSome found P → IfSome found Q
on_some None follows is = is
on_some (Some x) follows is = follows x is

-- the session is at its place
there : (g : Over) (c : After-known_at_end g) → slice_get (map proxy_of c.args.sessions.now) (c.args.session - 1) ≡ Some (proxy_of c.in-Some.its.now)
there g c =
    let sessions = c.args.sessions.now in
    subst (λ place. slice_get (map proxy_of sessions) place ≡ Some (proxy_of c.in-Some.its.now)) (c.saturating_sub.ensures ∙ ap (λ number. number - 1) c.from.ensures)
    (mapped proxy_of sessions c.saturating_sub.result c.in-Some.its.now
    (read_there sessions c.saturating_sub.result c.in-Some.its.now (ltb-true _ _ (sym c.in-Some.ensures.lookup.0)) c.in-Some.ensures.lookup.1))

pub returns-in-Some-clause-known : goal.returns-in-Some-clause-known
returns-in-Some-clause-known g c =
    on_some c.known_at_end.result (λ known knows. (proxy_of c.in-Some.its.now, there g (goal.at.returns-in-Some-clause-known g c).After-known_at_end, knows)) c.known_at_end.ensures.known

pub returns-in-Some-clause-none : goal.returns-in-Some-clause-none
returns-in-Some-clause-none g c none its is =
    let at = there g (goal.at.returns-in-Some-clause-none g c).After-known_at_end in
    subst (λ its. IsAllAnswered its → ⊥) (same_Some (proxy_of c.in-Some.its.now) its (sym at ∙ is)) (c.known_at_end.ensures.none none)

pub returns-in-None-clause-none : goal.returns-in-None-clause-none
returns-in-None-clause-none g c none its is answered =
    let sessions = c.args.sessions.now in
    let place = c.saturating_sub.ensures ∙ ap (λ number. number - 1) c.from.ensures in
    let one = of_mapped proxy_of sessions (c.args.session - 1) its is in
    absurd (false≢true (c.in-None.ensures.lookup.0 ∙ lt-ltb _ _ (subst (λ at. at < length sessions) (sym place) (slice_get_within sessions (c.args.session - 1) one.0 one.1))))
