use Rattle.std.proofs.Common.{◌≡◌, ◌∙◌, ◌<◌, ◌-◌, IsTrue, List, ap, arith, length, map, subst, sym}
use Rattle.std.proofs.lemmas.List.{length-map}
use Rattle.session_proxy.specs.State.{Lists, PlainProxy, has_begun}
use Rattle.party_turns.proofs.ItemsLemmas.{mapped, of_mapped}
use Rattle.party_turns.specs.Ends.{Ends, mail_of, session_lists}
use Rattle.parties.proofs.BeginningLemmas.{await_still, begun_stays, may_step_on, others_stay}
use Rattle.parties.proofs.OneChangedLemmas.{where_ok}
use Rattle.parties.proofs.SameToldLemmas.{same_told}
use Rattle.parties.specs.Session.{proxy_of}
use Rattle.parties.proofs.parties.PartiesRun.begin_session.Given.{Over}
use Rattle.parties.proofs.parties.PartiesRun.begin_session.Goals as goal
use Rattle.parties.proofs.parties.PartiesRun.begin_session.Goals.{After-begin_session}

module _ (g : Over) where
  -- what the ends tell
  abbrev mail : Ends g.row.P-ReqTx.Denot g.row.P-RepTx.Denot g.row.P-GosTx.Denot g.row.P-ReqRx.Denot g.row.P-GosRx.Denot g.row.P-RepRx.Denot
      g.row.P-ReqTx-Key.Denot g.row.P-RepTx-Key.Denot g.row.P-GosTx-Key.Denot g.row.P-ReqRx-Key.Denot g.row.P-GosRx-Key.Denot g.row.P-RepRx-Key.Denot
  mail = mail_of g.P.ReqTx.Tx g.P.RepTx.Tx g.P.GosTx.Tx g.P.ReqRx.Rx g.P.GosRx.GossipRx g.P.RepRx.Rx

module _ (g : Over) (c : After-begin_session g) where
  abbrev proxies : List (PlainProxy g.row.P-ReqTx.Denot g.row.P-RepRx.Denot)
  proxies = map proxy_of c.args.self.now.sessions.items

  abbrev proxies_now : List (PlainProxy g.row.P-ReqTx.Denot g.row.P-RepRx.Denot)
  proxies_now = map proxy_of c.begin_session.new.sessions.items

  within : c.args.place < length proxies
  within = omega (arith, c.requires, length-map proxies (session_lists (mail g)))

pub returns-clause-others : goal.returns-clause-others
returns-clause-others g c =
    let after = (goal.at.returns-clause-others g c).After-begin_session in
    where_ok c.begin_session.result (λ may other apart.
    same_told (session_lists (mail g)) (proxies g after) (proxies_now g after) other
    (others_stay (mail g) c.args.self.now.workers.items (proxies g after) (proxies_now g after) c.args.place (within g after) may other apart))
    c.begin_session.ensures.begins

pub returns-clause-steps : goal.returns-clause-steps
returns-clause-steps g c =
    let after = (goal.at.returns-clause-steps g c).After-begin_session in
    where_ok c.begin_session.result (may_step_on (mail g) c.args.self.now.workers.items (proxies g after) (proxies_now g after) c.args.place (within g after)) c.begin_session.ensures.begins

pub returns-clause-begun : goal.returns-clause-begun
returns-clause-begun g c begun =
    let after = (goal.at.returns-clause-begun g c).After-begin_session in
    where_ok c.begin_session.result (λ may.
    ap (map (session_lists (mail g)))
    (begun_stays (mail g) c.args.self.now.workers.items (proxies g after) (proxies_now g after) c.args.place (within g after) may
    (λ was there. begun (session_lists (mail g) was) (mapped (session_lists (mail g)) (proxies g after) c.args.place was there))))
    c.begin_session.ensures.begins

pub returns-clause-waits : goal.returns-clause-waits
returns-clause-waits g c =
    let after = (goal.at.returns-clause-waits g c).After-begin_session in
    where_ok c.begin_session.result (λ waits its session there is other here ended.
    let proxy = of_mapped (session_lists (mail g)) (proxies_now g after) c.args.place its there in
    let that = of_mapped (session_lists (mail g)) (proxies_now g after) (session - 1) other here in
    waits proxy.0 session proxy.1 (ap (λ (its : Lists). its.course.origin) proxy.2 ∙ is) that.0 that.1
    (subst (λ (its : Lists). IsTrue (has_begun its.course) × (length its.course.answers ≡ length its.course.lines)) (sym that.2) ended))
    c.begin_session.ensures.waits

pub returns-clause-await_theirs : goal.returns-clause-await_theirs
returns-clause-await_theirs g c all =
    let after = (goal.at.returns-clause-await_theirs g c).After-begin_session in
    where_ok c.begin_session.result
    (λ may. await_still (mail g) c.args.self.now.workers.items (proxies g after) (proxies_now g after) c.args.place (within g after) may all) c.begin_session.ensures.begins
