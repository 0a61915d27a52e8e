use Rattle.std.proofs.Common.{◌≡◌, ◌∙◌, ◌≤◌, IsTrue, None, Some, ap, arith, false, inl, inr, length, map, slice_get, subst, sym}
use Rattle.std.proofs.lemmas.Bool.{cases_Bool}
use Rattle.std.proofs.lemmas.List.{length-map}
use Rattle.std.proofs.lemmas.Option.{slice_get_within}
use Rattle.session_proxy.specs.State as sessions
use Rattle.party_turns.proofs.ItemsLemmas.{at_its_place, mapped, of_mapped, there_is}
use Rattle.party_turns.specs.Ends.{Ends, mail_of, session_lists, worker_lists}
use Rattle.parties.specs.Progress.{HasMovedOn}
use Rattle.parties.specs.Session.{proxy_of}
use Rattle.parties.proofs.OneChangedLemmas.{for_each, on_ok}
use Rattle.parties.proofs.PlacedLemmas.{are_of_workers, may_be_polled}
use Rattle.parties.proofs.SameToldLemmas.{same_told}
use Rattle.parties.proofs.WaitedBesideLemmas.{not_waited}
use Rattle.parties.proofs.parties.PartiesRun.poll_session.Given.{Over}
use Rattle.parties.proofs.parties.PartiesRun.poll_session.Goals as goal
use Rattle.parties.specs.Polling.{HasWaited}

module _ (g : Over) where
  -- what the ends tell
  abbrev mail : Ends g.row.P-ReqTx.Denot g.row.P-RepTx.Denot g.row.P-GosTx.Denot g.row.P-ReqRx.Denot g.row.P-GosRx.Denot g.row.P-RepRx.Denot
      g.row.P-ReqTx-Key.Denot g.row.P-RepTx-Key.Denot g.row.P-GosTx-Key.Denot g.row.P-ReqRx-Key.Denot g.row.P-GosRx-Key.Denot g.row.P-RepRx-Key.Denot
  mail = mail_of g.P.ReqTx.Tx g.P.RepTx.Tx g.P.GosTx.Tx g.P.ReqRx.Rx g.P.GosRx.GossipRx g.P.RepRx.Rx

pub poll_session-requires-clause-begun : goal.poll_session-requires-clause-begun
poll_session-requires-clause-begun g c proxy there =
    c.requires.begun (session_lists (mail g) proxy) (mapped (session_lists (mail g)) (map proxy_of c.args.self.now.sessions.items) c.args.place proxy there)

pub returns-clause-others : goal.returns-clause-others
returns-clause-others g c other differs =
    same_told (session_lists (mail g)) (map proxy_of c.args.self.now.sessions.items) (map proxy_of c.poll_session.new.parties.sessions.items) other
    (c.poll_session.ensures.others other differs)

pub returns-clause-beside : goal.returns-clause-beside
returns-clause-beside g c place other differs beside worker proxy there here =
    beside worker proxy (ap (λ all. slice_get all.items place) (sym c.poll_session.ensures.workers) ∙ there) (sym (c.poll_session.ensures.others other differs) ∙ here)

pub returns-clause-ended : goal.returns-clause-ended
returns-clause-ended g c =
    on_ok c.poll_session.result (λ came answered ended its here.
    let proxy = of_mapped (session_lists (mail g)) (map proxy_of c.poll_session.new.parties.sessions.items) c.args.place its here in
    subst (λ (lists : sessions.Lists). IsTrue (sessions.has_begun lists.course) × (length lists.course.answers ≡ length lists.course.lines)) proxy.2 (answered ended proxy.0 proxy.1)) c.poll_session.ensures.ended

pub returns-clause-moved : goal.returns-clause-moved
returns-clause-moved g c running =
    let lists = session_lists (mail g) in
    let those = c.args.self.now.workers.items in
    let proxies = map proxy_of c.args.self.now.sessions.items in
    let proxies_now = map proxy_of c.poll_session.new.parties.sessions.items in
    on_ok c.poll_session.result (λ came each was now there here. each (was, now, there, here))
    (for_each {A = (was : sessions.Lists) × (now : sessions.Lists) × (slice_get (map lists proxies) c.args.place ≡ Some was) × (slice_get (map lists proxies_now) c.args.place ≡ Some now)}
    (λ those came. HasMovedOn came those.0 those.1) c.poll_session.result (λ those_four.
    let was = of_mapped lists proxies c.args.place those_four.0 those_four.2 in
    let is = of_mapped lists proxies_now c.args.place those_four.1 those_four.3 in
    let may = may_be_polled running.0 those proxies running.1 c.args.place was.0 was.1 in
    on_ok c.poll_session.result (λ came moved. subst (λ (both : sessions.Lists × sessions.Lists). HasMovedOn came both.0 both.1) (λ j. (was.2 j, is.2 j)) moved)
    (c.poll_session.ensures.moved was.0 is.0 was.1 is.1 may.0 may.1)))

-- a session that is polled beside workers which have served it has moved or ended
pub returns-clause-served : goal.returns-clause-served
returns-clause-served g c running none most free beside served =
    let those = c.args.self.now.workers.items in
    let proxies = map proxy_of c.args.self.now.sessions.items in
    let many = length-map c.args.self.now.sessions.items proxy_of in
    let told = length-map proxies (session_lists (mail g)) in
    let proxy = there_is proxies c.args.place (omega (arith, c.requires.within, many, told)) in
    let its_lists = mapped (session_lists (mail g)) proxies c.args.place proxy.0 proxy.1 in
    let low = slice_get_within proxies c.args.place proxy.0 proxy.1 in
    let its = served (session_lists (mail g) proxy.0) its_lists in
    on_ok {P = λ came. came.moved ≡ false → came.ended ≡ false → 1 ≤ c.args.most → HasWaited g.P.ReqTx.Tx g.P.RepRx.Rx proxy.0}
    c.poll_session.result (λ came waited not_ended. elim (cases_Bool came.moved) [
      | inl moved ↦ moved
      | inr still ↦
          absurd (not_waited free c.args.place those proxy.0
          (λ place worker there. beside place worker proxy.0 there proxy.1)
          (λ place worker there.
          let of_script = running.1.workers_are place worker there in (
            of_script.me,
            (omega arith, omega (arith, of_script.sessions, running.1.as_many_sessions, low)),
            at_its_place (λ worker. worker.state.kept ≡ None) those place worker none there,
            its.1 place (worker_lists (mail g) worker) (mapped (worker_lists (mail g)) those place worker there),
          ))
          (are_of_workers running.0 those proxies running.1 c.args.place (session_lists (mail g) proxy.0) its_lists)
          (may_be_polled running.0 those proxies running.1 c.args.place proxy.0 proxy.1).0 its.0 (waited still not_ended most))
    ]) (c.poll_session.ensures.waited proxy.0 proxy.1)
