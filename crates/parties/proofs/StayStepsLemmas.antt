-- Parties that are held beside each other, or are apart again, take no steps.
use Rattle.std.specs.Prelude.{◌≡◌, List, map, None}
use Rattle.std.proofs.Common.{◌∙◌, ap, subst, sym}
use Rattle.session_proxy.specs.State as sessions
use Rattle.worker_core.specs.State as workers
use Rattle.party_turns.proofs.ItemsLemmas.{all_there, also_there, at_its_place}
use Rattle.parties.specs.Staying.{AllStay}
use Rattle.party_turns.specs.Steps.{StepsOn}
use Rattle.party_turns.proofs.TogetherLemmas.{all_still, shown_still}
use Rattle.run_measure.specs.Steps.{HaveAllGoneOn, HaveAllShown}
use Rattle.party_turns.specs.Ends.{Ends, session_lists, worker_lists}

module _ {S T O Q G R SK TK OK QK GK RK : Type 0}
    {mail : Ends S T O Q G R SK TK OK QK GK RK} where
  pub stay_steps : (those those_now : List (workers.PlainWorker Q T O G)) (proxies proxies_now : List (sessions.PlainProxy S R))
      → AllStay mail those those_now proxies proxies_now
      → StepsOn mail those those_now proxies proxies_now
  stay_steps those those_now proxies proxies_now stay = record {
    goes_on = stay.goes_on;
    gone_on = λ script run none. (
      all_there (λ worker. worker.state.kept ≡ None) those_now (λ place worker there.
          let was = also_there of_worker those those_now stay.workers_told place worker there in
          kept_still was.0 worker was.2 (at_its_place (λ (worker : workers.PlainWorker Q T O G). worker.state.kept ≡ None) those place was.0 none was.1)),
      subst (λ all. HaveAllGoneOn (map of_worker those) all (map of_session proxies) (map of_session proxies_now)) (sym stay.workers_told)
          (subst (λ all. HaveAllGoneOn (map of_worker those) (map of_worker those) (map of_session proxies) all) (sym stay.sessions_told)
          (all_still (map of_worker those) (map of_session proxies))),
      subst (HaveAllShown (map of_worker those)) (sym stay.workers_told) (shown_still (map of_worker those)),
    );
  }
    where
      of_worker : workers.PlainWorker Q T O G → workers.Lists
      of_worker = worker_lists mail

      of_session : sessions.PlainProxy S R → sessions.Lists
      of_session = session_lists mail

      kept_still : (was is : workers.PlainWorker Q T O G) → of_worker was ≡ of_worker is → was.state.kept ≡ None → is.state.kept ≡ None
      kept_still was is told_same kept = ap (λ lists. lists.state.kept) (sym told_same) ∙ kept
