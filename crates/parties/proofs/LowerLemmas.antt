-- What is left to do falls by what is done.
use Rattle.std.specs.Prelude.{◌+◌, ◌≤◌, List, map, sum_by}
use Rattle.std.proofs.Common.{◌∙◌, subst, sym}
use Rattle.std.proofs.lemmas.List.{length-map}
use Rattle.session_known.specs.declared.script.Script.{Script}
use Rattle.session_proxy.specs.State as sessions
use Rattle.worker_core.specs.State as workers
use Rattle.run_measure.specs.Laws.{AreOfWorkers}
use Rattle.run_measure.specs.Measure.{AreAllCounted, measure_of_all}
use Rattle.run_measure.specs.Steps.{done}
use Rattle.run_measure.proofs.TogetherLemmas.{together_lower}
use Rattle.party_turns.specs.Ends.{Ends, session_lists, worker_lists}
use Rattle.party_turns.specs.Running.{AreRunning}
use Rattle.party_turns.specs.Steps.{NoneKept, StepsOn}
use Rattle.parties.proofs.PlacedLemmas.{are_of_workers}

module _ {S T O Q G R SK TK OK QK GK RK : Type 0} {mail : Ends S T O Q G R SK TK OK QK GK RK} where
  -- What is left to do falls by what was done, where no more was taken than was sent before and after.
  pub steps_lower : (script : Script) (those those_now : List (workers.PlainWorker Q T O G)) (proxies proxies_now : List (sessions.PlainProxy S R)) → AreRunning mail script those proxies
      → NoneKept those → StepsOn mail those those_now proxies proxies_now → AreAllCounted (map (worker_lists mail) those) (map (session_lists mail) proxies)
      → AreAllCounted (map (worker_lists mail) those_now) (map (session_lists mail) proxies_now)
      → measure_of_all (map (worker_lists mail) those_now) 1 (map (session_lists mail) proxies_now) + sum_by done (map (session_lists mail) proxies_now)
      ≤ measure_of_all (map (worker_lists mail) those) 1 (map (session_lists mail) proxies) + sum_by done (map (session_lists mail) proxies)
  steps_lower script those those_now proxies proxies_now run none steps counted counted_now =
      let of_worker = worker_lists mail in
      let of_session = session_lists mail in
      let gone_on = (steps.gone_on script run none).1 in
      together_lower (map of_worker those) (map of_worker those_now) (map of_session proxies) (map of_session proxies_now) gone_on
      (subst (λ many. AreOfWorkers many (map of_session proxies)) (sym (length-map those of_worker)) (are_of_workers script those proxies run))
      (subst (λ many. AreOfWorkers many (map of_session proxies_now)) (steps.goes_on.workers_long ∙ sym (length-map those of_worker))
      (are_of_workers script those_now proxies_now (steps.goes_on.running script run)))
      counted counted_now
