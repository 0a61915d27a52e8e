-- The parties of a run take steps, one after another or all at once.
use Rattle.std.specs.Prelude.{◌≡◌, List, length, map}
use Rattle.std.proofs.Common.{◌∙◌, refl, sym}
use Rattle.std.proofs.lemmas.List.{length-map}
use Rattle.session_known.specs.declared.script.Script.{Script}
use Rattle.session_proxy.specs.State as sessions
use Rattle.worker_core.specs.State as workers
use Rattle.party_turns.specs.Running.{AreRunning}
use Rattle.party_turns.proofs.GoesOnLemmas.{goes_on_through}
use Rattle.run_measure.specs.Steps.{HaveAllGoneOn}
use Rattle.party_turns.specs.Steps.{NoneKept, StepsOn}
use Rattle.party_turns.proofs.TogetherLemmas.{all_still, all_through, shown_still, shown_through}
use Rattle.party_turns.specs.Ends.{Ends, session_lists, worker_lists}

module _ {S T O Q G R SK TK OK QK GK RK : Type 0}
    {mail : Ends S T O Q G R SK TK OK QK GK RK} where
  -- they take none,
  pub steps_still : (those : List (workers.PlainWorker Q T O G)) (proxies : List (sessions.PlainProxy S R)) → StepsOn mail those those proxies proxies
  steps_still those proxies = record {
    goes_on = record { workers_long = refl; sessions_long = refl; gossip_keys = refl; ends = λ have. have; running = λ script run. run };
    gone_on = λ script run none. (
      none,
      all_still (map (worker_lists mail) those) (map (session_lists mail) proxies),
      shown_still (map (worker_lists mail) those),
    );
  }

  -- or some and then others;
  pub steps_through : (those those_then those_now : List (workers.PlainWorker Q T O G)) (proxies proxies_then proxies_now : List (sessions.PlainProxy S R))
      → StepsOn mail those those_then proxies proxies_then → StepsOn mail those_then those_now proxies_then proxies_now → StepsOn mail those those_now proxies proxies_now
  steps_through those those_then those_now proxies proxies_then proxies_now first then = record {
    goes_on = goes_on_through those those_then those_now proxies proxies_then proxies_now first.goes_on then.goes_on;
    gone_on = λ script run none.
        let earlier = first.gone_on script run none in
        let later = then.gone_on script (first.goes_on.running script run) earlier.0 in (
          later.0,
          all_through (map (worker_lists mail) those) (map (worker_lists mail) those_then) (map (worker_lists mail) those_now) (map (session_lists mail) proxies) (map (session_lists mail) proxies_then) (map (session_lists mail) proxies_now)
              earlier.1 later.1,
          shown_through (map (worker_lists mail) those) (map (worker_lists mail) those_then)
              (map (worker_lists mail) those_now) later.1.workers_long earlier.2 later.2,
        );
  }

  -- a run of which no worker keeps a message is one after steps, too
  pub steps_ready : (script : Script) (those those_now : List (workers.PlainWorker Q T O G)) (proxies proxies_now : List (sessions.PlainProxy S R))
      → AreRunning mail script those proxies
      → NoneKept those
      → StepsOn mail those those_now proxies proxies_now
      → AreRunning mail script those_now proxies_now
      × NoneKept those_now
  steps_ready script those those_now proxies proxies_now run none steps = (steps.goes_on.running script run, (steps.gone_on script run none).0)

  -- as many parties are there as before,
  pub steps_long : (those those_now : List (workers.PlainWorker Q T O G)) (proxies proxies_now : List (sessions.PlainProxy S R)) → StepsOn mail those those_now proxies proxies_now
      → (length (map (worker_lists mail) those_now) ≡ length (map (worker_lists mail) those))
      × (length (map (session_lists mail) proxies_now) ≡ length (map (session_lists mail) proxies))
  steps_long those those_now proxies proxies_now steps = (
    length-map those_now (worker_lists mail) ∙ steps.goes_on.workers_long ∙ sym (length-map those (worker_lists mail)),
    length-map proxies_now (session_lists mail) ∙ steps.goes_on.sessions_long ∙ sym (length-map proxies (session_lists mail)),
  )

  -- and a run of some script is still one, and all parties have gone on
  pub steps_go_on : (those those_now : List (workers.PlainWorker Q T O G)) (proxies proxies_now : List (sessions.PlainProxy S R)) → StepsOn mail those those_now proxies proxies_now
      → ((script : Script) × AreRunning mail script those proxies) → NoneKept those
      → ((script : Script) × AreRunning mail script those_now proxies_now) × NoneKept those_now
      × HaveAllGoneOn (map (worker_lists mail) those) (map (worker_lists mail) those_now) (map (session_lists mail) proxies) (map (session_lists mail) proxies_now)
  steps_go_on those those_now proxies proxies_now steps running none =
      let on = steps.gone_on running.0 running.1 none in
      ((running.0, steps.goes_on.running running.0 running.1), on.0, on.1)
