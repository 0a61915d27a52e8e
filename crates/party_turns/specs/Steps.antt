-- How far steps bring all parties of a run, by what they took, sent and answered.
use Rattle.std.specs.Prelude.{◌≡◌, List, All, map, None}
use Rattle.session_known.specs.declared.script.Script.{Script}
use Rattle.session_proxy.specs.State as sessions
use Rattle.worker_core.specs.State as workers
use Rattle.run_measure.specs.Steps.{HaveAllGoneOn, HaveAllShown}
use Rattle.party_turns.specs.Ends.{Ends, session_lists, worker_lists}
use Rattle.party_turns.specs.Running.{AreRunning, GoesOn}

-- no worker keeps a message that met want of memory
abbrev pub NoneKept : {Q T O G : Type 0} → List (workers.PlainWorker Q T O G) → Type 0
NoneKept those = All (λ worker. worker.state.kept ≡ None) those

-- The parties of a run took steps, in whatever order: the run goes on, and where no worker kept a message none does, all have gone on, and each worker
-- shows no less.
pub record StepsOn {S T O Q G R SK TK OK QK GK RK : Type 0}
    (mail : Ends S T O Q G R SK TK OK QK GK RK)
    (those those_now : List (workers.PlainWorker Q T O G)) (proxies proxies_now : List (sessions.PlainProxy S R)) : Type 0 where
  pub goes_on : GoesOn mail those those_now proxies proxies_now
  pub gone_on : (script : Script) → AreRunning mail script those proxies
      → NoneKept those → NoneKept those_now × HaveAllGoneOn
      (map (worker_lists mail) those) (map (worker_lists mail) those_now)
      (map (session_lists mail) proxies) (map (session_lists mail) proxies_now)
      × HaveAllShown (map (worker_lists mail) those) (map (worker_lists mail) those_now)
