-- What stays where parties are held beside each other, and apart again.
use Rattle.std.specs.Prelude.{◌≡◌, List, map}
use Rattle.session_proxy.specs.State.{PlainProxy}
use Rattle.worker_core.specs.State.{PlainWorker}
use Rattle.party_turns.specs.Running.{GoesOn}
use Rattle.party_turns.specs.Ends.{Ends, session_lists, worker_lists}

-- Nothing that the parties of a run sent, took or answered changes, and the run goes on.
pub record AllStay {S T O Q G R SK TK OK QK GK RK : Type 0}
    (mail : Ends S T O Q G R SK TK OK QK GK RK)
    (workers workers_now : List (PlainWorker Q T O G)) (sessions sessions_now : List (PlainProxy S R)) : Type 0 where
  pub workers_told : map (worker_lists mail) workers_now ≡ map (worker_lists mail) workers
  pub sessions_told : map (session_lists mail) sessions_now ≡ map (session_lists mail) sessions
  pub goes_on : GoesOn mail workers workers_now sessions sessions_now
