-- A step of a run that changes nothing of what is told of its parties, and keeps their ends: the run goes on.
use Rattle.std.specs.Prelude.{◌≡◌, ℕ, List, length, slice_get, Some}
use Rattle.std.proofs.Common.{◌∙◌, refl, sym}
use Rattle.session_proxy.specs.State.{PlainProxy}
use Rattle.worker_core.specs.State.{PlainWorker}
use Rattle.parties.specs.Staying.{AllStay}
use Rattle.party_turns.proofs.ItemsLemmas.{same_made}
use Rattle.party_turns.proofs.GoesOnLemmas.{goes_on_so, goes_on_through}
use Rattle.parties.proofs.KeptLemmas.{KeepsSessionEnds, KeepsWorkerEnds, ends_kept, session_keeps, worker_keeps}
use Rattle.party_turns.specs.Ends.{Ends, session_lists, worker_lists}

-- Of a worker, by its place among so many, the same is told, and it keeps its ends for so many sessions.
pub record WorkerStays {S T O Q G R SK TK OK QK GK RK : Type 0} (mail : Ends S T O Q G R SK TK OK QK GK RK)
    (many many_sessions place : ℕ) (was is : PlainWorker Q T O G) : Type 0 where
  pub lists : worker_lists mail is ≡ worker_lists mail was
  pub ends : KeepsWorkerEnds mail
      many many_sessions place was is

-- Of a session the same is told, and it keeps its ends.
pub record SessionStays {S T O Q G R SK TK OK QK GK RK : Type 0} (mail : Ends S T O Q G R SK TK OK QK GK RK) (was is : PlainProxy S R) : Type 0 where
  pub lists : session_lists mail is ≡ session_lists mail was
  pub ends : KeepsSessionEnds mail was is

-- a worker that is as it was stays
pub worker_stays : {S T O Q G R SK TK OK QK GK RK : Type 0} {mail : Ends S T O Q G R SK TK OK QK GK RK}
    (many many_sessions place : ℕ) (worker : PlainWorker Q T O G)
    → WorkerStays mail
    many many_sessions place worker worker
worker_stays many many_sessions place worker = record { lists = refl; ends = worker_keeps many many_sessions place worker }

-- and so does a session
pub session_stays : {S T O Q G R SK TK OK QK GK RK : Type 0} {mail : Ends S T O Q G R SK TK OK QK GK RK} (proxy : PlainProxy S R)
    → SessionStays mail proxy proxy
session_stays proxy = record { lists = refl; ends = session_keeps proxy }

module _ {S T O Q G R SK TK OK QK GK RK : Type 0} {mail : Ends S T O Q G R SK TK OK QK GK RK} where
  -- so it is where each worker and each session stays
  pub all_stay : (workers workers_now : List (PlainWorker Q T O G)) (sessions sessions_now : List (PlainProxy S R))
      → length workers_now ≡ length workers → length sessions_now ≡ length sessions
      → ((place : ℕ) (was is : PlainWorker Q T O G) → slice_get workers place ≡ Some was → slice_get workers_now place ≡ Some is
      → WorkerStays mail
      (length workers) (length sessions) place was is)
      → ((place : ℕ) (was is : PlainProxy S R) → slice_get sessions place ≡ Some was → slice_get sessions_now place ≡ Some is
      → SessionStays mail was is)
      → AllStay mail workers workers_now sessions sessions_now
  all_stay workers workers_now sessions sessions_now long long_sessions each each_session =
      let its_workers = worker_lists mail in
      let its_sessions = session_lists mail in
      let key_of = λ (worker : PlainWorker Q T O G). mail.gossip_rx.key worker.ends.gossip_in in
      let same_workers = same_made its_workers its_workers workers_now workers (sym long) (λ place is was also there. (each place was is there also).lists) in
      let same_sessions = same_made its_sessions its_sessions sessions_now sessions (sym long_sessions) (λ place is was also there. (each_session place was is there also).lists) in
      record {
        workers_told = same_workers;
        sessions_told = same_sessions;
        goes_on =
            goes_on_so workers workers_now sessions sessions_now same_workers same_sessions
            (same_made key_of key_of workers_now workers (sym long) (λ place is was also there. (each place was is there also).ends.keys.gossip_in_key))
            (ends_kept workers workers_now sessions sessions_now long long_sessions (λ place was is there also. (each place was is there also).ends)
            (λ place was is there also. (each_session place was is there also).ends));
      }

  -- where nothing changed,
  pub stay_still : (workers : List (PlainWorker Q T O G)) (sessions : List (PlainProxy S R))
      → AllStay mail workers workers sessions sessions
  stay_still workers sessions = record {
    workers_told = refl;
    sessions_told = refl;
    goes_on = goes_on_so workers workers sessions sessions refl refl refl (λ ends. ends);
  }

  -- and where two such steps were made
  pub stay_through : (workers workers_then workers_now : List (PlainWorker Q T O G)) (sessions sessions_then sessions_now : List (PlainProxy S R))
      → AllStay mail workers workers_then sessions sessions_then
      → AllStay mail workers_then workers_now sessions_then sessions_now
      → AllStay mail workers workers_now sessions sessions_now
  stay_through workers workers_then workers_now sessions sessions_then sessions_now first second = record {
    workers_told = second.workers_told ∙ first.workers_told;
    sessions_told = second.sessions_told ∙ first.sessions_told;
    goes_on = goes_on_through workers workers_then workers_now sessions sessions_then sessions_now first.goes_on second.goes_on;
  }
