-- The workers and sessions of a drained run by their numbers, and what is in hand of each.
use Rattle.std.specs.Prelude.{◌≡◌, ℕ, zero, suc, ◌+◌, ◌-◌, ◌<◌, ◌≤◌, List, [], ◌∷◌, All, length, map, slice_index_or}
use Rattle.std.proofs.Common.{◌∙◌, refl, sym, ap, subst, arith}
use Rattle.std.proofs.lemmas.List.{get_or-map, get_or_default, length-map}
use Rattle.std.proofs.lemmas.List.Elements.{All-map}
use Rattle.std.proofs.lemmas.List.FromFn.{get_or-range_with_len, length-range_with_len}
use Rattle.placement.specs.Config.{IsOneOf}
use Rattle.session_known.specs.Session.{Knowledge}
use Rattle.session_known.specs.Accepted.{client_of, ends_of, origin_of}
use Rattle.session_known.specs.declared.report.Report.{Report}
use Rattle.session_known.specs.declared.script.Script.{Script}
use Rattle.session_known.specs.declared.script.SessionPlan.{SessionPlan}
use Rattle.session_proxy.specs.State as sessions
use Rattle.run_ledger.specs.Ledger.{WorkerEnd, heard_by, worker_at}
use Rattle.run_ledger.proofs.EndedLemmas.{as_many_sessions}
use Rattle.run_ledger.specs.Parties.{AreDrained, HasEnded, HaveEnded, IsSealed, Parties, SealedWorker, end_of, ledger_of, no_sealed, no_session, sealed_at, session_at}
use Rattle.legal_runs.proofs.SessionsLemmas.{IsSession, client_at, no_plan, origin_at, plan_at}
use Rattle.run_ledger.proofs.ByNumberLemmas.{from_first}
use Rattle.run_ledger.proofs.WorkersLemmas.{IsWorker}

-- an item of a list that a function was applied to, inside it and past its end
pub at_mapped : {X Y : Type 0} (f : X → Y) (none : X) (xs : List X) (place : ℕ) → slice_index_or (map f xs) place (f none) ≡ f (slice_index_or xs place none)
at_mapped f none [] place = refl
at_mapped f none (x ∷ xs) zero = refl
at_mapped f none (x ∷ xs) (suc place) = at_mapped f none xs place

-- what is in hand of the worker of a number, and what the session of a number heard
pub end_at : (parties : Parties) (worker : ℕ) → worker_at (ledger_of parties) worker ≡ end_of (sealed_at parties worker)
end_at parties worker = at_mapped end_of no_sealed (no_sealed ∷ parties.workers) worker

pub heard_at : (parties : Parties) (session : ℕ) → heard_by (ledger_of parties) session ≡ (session_at parties session).received
heard_at parties session = at_mapped (λ (those : sessions.Lists). those.received) no_session (no_session ∷ parties.sessions) session

module _ (table : List (List ℕ)) (workers : ℕ) (ends : List Knowledge) where
  -- the session at a place, of those from a number on, has ended
  ended_at : (number : ℕ) (plans : List SessionPlan) (those : List sessions.Lists) → HaveEnded table workers ends number plans those → (place : ℕ) → place < length plans
      → HasEnded table workers (client_of (number + place) (slice_index_or plans place no_plan)) (origin_of ends (slice_index_or plans place no_plan).after) (slice_index_or plans place no_plan) (slice_index_or those place no_session)
  ended_at number (plan ∷ plans) (session ∷ others) have zero within =
      let first : number ≡ number + 0 = omega arith in
      subst (λ n. HasEnded table workers (client_of n plan) (origin_of ends plan.after) plan session) first have.0
  ended_at number (plan ∷ plans) (session ∷ others) have (suc place) within =
      let its : SessionPlan = slice_index_or plans place no_plan in
      let later : number + 1 + place ≡ number + suc place = omega arith in
      subst (λ n. HasEnded table workers (client_of n its) (origin_of ends its.after) its (slice_index_or others place no_session)) later
      (ended_at (number + 1) plans others have.1 place (omega (arith, within)))
  ended_at number [] those have place within = absurd (omega (arith, within))
  ended_at number (plan ∷ plans) [] have place within = absurd have

module _ (script : Script) (table : List (List ℕ)) (report : Report) (parties : Parties) (drained : AreDrained script table report parties) where
  -- there are as many workers and sessions as the script says
  workers_long : length parties.workers ≡ script.config.workers
  workers_long = sym (length-map parties.workers (λ worker. worker.lists.state.me)) ∙ ap length drained.numbered ∙ length-range_with_len 1 script.config.workers

  pub in_ledger : (worker : ℕ) → IsWorker script worker → IsOneOf (length (ledger_of parties).workers) worker
  in_ledger worker within = (within.0, omega (arith, within.1, workers_long, length-map parties.workers end_of))

  pub is_worker : (worker : ℕ) → IsOneOf (length (ledger_of parties).workers) worker → IsWorker script worker
  is_worker worker within = (within.0, omega (arith, within.1, workers_long, length-map parties.workers end_of))

  sessions_long : length parties.sessions ≡ length script.sessions
  sessions_long = as_many_sessions table script.config.workers (ends_of script report) 1 script.sessions parties.sessions drained.sessions

  -- what holds of each worker and of each session holds of the one of a number
  pub of_worker : (P : SealedWorker → Type 0) → All P parties.workers → (worker : ℕ) → IsWorker script worker → P (sealed_at parties worker)
  of_worker P all zero within = absurd (omega (arith, within.0))
  of_worker P all (suc place) within = all place no_sealed (omega (arith, within.1, workers_long))

  pub of_session : (P : sessions.Lists → Type 0) → All P parties.sessions → (session : ℕ) → IsSession script session → P (session_at parties session)
  of_session P all zero within = absurd (omega (arith, within.0))
  of_session P all (suc place) within = all place no_session (omega (arith, within.1, sessions_long))

  -- the worker of a number was sealed, and that is its number
  pub sealed : (worker : ℕ) → IsWorker script worker → IsSealed script table (sealed_at parties worker)
  sealed = of_worker (IsSealed script table) drained.workers

  pub me_is : (worker : ℕ) → IsWorker script worker → (sealed_at parties worker).lists.state.me ≡ worker
  me_is zero within = absurd (omega (arith, within.0))
  me_is (suc place) within =
      let low : place + 1 ≤ script.config.workers = omega (arith, within.1) in
      let next : 1 + place ≡ suc place = omega arith in
      sym (get_or-map (λ (its : SealedWorker). its.lists.state.me) parties.workers place no_sealed 0 (omega (arith, low, workers_long)))
      ∙ ap (λ numbers. slice_index_or numbers place 0) drained.numbered ∙ get_or-range_with_len 1 script.config.workers place 0 (omega (arith, low)) ∙ next

  -- the session of a number has ended
  pub ended : (session : ℕ) → IsSession script session → HasEnded table script.config.workers (client_at script session) (origin_at script report session) (plan_at script session) (session_at parties session)
  ended session within =
      let same : 1 + (session - 1) ≡ session = omega (arith, within.0) in
      let its : SessionPlan = plan_at script session in
      subst (HasEnded table script.config.workers (client_at script session) (origin_at script report session) its) (sym (from_first no_session parties.sessions session within.0))
      (subst (λ n. HasEnded table script.config.workers (client_of n its) (origin_at script report session) its (slice_index_or parties.sessions (session - 1) no_session)) same
      (ended_at table script.config.workers (ends_of script report) 1 script.sessions parties.sessions drained.sessions (session - 1) (omega (arith, within.0, within.1))))

  -- what holds of the end of each number holds of each that is in hand
  pub each_end : (P : WorkerEnd → Type 0) → ((worker : ℕ) → IsWorker script worker → P (end_of (sealed_at parties worker))) → All P (ledger_of parties).workers
  each_end P each =
      All-map P end_of parties.workers (λ place none low.
      subst (λ its. P (end_of its)) (get_or_default parties.workers place no_sealed none low) (each (suc place) (omega arith, omega (arith, low, workers_long))))
