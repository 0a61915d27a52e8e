-- The workers of a ledger by their numbers.
use Rattle.std.specs.Prelude.{◌≡◌, ℕ, zero, suc, ◌+◌, ◌≤◌, List, All, length, slice_index_or}
use Rattle.std.proofs.Common.{◌∙◌, sym, ap, arith}
use Rattle.std.proofs.lemmas.List.{get_or-map, length-map}
use Rattle.std.proofs.lemmas.List.FromFn.{get_or-range_with_len, length-range_with_len}
use Rattle.placement.specs.Config.{IsOneOf}
use Rattle.session_known.specs.declared.report.Report.{Report}
use Rattle.session_known.specs.declared.script.Script.{Script}
use Rattle.run_ledger.specs.Came.{Came, CameToWorker}
use Rattle.run_ledger.specs.Ledger.{Ledger, WorkerEnd, no_worker, worker_at}

-- one of the script's workers
abbrev pub IsWorker : Script → ℕ → Type 0
IsWorker script worker = IsOneOf script.config.workers worker

module _ (script : Script) (table : List (List ℕ)) (report : Report) (ledger : Ledger) (came : Came script table report ledger) where
  -- there are as many workers as the script says
  pub workers_long : length ledger.workers ≡ script.config.workers
  workers_long = sym (length-map ledger.workers (λ worker. worker.me)) ∙ ap length came.numbered ∙ length-range_with_len 1 script.config.workers

  -- one of the ledger's workers is one of the script's
  pub is_worker : (worker : ℕ) → IsOneOf (length ledger.workers) worker → IsWorker script worker
  is_worker worker within = (within.0, omega (arith, within.1, workers_long))

  pub in_ledger : (worker : ℕ) → IsWorker script worker → IsOneOf (length ledger.workers) worker
  in_ledger worker within = (within.0, omega (arith, within.1, workers_long))

  -- what holds of each worker holds of the one of a number
  pub of_each : (P : WorkerEnd → Type 0) → All P ledger.workers → (worker : ℕ) → IsWorker script worker → P (worker_at ledger worker)
  of_each P all zero within = absurd (omega (arith, within.0))
  of_each P all (suc place) within = all place no_worker (omega (arith, within.1, workers_long))

  -- what came to it
  pub worker_came : (worker : ℕ) → IsWorker script worker → CameToWorker script table ledger (worker_at ledger worker)
  worker_came = of_each (CameToWorker script table ledger) came.workers

  -- and its number
  pub me_is : (worker : ℕ) → IsWorker script worker → (worker_at ledger worker).me ≡ worker
  me_is zero within = absurd (omega (arith, within.0))
  me_is (suc place) within =
      let low : place + 1 ≤ script.config.workers = omega (arith, within.1) in
      let next : 1 + place ≡ suc place = omega arith in
      sym (get_or-map (λ (end : WorkerEnd). end.me) ledger.workers place no_worker 0 (omega (arith, low, workers_long)))
      ∙ ap (λ numbers. slice_index_or numbers place 0) came.numbered ∙ get_or-range_with_len 1 script.config.workers place 0 (omega (arith, low)) ∙ next
