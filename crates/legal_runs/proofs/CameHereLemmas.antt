-- What came to each worker of a ledger of the sessions.
use Rattle.std.specs.Prelude.{◌≡◌, ℕ, List, length, map}
use Rattle.std.proofs.Common.{◌∙◌, ap}
use Rattle.std.proofs.lemmas.List.{length-map}
use Rattle.mail_contract.specs.Takes.{from_sender}
use Rattle.session_known.specs.Requests.{requests_of}
use Rattle.session_known.specs.declared.report.Report.{Report}
use Rattle.session_known.specs.declared.script.Script.{Script}
use Rattle.session_proxy.specs.Share.{to_worker}
use Rattle.run_ledger.specs.Came.{Came}
use Rattle.run_ledger.specs.Ledger.{Ledger, worker_at}
use Rattle.run_ledger.proofs.WorkersLemmas.{IsWorker, me_is, of_each, worker_came}
use Rattle.legal_runs.proofs.AnsweredLemmas.{as_many}
use Rattle.legal_runs.proofs.FrontsLemmas.{CameHere}
use Rattle.legal_runs.proofs.SessionsLemmas.{IsSession, answers_at, client_at, lines_at, of_session, origin_at, start_at}

module _ (script : Script) (table : List (List ℕ)) (report : Report) (ledger : Ledger) (came : Came script table report ledger) where
  -- what came to a worker of a session is what its lines send there
  pub came_to : (worker : ℕ) → IsWorker script worker → (session : ℕ) (is : IsSession script session)
      → from_sender session (worker_at ledger worker).received
      ≡ to_worker worker (requests_of table (client_at script session) (origin_at script report session) (map length (of_session script table report ledger came.sessions session is).replies) (lines_at script session) (answers_at report session))
  came_to worker within session is =
      let its = of_session script table report ledger came.sessions session is in
      of_each script table report ledger came (λ end. from_sender session end.received ≡ to_worker end.me (requests_of table (client_at script session) (origin_at script report session) (map length its.replies) (lines_at script session) (answers_at report session)))
      its.requests worker within
      ∙ ap (λ me. to_worker me (requests_of table (client_at script session) (origin_at script report session) (map length its.replies) (lines_at script session) (answers_at report session))) (me_is script table report ledger came worker within)

  -- and so of all sessions
  pub came_here : (worker : ℕ) → IsWorker script worker → CameHere script table report worker (worker_at ledger worker).received
  came_here worker within = record {
    of_sessions = (worker_came script table report ledger came worker within).of_sessions;
    said = λ session is. map length (of_session script table report ledger came.sessions session is).replies;
    as_many = λ session is.
        let its = of_session script table report ledger came.sessions session is in
        length-map its.replies length ∙ as_many (client_at script session) table (start_at script report session) 1 (lines_at script session) (answers_at report session) its.replies its.answered;
    came = came_to worker within;
  }
