-- The replies that a session heard, worker by worker: each answers a get there in its place, and on one key their clocks never go down.
use Rattle.std.specs.Prelude.{◌≡◌, ℕ, ◌+◌, ◌-◌, List, [], ◌++◌, All, AllPairs, Contains, length, slice_index_or, ⊤}
use Rattle.std.specs.List.{AllZip}
use Rattle.std.proofs.Common.{◌∙◌, refl, ap, subst, length-append, arith}
use Rattle.std.proofs.lemmas.List.{get_or-append_right, get_or_append_left, get_or_default}
use Rattle.mail_contract.specs.Takes.{from_sender}
use Rattle.placement.specs.Config.{IsOneOf}
use Rattle.session_known.specs.declared.report.Report.{Report}
use Rattle.session_known.specs.declared.script.Script.{Script}
use Rattle.store_msg.specs.Reply.{PlainReply}
use Rattle.worker_core.specs.Share.{CoversEarlier, IsReplyBy, gets_after}
use Rattle.run_ledger.specs.Came.{Came, CameOfSession}
use Rattle.run_ledger.specs.Ledger.{Ledger, heard_by, worker_at}
use Rattle.run_ledger.proofs.ByWorkerLemmas.{all_by_worker, by_worker, from_worker, in_all}
use Rattle.run_ledger.proofs.GetsLemmas.{zip_over}
use Rattle.run_ledger.proofs.MessagesLemmas.{each_from}
use Rattle.legal_runs.proofs.SessionsLemmas.{IsSession, answers_at, client_at, lines_at, origin_at, of_session}
use Rattle.run_ledger.proofs.WorkersLemmas.{IsWorker, is_worker, me_is, worker_came}

-- and whatever the first is
zip_right : {A B : Type 0} (R : A → B → Type 0) (P : B → Type 0) → ((a : A) (b : B) → R a b → P b) → (xs : List A) (ys : List B) → AllZip R xs ys → All P ys
zip_right R P each xs ys zipped = zip_over R (λ a. ⊤) P (λ a b related any. each a b related) xs ys zipped (λ k d low. tt)

-- what relates each item to each later one relates those of a front to those of its back
pub pairs_across : {X : Type 0} (R : X → X → Type 0) (xs ys : List X) (x y : X) → AllPairs R (xs ++ ys) → Contains xs x → Contains ys y → R x y
pairs_across R xs ys x y all has_x has_y =
    let first : slice_index_or (xs ++ ys) has_x.0 x ≡ x = get_or_append_left xs ys x has_x.0 has_x.1 ∙ has_x.2 in
    let place : length xs + has_y.0 - length xs ≡ has_y.0 = omega arith in
    let second : slice_index_or (xs ++ ys) (length xs + has_y.0) x ≡ y =
    get_or-append_right xs ys (length xs) (length xs + has_y.0) x refl (omega arith) ∙ ap (λ i. slice_index_or ys i x) place ∙ get_or_default ys has_y.0 x y has_y.1 ∙ has_y.2
    in
    subst (λ a. R a y) first (subst (R (slice_index_or (xs ++ ys) has_x.0 x)) second
    (all has_x.0 (length xs + has_y.0) x (omega (arith, has_x.1)) (omega (arith, has_y.1, length-append xs ys))))

module _ (script : Script) (table : List (List ℕ)) (report : Report) (ledger : Ledger) (came : Came script table report ledger) (session : ℕ) (within : IsSession script session) where
  abbrev pub its : CameOfSession table ledger (client_at script session) (origin_at script report session) (lines_at script session) (answers_at report session) (heard_by ledger session)
  its = of_session script table report ledger came.sessions session within

  -- what came of a worker answers the session's gets there, one by one
  replies_of : (worker : ℕ) (is : IsWorker script worker)
      → AllZip (IsReplyBy worker table script.kinds (worker_came script table report ledger came worker is).holds.joined) (gets_after session [] (worker_at ledger worker).received)
      (from_sender worker (heard_by ledger session))
  replies_of worker is =
      let it = worker_came script table report ledger came worker is in
      subst (λ me. AllZip (IsReplyBy me table script.kinds it.holds.joined) (gets_after session [] (worker_at ledger worker).received) (from_sender me (heard_by ledger session)))
      (me_is script table report ledger came worker is) (it.replies session within)

  -- so each reply came of its worker
  heard_is : heard_by ledger session ≡ by_worker (in_all its.replies)
  heard_is =
      all_by_worker (heard_by ledger session)
      (each_from (λ worker (reply : PlainReply). reply.worker ≡ worker) (IsOneOf (length ledger.workers)) (heard_by ledger session) (λ worker inside.
      let is = is_worker script table report ledger came worker inside in
      zip_right (IsReplyBy worker table script.kinds (worker_came script table report ledger came worker is).holds.joined) (λ reply. reply.worker ≡ worker)
      (λ get reply replies. ap (λ (r : PlainReply). r.worker) replies.is) (gets_after session [] (worker_at ledger worker).received) (from_sender worker (heard_by ledger session)) (replies_of worker is)) its.of_workers)
      ∙ ap by_worker its.heard_are

  pub replies_at : (worker : ℕ) (is : IsWorker script worker)
      → AllZip (IsReplyBy worker table script.kinds (worker_came script table report ledger came worker is).holds.joined) (gets_after session [] (worker_at ledger worker).received)
      (from_worker worker (in_all its.replies))
  replies_at worker is =
      subst (λ heard. AllZip (IsReplyBy worker table script.kinds (worker_came script table report ledger came worker is).holds.joined) (gets_after session [] (worker_at ledger worker).received) (from_sender worker heard))
      heard_is (replies_of worker is)

  pub rising_at : (worker : ℕ) → IsWorker script worker → AllPairs CoversEarlier (from_worker worker (in_all its.replies))
  rising_at worker is =
      subst (λ heard. AllPairs CoversEarlier (from_sender worker heard)) heard_is
      (subst (λ me. AllPairs CoversEarlier (from_sender me (heard_by ledger session))) (me_is script table report ledger came worker is)
      ((worker_came script table report ledger came worker is).rising session within))
