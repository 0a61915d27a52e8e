-- A session and its workers that took all of each other: the reply that it would wait for was taken, so it does not wait.
use Rattle.std.specs.Prelude.{◌≡◌, ℕ, ◌+◌, ◌-◌, List, [], ◌∷◌, ◌++◌, Contains, length, slice_index_or, take}
use Rattle.std.specs.List.{AllZip}
use Rattle.std.proofs.Common.{◌∙◌, sym, ap, subst, inl, inr, arith}
use Rattle.std.proofs.lemmas.List.{length-take-le, take_all}
use Rattle.std.proofs.lemmas.List.Elements.{All-contains}
use Rattle.std.proofs.lemmas.Option.{slice_get_cases}
use Rattle.std.proofs.lemmas.Slice.Zip.{AllZip-long}
use Rattle.mail_contract.specs.Takes.{from_sender}
use Rattle.placement.specs.Config.{IsOneOf}
use Rattle.session_known.specs.Requests.{SentAsk}
use Rattle.session_proxy.proofs.SentLemmas.{take_one_more}
use Rattle.session_proxy.specs.Run as proxies
use Rattle.session_proxy.specs.State as sessions
use Rattle.store_msg.specs.Reply.{PlainReply}
use Rattle.store_msg.specs.declared.request.Request.{Request}
use Rattle.store_msg.specs.declared.request.Request.TheVariants as requests
use Rattle.worker_core.specs.Share.{IsReplyTo, gets_after}
use Rattle.worker_core.specs.State as workers
use Rattle.run_ledger.proofs.GetsLemmas.{as_many_gets, gets_in, gets_of_both, made_for}
use Rattle.run_ledger.proofs.HeldLemmas.{answering}
use Rattle.run_ledger.proofs.MessagesLemmas.{of_sender}
use Rattle.run_ledger.proofs.ByNumberLemmas.{by_number}
use Rattle.run_waiting.proofs.AwaitedLemmas.{asked_worker, sent_last}
use Rattle.run_waiting.specs.Laws.{HaveTakenAll, IsWorkerOf, NoSessionWaitsInVain}

module _ (session number : ℕ) (its : sessions.Lists) (worker : workers.Lists) (is : IsWorkerOf session number worker) (took : HaveTakenAll session its number worker)
    (front : List Request) (ask key : ℕ) (required : List (ℕ × ℕ)) (sent_is : slice_index_or its.sent (number - 1) [] ≡ front ++ requests.Get ask key required ∷ []) where
  -- the replies of a worker that the session took
  abbrev heard : List PlainReply
  heard = from_sender number its.received

  -- answer all its gets,
  answered : AllZip (IsReplyTo worker.state is.share.cells.joined) (gets_after session [] worker.received) heard
  answered =
      subst (AllZip (IsReplyTo worker.state is.share.cells.joined) (gets_after session [] worker.received)) (sym took.replies)
      (answering worker is.share session is.session_is (ap workers.kept_request is.none_kept) took.none_held)

  -- as many as there are: those before the last request, and that one,
  as_many : length heard ≡ length (gets_in front) + 1
  as_many =
      AllZip-long (IsReplyTo worker.state is.share.cells.joined) (gets_after session [] worker.received) heard answered ∙ as_many_gets session [] worker.received
      ∙ ap (λ those. length (gets_in those)) (took.requests ∙ sent_is) ∙ gets_of_both front (requests.Get ask key required ∷ [])

  -- so the last is the reply to the last request
  heard_last : (reply : PlainReply) × Contains heard reply × proxies.IsReplyTo (number, SentAsk ask key required) reply
  heard_last = elim (slice_get_cases heard (length (gets_in front))).1 [
    | inl (reply, low, there, read) ↦
        let early : List PlainReply = take (length (gets_in front)) heard in
        let split : heard ≡ early ++ reply ∷ [] =
        sym (take_all (length (gets_in front) + 1) heard (omega (arith, as_many))) ∙ take_one_more heard (length (gets_in front)) reply there
        in
        let made =
        made_for (IsReplyTo worker.state is.share.cells.joined) session worker.received front [] ask key required early [] reply
        (subst (AllZip (IsReplyTo worker.state is.share.cells.joined) (gets_after session [] worker.received)) split answered)
        (took.requests ∙ sent_is) (sym (length-take-le (length (gets_in front)) heard (omega (arith, low))))
        in
        let same = made.replies.is in (
          reply,
          (length (gets_in front), low, read),
          (
            ap (λ (its : PlainReply). its.ask) same,
            ap (λ (its : PlainReply). its.worker) same ∙ is.me,
            ap (λ (its : PlainReply). its.key) same,
            ap (λ (its : PlainReply). its.required) same,
          ),
        )
    | inr (past, none) ↦ absurd (omega (arith, past, as_many))
  ]

-- so the session, which sent the ask that it waits for last, took the reply to it
pub waits_not : NoSessionWaitsInVain
waits_not all session its of_workers placed awaits each waits =
    let missing = awaits waits in
    let number = missing.worker in
    let asked = asked_worker its of_workers.share placed number missing.ask missing.key missing.required missing.asked in
    let beside =
    by_number (λ n worker. IsWorkerOf session n worker × HaveTakenAll session its n worker) all each number (subst (λ many. IsOneOf many number) of_workers.senders asked)
    in
    let last = sent_last its of_workers.share placed number missing.ask missing.key missing.required missing.asked in
    let heard = heard_last session number its beside.0 beside.1.0 beside.1.1 last.0 missing.ask missing.key missing.required last.1 in
    let NotTo = λ (reply : PlainReply). proxies.IsReplyTo (number, SentAsk missing.ask missing.key missing.required) reply → ⊥ in
    All-contains NotTo (from_sender number its.received) heard.0 (of_sender NotTo number its.received missing.not_taken) heard.1 heard.2
