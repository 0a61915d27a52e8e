-- A session that is held beside all workers took replies to its asks alone, each of the worker whose number it has.
use Rattle.std.specs.Prelude.{◌≡◌, ℕ, ◌-◌, List, [], All, Contains, drop, length, slice_index_or}
use Rattle.std.proofs.Common.{◌∙◌, sym, subst}
use Rattle.std.proofs.lemmas.List.Elements.{All-weaker, Contains-append_left}
use Rattle.mail_contract.proofs.FrontLemmas.{front_all, front_splits}
use Rattle.mail_contract.specs.Takes.{from_sender}
use Rattle.placement.specs.Config.{IsOneOf}
use Rattle.session_proxy.specs.State as sessions
use Rattle.store_msg.specs.Reply.{PlainReply}
use Rattle.store_msg.specs.declared.request.Request.{Request}
use Rattle.store_msg.specs.declared.request.Request.TheVariants as requests
use Rattle.worker_core.specs.State as workers
use Rattle.run_ledger.proofs.HeldLemmas.{IsToOne, sent_to_gets}
use Rattle.run_ledger.proofs.MessagesLemmas.{each_from}
use Rattle.run_ledger.proofs.ByNumberLemmas.{by_number}
use Rattle.run_waiting.specs.Laws.{IsWorkerOf, ToldRepliesAreToAsks}
use Rattle.run_waiting.specs.Told.{IsTold}
use Rattle.run_waiting.specs.Waiting.{IsToAsk}

-- a reply is to an ask of the session, and has the number of a worker
abbrev IsOwn : sessions.Lists → ℕ → PlainReply → Type 0
IsOwn its number reply = IsToAsk its reply × (reply.worker ≡ number)

module _ (session number : ℕ) (its : sessions.Lists) (worker : workers.Lists) (is : IsWorkerOf session number worker) (told : IsTold session its number worker) where
  -- what a worker took of the session was sent to it,
  was_sent : (request : Request) → Contains (from_sender session worker.received) request → Contains (slice_index_or its.sent (number - 1) []) request
  was_sent request has =
      let taken : List Request = from_sender session worker.received in
      let sent : List Request = slice_index_or its.sent (number - 1) [] in
      subst (λ those. Contains those request) (sym (front_splits taken sent told.requests)) (Contains-append_left taken (drop (length taken) sent) request has)

  -- so its replies are to asks,
  own_of : (reply : PlainReply) → IsToOne (from_sender session worker.received) worker.state.me reply → IsOwn its number reply
  own_of reply is_to =
      let signed : reply.worker ≡ number = is_to.1 ∙ is.me in (
        subst (λ n. Contains (slice_index_or its.sent (n - 1) []) (requests.Get reply.ask reply.key reply.required)) (sym signed)
            (was_sent (requests.Get reply.ask reply.key reply.required) is_to.0),
        signed,
      )

  -- and so are those that the session took of it
  heard_own : All (IsOwn its number) (from_sender number its.received)
  heard_own =
      let sent : List PlainReply = slice_index_or worker.replied (session - 1) [] in
      front_all (from_sender number its.received) sent told.replies (IsOwn its number)
      (All-weaker (IsToOne (from_sender session worker.received) worker.state.me) (IsOwn its number) own_of sent (sent_to_gets worker is.share session is.session_is))

-- so of all workers
pub told_own : ToldRepliesAreToAsks
told_own all session its of_workers each =
    let Own = λ (message : ℕ × PlainReply). IsOwn its message.0 message.1 in
    let own : All Own its.received =
    each_from (IsOwn its) (IsOneOf (length all)) its.received (λ number within.
    let beside = by_number (λ n worker. IsWorkerOf session n worker × IsTold session its n worker) all each number within in
    heard_own session number its beside.0 beside.1.0 beside.1.1) of_workers.hears
    in (
      All-weaker Own (λ message. IsToAsk its message.1) (λ message is. is.0) its.received own,
      All-weaker Own (λ message. message.1.worker ≡ message.0) (λ message is. is.1) its.received own,
    )
