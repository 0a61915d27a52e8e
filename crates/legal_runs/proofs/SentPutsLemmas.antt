-- Each put that a session sends is its own.
use Rattle.std.specs.Prelude.{◌≡◌, ℕ, ◌+◌, ◌%◌, true, false, if◌then◌else◌, leb, List, [], ◌∷◌, All, length, slice_index_or}
use Rattle.std.specs.List.{range_with_len}
use Rattle.std.proofs.lemmas.List.Elements.{All-append, All-cons, All-map, All-nil}
use Rattle.placement.specs.Asked.{ask_order, home_at}
use Rattle.composed_value.specs.declared.put.Put.{Put}
use Rattle.session_known.proofs.NumberedLemmas.{IsOwn, line_own}
use Rattle.session_known.specs.Requests.{Sent, SentAsk, SentPut, asked_by, asks_by, asks_sent, puts_sent, sent_by, sent_from}
use Rattle.session_known.specs.Session.{Client, State, after, puts_by}
use Rattle.session_known.specs.declared.report.Answer.{Answer}
use Rattle.session_known.specs.declared.report.Answer.TheVariants as answers
use Rattle.session_known.specs.declared.script.Line.{Line}
use Rattle.session_known.specs.declared.script.Line.TheVariants as lines
use Rattle.session_proxy.specs.Share.{request_of, to_worker}
use Rattle.store_msg.specs.declared.request.Request.{Request}
use Rattle.worker_core.specs.Share.{put_in}
use Rattle.run_ledger.proofs.MessagesLemmas.{all_to_worker}

module _ (client : Client) where
  -- a request whose put, if it has one, is
  abbrev pub PutsOwn : Request → Type 0
  PutsOwn request = All (IsOwn client) (put_in request)

  -- what is sent of them
  abbrev SendsOwn : ℕ × Sent → Type 0
  SendsOwn sent = PutsOwn (request_of sent.1)

  put_own : (key : ℕ) (put : Put) → put.session ≡ client.session → PutsOwn (request_of (SentPut key put))
  put_own key put own = elim (leb 1 put.number) as (λ counts. All (IsOwn client) (if counts then (key, put) ∷ [] else [])) [
    | true ↦ All-cons (IsOwn client) (key, put) [] own (All-nil (IsOwn client))
    | false ↦ All-nil (IsOwn client)
  ]

  module _ (table : List (List ℕ)) where
    puts_sent_own : (made : List (ℕ × Put)) → All (IsOwn client) made → All SendsOwn (puts_sent table client made)
    puts_sent_own made own =
        All-map SendsOwn (λ (entry : ℕ × Put). (home_at table client.session entry.0, SentPut entry.0 entry.1)) made (λ k d low. put_own (slice_index_or made k d).0 (slice_index_or made k d).1 (own k d low))

    asks_sent_own : (order : List ℕ) (first key : ℕ) (required : List (ℕ × ℕ)) (asks : ℕ) → All SendsOwn (asks_sent order first key required asks)
    asks_sent_own order first key required asks =
        All-map SendsOwn (λ i. (slice_index_or order (i % length order) 0, SentAsk (first + i) key required)) (range_with_len 0 asks) (λ k d low. All-nil (IsOwn client))

    sent_by_own : (state : State) (first said : ℕ) (line : Line) (answer : Answer) → All SendsOwn (sent_by table client state first said line answer)
    sent_by_own state first said (lines.Get key named) (answers.Got worker shown) = asks_sent_own (asked_by client.level table client.session key named) first key _ _
    sent_by_own state first said (lines.Await key session count) (answers.Got worker shown) = asks_sent_own (ask_order table client.session key) first key _ _
    sent_by_own state first said (lines.Get key named) (answers.Again asks worker clock) = asks_sent_own (ask_order table client.session key) first key _ _
    sent_by_own state first said (lines.Await key session count) (answers.Again asks worker clock) = asks_sent_own (ask_order table client.session key) first key _ _
    sent_by_own state first said line answer = puts_sent_own (puts_by client state line answer) (line_own client state line answer)

    sent_own : (state : State) (first : ℕ) (said : List ℕ) (lines : List Line) (answers : List Answer) → All SendsOwn (sent_from table client state first said lines answers)
    sent_own state first (asks ∷ said) (line ∷ lines) (answer ∷ answers) =
        let reached : State = after client state line answer in
        let next : ℕ = first + asks_by client asks line answer in
        All-append SendsOwn (sent_by table client state first asks line answer) (sent_from table client reached next said lines answers)
        (sent_by_own state first asks line answer) (sent_own reached next said lines answers)
    sent_own state first said lines answers = All-nil SendsOwn

    -- so are all that go to a worker
    pub requests_own : (worker : ℕ) (state : State) (first : ℕ) (said : List ℕ) (lines : List Line) (answers : List Answer)
        → All PutsOwn (to_worker worker (sent_from table client state first said lines answers))
    requests_own worker state first said lines answers =
        all_to_worker PutsOwn worker (sent_from table client state first said lines answers) (sent_own state first said lines answers)
