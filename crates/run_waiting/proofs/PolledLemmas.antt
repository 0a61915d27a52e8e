-- Poll by poll, what a session waits for was not taken before, and what it took is to its asks as long as no reply is dropped.
use Rattle.std.specs.Prelude.{◌≡◌, ℕ, ◌+◌, ◌-◌, ◌<◌, false, List, [], ◌∷◌, ◌++◌, All, Contains, length, slice_get, slice_index_or, slice_set, Some}
use Rattle.std.proofs.Common.{◌∙◌, sym, ap, subst, inl, inr, arith}
use Rattle.std.proofs.lemmas.Bool.{cases_eq, cases_lt, false≢true}
use Rattle.std.proofs.lemmas.List.{get_or-set_other, get_or-set_same, set_past}
use Rattle.std.proofs.lemmas.List.Elements.{All-contains, All-push, All-weaker, Contains-append_left, Contains-push}
use Rattle.session_known.specs.Requests.{Sent, SentAsk, SentPut}
use Rattle.store_msg.specs.Reply.{PlainReply}
use Rattle.store_msg.specs.declared.request.Request.{Request}
use Rattle.store_msg.specs.declared.request.Request.TheVariants as requests
use Rattle.session_proxy.specs.Polls.{AnswersAlone, AnswersBy, Drops, IsTaken, Rests, Sends, is_ask}
use Rattle.session_proxy.specs.Run.{IsReplyTo}
use Rattle.session_proxy.specs.Share.{IsAwaited, Share, awaited, open_most, request_of}
use Rattle.session_proxy.specs.State.{Course, Lists}
use Rattle.session_proxy.specs.declared.progress.Progress.{Progress}
use Rattle.session_proxy.specs.declared.progress.Progress.TheVariants as progress
use Rattle.run_measure.proofs.PlacedLemmas.{goes_to_worker}
use Rattle.run_measure.specs.Laws.{IsPlaced}
use Rattle.run_waiting.proofs.AskedLemmas.{OfNumber, open_numbered, sent_below}
use Rattle.run_waiting.proofs.AwaitedLemmas.{sent_last}
use Rattle.run_waiting.specs.Laws.{PollsTakeWhatIsAwaited, StaysAwaited}
use Rattle.run_waiting.specs.Waiting.{AreToAsks, AwaitsMissing, IsToAsk}

-- a reply is to one of the requests that were sent to its worker
abbrev IsToSent : List (List Request) → PlainReply → Type 0
IsToSent sent reply = Contains (slice_index_or sent (reply.worker - 1) []) (requests.Get reply.ask reply.key reply.required)

-- and so is each that was taken
abbrev AreToSent : List (List Request) → List (ℕ × PlainReply) → Type 0
AreToSent sent received = All (λ message. IsToSent sent message.1) received

-- it is still once one more request is sent
still_sent : (sent : List (List Request)) (place : ℕ) (request : Request) (reply : PlainReply) → IsToSent sent reply
    → IsToSent (slice_set sent place (slice_index_or sent place [] ++ request ∷ [])) reply
still_sent sent place request reply has_it =
    let at : ℕ = reply.worker - 1 in
    let ask : Request = requests.Get reply.ask reply.key reply.required in
    let more : List Request = slice_index_or sent place [] ++ request ∷ [] in
    elim (cases_eq at place) [
      | inr apart ↦ subst (λ those. Contains those ask) (sym (get_or-set_other sent place at more [] apart)) has_it
      | inl here ↦ elim (cases_lt place (length sent)) [
        | inl low ↦
            subst (λ those. Contains those ask) (sym (ap (λ i. slice_index_or (slice_set sent place more) i []) here ∙ get_or-set_same sent place more [] low))
            (Contains-append_left (slice_index_or sent place []) (request ∷ []) ask (subst (λ i. Contains (slice_index_or sent i []) ask) here has_it))
        | inr past ↦ subst (λ lists. Contains (slice_index_or lists at []) ask) (sym (set_past sent place more past)) has_it
      ]
    ]

module _ (its : Lists) (share : Share its) (placed : IsPlaced its) where
  -- a reply that is awaited is to an ask that was sent
  awaited_to_ask : (reply : PlainReply) → IsAwaited its.course reply → IsToAsk its reply
  awaited_to_ask reply ((worker, SentAsk ask key required), is, replies) =
      let get : Request = requests.Get ask key required in
      let last = sent_last its share placed worker ask key required is in
      rw (replies.0, replies.1, replies.2, replies.3) (subst (λ those. Contains those get) (sym last.1) (Contains-push last.0 get))
  awaited_to_ask reply ((worker, SentPut key put), is, replies) = absurd replies

  -- no reply to the next ask was taken, since each is to one of a lower number
  next_missing : AreToAsks its → (worker ask key : ℕ) (required : List (ℕ × ℕ)) → slice_get (open_most its.course) its.course.out ≡ Some (worker, SentAsk ask key required)
      → All (λ message. IsReplyTo (worker, SentAsk ask key required) message.1 → ⊥) its.received
  next_missing to_asks worker ask key required next =
      let number : ℕ = its.course.asks + 1 + its.course.out in
      let numbered : ask ≡ number = open_numbered its.course its.course.out (worker, SentAsk ask key required) next in
      let below = sent_below its share worker (goes_to_worker its placed its.course.out worker (SentAsk ask key required) next) in
      All-weaker (λ (message : ℕ × PlainReply). IsToAsk its message.1) (λ (message : ℕ × PlainReply). IsReplyTo (worker, SentAsk ask key required) message.1 → ⊥)
      (λ message to_ask replies.
      let low : message.1.ask < number =
      All-contains (OfNumber (λ ask. ask < number)) (slice_index_or its.sent (worker - 1) []) (requests.Get message.1.ask message.1.key message.1.required) below
      (subst (λ by. Contains (slice_index_or its.sent (by - 1) []) (requests.Get message.1.ask message.1.key message.1.required)) replies.1 to_ask)
      in
      let same = replies.0 in
      omega (arith, low, numbered, same)) its.received to_asks

module _ (before now : Lists) (share : Share before) (placed : IsPlaced before) (missing : AwaitsMissing before) (to_asks : AreToAsks before) where
  -- a session that waits for nothing misses nothing
  none_awaited : now.course.waits ≡ false → AwaitsMissing now
  none_awaited is waits = absurd (false≢true (sym is ∙ waits))

  -- what holds of the replies that were taken before, and of the one that is taken now, holds of all
  all_taken : (P : PlainReply → Type 0) (reply : PlainReply) → IsTaken reply before now → P reply → All (λ message. P message.1) before.received → All (λ message. P message.1) now.received
  all_taken P reply taken is all = elim taken [
    | inl was ↦ subst (All (λ message. P message.1)) (sym was.1) all
    | inr new ↦ subst (All (λ message. P message.1)) (sym new.2) (All-push (λ message. P message.1) before.received (new.1, reply) all is)
  ]

  -- the awaited reply is taken
  awaited_taken : (reply : PlainReply) → IsTaken reply before now → IsAwaited before.course reply → now.sent ≡ before.sent → AreToAsks now
  awaited_taken reply taken of_ask sent =
      subst (λ sent. AreToSent sent now.received) (sym sent) (all_taken (IsToSent before.sent) reply taken (awaited_to_ask before share placed reply of_ask) to_asks)

  -- the next request is sent, and its line stays open: a reply is awaited if it is an ask
  next_awaited : (worker : ℕ) (item : Sent) → slice_get (open_most before.course) before.course.out ≡ Some (worker, item)
      → now.course ≡ record before.course { out = before.course.out + 1; waits = is_ask item } → now.received ≡ before.received → AwaitsMissing now
  next_awaited worker (SentPut key put) next course same = none_awaited (ap (λ (course : Course). course.waits) course)
  next_awaited worker (SentAsk ask key required) next course same = λ waits. record {
    worker = worker;
    ask = ask;
    key = key;
    required = required;
    asked = let here : before.course.out + 1 - 1 ≡ before.course.out = omega arith in ap awaited course ∙ ap (slice_get (open_most before.course)) here ∙ next;
    not_taken = subst (All (λ message. IsReplyTo (worker, SentAsk ask key required) message.1 → ⊥)) (sym same) (next_missing before share placed to_asks worker ask key required next);
  }

  -- or its line is answered with it
  sends_stays : Sends before now → StaysAwaited progress.Moved before now
  sends_stays sends = record {
    awaits = elim sends.course [
      | inl out ↦ next_awaited sends.worker sends.item sends.next out sends.received
      | inr last ↦ none_awaited last.2.waits
    ];
    to_asks = λ kept.
        subst (AreToSent now.sent) (sym sends.received)
        (All-weaker (λ (message : ℕ × PlainReply). IsToSent before.sent message.1) (λ (message : ℕ × PlainReply). IsToSent now.sent message.1)
        (λ message to_ask. subst (λ sent. IsToSent sent message.1) (sym sends.sent) (still_sent before.sent (sends.worker - 1) (request_of sends.item) message.1 to_ask))
        before.received to_asks);
  }

  -- a line is answered without mail
  alone_stays : AnswersAlone before now → StaysAwaited progress.Moved before now
  alone_stays alone = record {
    awaits = none_awaited alone.unbegun.waits;
    to_asks = λ kept. subst (λ sent. AreToSent sent now.received) (sym alone.sent) (subst (AreToSent before.sent) (sym alone.received) to_asks);
  }

  -- or by the awaited reply
  by_stays : AnswersBy before now → StaysAwaited progress.Moved before now
  by_stays by = record {
    awaits = none_awaited by.unbegun.waits;
    to_asks = λ kept. awaited_taken by.reply by.taken by.of_ask by.sent;
  }

  -- a reply is dropped
  drops_stays : Drops before now → StaysAwaited progress.Moved before now
  drops_stays drops = record {
    awaits = λ waits.
        let was = missing drops.waits in
        record {
          worker = was.worker;
          ask = was.ask;
          key = was.key;
          required = was.required;
          asked = ap awaited drops.course ∙ was.asked;
          not_taken = all_taken (λ reply. IsReplyTo (was.worker, SentAsk was.ask was.key was.required) reply → ⊥) drops.reply drops.taken
              (λ is. drops.of_other ((was.worker, SentAsk was.ask was.key was.required), was.asked, is)) was.not_taken;
        };
    to_asks = λ kept. absurd (kept (drops.waits, ap (λ (course : Course). course.waits) drops.course ∙ drops.waits));
  }

  -- the awaited reply lacked something
  rests_stays : Rests before now → StaysAwaited progress.Rest before now
  rests_stays rests = record {
    awaits = none_awaited (ap (λ (course : Course). course.waits) rests.course);
    to_asks = λ kept. awaited_taken rests.reply rests.taken rests.of_ask rests.sent;
  }

  -- nothing has changed
  same_stays : (answer : Progress) → now ≡ before → StaysAwaited answer before now
  same_stays answer same = record { awaits = subst AwaitsMissing (sym same) missing; to_asks = λ kept. subst AreToAsks (sym same) to_asks }

-- So it is with every poll.
pub stays_awaited : PollsTakeWhatIsAwaited
stays_awaited progress.Moved before now counts counts_now polls share placed missing to_asks = elim polls [
  | inl own ↦ elim own.0 [
    | inl sends ↦ sends_stays before now share placed missing to_asks sends
    | inr alone ↦ alone_stays before now share placed missing to_asks alone
  ]
  | inr mail ↦ elim mail.0 [
    | inl by ↦ by_stays before now share placed missing to_asks by
    | inr drops ↦ drops_stays before now share placed missing to_asks drops
  ]
]
stays_awaited progress.Rest before now counts counts_now polls share placed missing to_asks = rests_stays before now share placed missing to_asks polls.0
stays_awaited progress.NotYet before now counts counts_now polls share placed missing to_asks = same_stays before now share placed missing to_asks progress.NotYet polls.0
stays_awaited progress.Ended before now counts counts_now polls share placed missing to_asks = same_stays before now share placed missing to_asks progress.Ended polls.0
