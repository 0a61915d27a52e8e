-- What a poll of a session is to what it has done.
use Rattle.std.specs.Prelude.{◌≡◌, ◌⊎◌, ℕ, ◌+◌, ◌-◌, ◌<◌, ◌≤◌, IsTrue, List, [], ◌∷◌, ◌++◌, length, slice_index_or, slice_set, sum_by, Some, Ok, IfSome}
use Rattle.std.proofs.Common.{◌∙◌, sym, ap, subst, inl, inr, length-append, arith}
use Rattle.std.proofs.lemmas.Bool.{cases_eq, cases_lt, false≢true}
use Rattle.std.proofs.lemmas.List.{get_or-set_other, get_or-set_same, set_past}
use Rattle.std.proofs.lemmas.List.Sums.{sum_by-set}
use Rattle.mail_contract.proofs.FrontLemmas.{front_more, front_same, front_short}
use Rattle.mail_contract.proofs.WovenLemmas.{from_sender-append}
use Rattle.mail_contract.specs.Takes.{IsFront, from_sender}
use Rattle.store_msg.specs.Reply.{PlainReply, is_found}
use Rattle.session_proxy.specs.Polls.{AnswersAlone, AnswersBy, Counts, Drops, IsTaken, Polls, Rests, Sends}
use Rattle.session_proxy.specs.Share.{IsAwaited, Share, request_of}
use Rattle.session_proxy.specs.State.{Course, IsFixed, Lists}
use Rattle.session_proxy.specs.declared.progress.Progress.{Progress}
use Rattle.session_proxy.specs.declared.progress.Progress.TheVariants as progress
use Rattle.run_measure.proofs.DoneLemmas.{sent_more, took_more}
use Rattle.run_measure.proofs.MeasureLemmas.{begun_rises}
use Rattle.run_measure.proofs.PlacedLemmas.{goes_to_worker}
use Rattle.run_measure.specs.Laws.{HasPolled}
use Rattle.run_measure.specs.Measure.{asked_to, heard_from}
use Rattle.run_measure.specs.Steps.{HasDone, done}

-- with an item more at a place each list goes on, and where there is such a place the lists have one item more
module _ {X : Type 0} (lists : List (List X)) (place : ℕ) (item : X) where
  abbrev with_item : List (List X)
  with_item = slice_set lists place (slice_index_or lists place [] ++ item ∷ [])

  each_goes_on : (i : ℕ) → IsFront (slice_index_or lists i []) (slice_index_or with_item i [])
  each_goes_on i = elim (cases_eq i place) [
    | inr apart ↦ front_same (get_or-set_other lists place i (slice_index_or lists place [] ++ item ∷ []) [] apart)
    | inl here ↦ elim (cases_lt place (length lists)) [
      | inl low ↦
          subst (λ i. IsFront (slice_index_or lists i []) (slice_index_or with_item i [])) (sym here)
          (front_more _ (get_or-set_same lists place (slice_index_or lists place [] ++ item ∷ []) [] low))
      | inr past ↦ front_same (ap (λ lists. slice_index_or lists i []) (set_past lists place (slice_index_or lists place [] ++ item ∷ []) past))
    ]
  ]

  one_item_more : place < length lists → sum_by length with_item ≡ sum_by length lists + 1
  one_item_more low =
      let sum = sum_by-set length lists place (slice_index_or lists place [] ++ item ∷ []) [] low in
      let one = length-append (slice_index_or lists place []) (item ∷ []) in
      omega (arith, sum, one)

-- one item more makes a list longer
longer : {X : Type 0} (before now : List X) (item : X) → now ≡ before ++ item ∷ [] → length before + 1 ≤ length now
longer before now item is = let long = ap length is ∙ length-append before (item ∷ []) in omega (arith, long)

module _ (before now : Lists) (fixed : IsFixed before.course now.course) (as_many : length now.sent ≡ length before.sent) where
  -- the session goes on where its answers do, its requests, and the replies that it took
  goes : IsFront before.course.answers now.course.answers → ((worker : ℕ) → IsFront (asked_to worker before) (asked_to worker now))
      → ((worker : ℕ) → IsFront (heard_from worker before) (heard_from worker now)) → HasDone before now
  goes answered asked_more heard_more = record {
    client = fixed.client;
    table = fixed.table;
    lines = fixed.lines;
    origin = λ known is. fixed.origin ∙ is;
    workers = as_many;
    answered = answered;
    asked_more = λ worker of. asked_more worker;
    heard_more = heard_more;
  }

  -- so where it sent nothing, or took nothing
  asked_same : now.sent ≡ before.sent → (worker : ℕ) → IsFront (asked_to worker before) (asked_to worker now)
  asked_same same worker = front_same (ap (λ sent. slice_index_or sent (worker - 1) []) same)

  heard_same : now.received ≡ before.received → (worker : ℕ) → IsFront (heard_from worker before) (heard_from worker now)
  heard_same same worker = front_same (ap (from_sender worker) same)

  -- and where it took a reply
  heard_one : (sender : ℕ) (reply : PlainReply) → now.received ≡ before.received ++ (sender, reply) ∷ [] → (worker : ℕ)
      → IsFront (heard_from worker before) (heard_from worker now)
  heard_one sender reply is worker = front_more _ (ap (from_sender worker) is ∙ from_sender-append worker before.received ((sender, reply) ∷ []))

  heard_taken : (reply : PlainReply) → IsTaken reply before now → (worker : ℕ) → IsFront (heard_from worker before) (heard_from worker now)
  heard_taken reply taken = elim taken [
    | inl was ↦ heard_same was.1
    | inr new ↦ heard_one new.1 reply new.2
  ]

  -- a reply that is not the kept one is taken now
  took_one : (reply : PlainReply) → IsTaken reply before now → (before.course.kept ≡ Some reply → ⊥) → length before.received + 1 ≤ length now.received
  took_one reply taken not_kept = elim taken [
    | inl was ↦ absurd (not_kept was.0)
    | inr new ↦ longer before.received now.received (new.1, reply) new.2
  ]

  -- the session has done something: a line is answered, a request sent, or a reply taken
  does_one : HasDone before now
      → (length before.course.answers + 1 ≤ length now.course.answers) ⊎ ((sum_by length before.sent + 1 ≤ sum_by length now.sent) ⊎ (length before.received + 1 ≤ length now.received))
      → done before + 1 ≤ done now
  does_one has one =
      let sent = sent_more before now has in
      let took = took_more before now has in
      let answered = front_short before.course.answers now.course.answers has.answered in
      let begins = begun_rises before now has in
      elim one [
        | inl answers ↦ omega (arith, answers, sent, took, begins)
        | inr other ↦ elim other [
          | inl sends ↦ omega (arith, sends, took, answered, begins)
          | inr takes ↦ omega (arith, takes, sent, answered, begins)
        ]
      ]

  -- a request is sent
  sends_polled : Sends before now → HasPolled progress.Moved before now
  sends_polled sends =
      let place : ℕ = sends.worker - 1 in
      let asked_more : (worker : ℕ) → IsFront (asked_to worker before) (asked_to worker now) = λ worker.
      subst (λ sent. IsFront (asked_to worker before) (slice_index_or sent (worker - 1) [])) (sym sends.sent)
      (each_goes_on before.sent place (request_of sends.item) (worker - 1))
      in
      elim sends.course [
        | inl out ↦
            let has = goes (front_same (ap (λ (course : Course). course.answers) out)) asked_more (heard_same sends.received) in
            record {
              goes_on = has;
              moved = λ placed.
                  let of = goes_to_worker before placed before.course.out sends.worker sends.item sends.next in
                  let one = one_item_more before.sent place (request_of sends.item) (omega (arith, of.0, of.1)) in
                  let sum = ap (sum_by length) sends.sent in
                  does_one has (inr (inl (omega (arith, one, sum))));
            }
        | inr last ↦
            let one = longer before.course.answers now.course.answers last.0.0 last.0.1 in
            let has = goes (front_more _ last.0.1) asked_more (heard_same sends.received) in
            record { goes_on = has; moved = λ placed. does_one has (inl one) }
      ]

  -- a line is answered without mail
  alone_polled : AnswersAlone before now → HasPolled progress.Moved before now
  alone_polled alone =
      let one = longer before.course.answers now.course.answers alone.answers.0 alone.answers.1 in
      let has = goes (front_more _ alone.answers.1) (asked_same alone.sent) (heard_same alone.received) in
      record { goes_on = has; moved = λ placed. does_one has (inl one) }

  -- or by a reply
  by_polled : AnswersBy before now → HasPolled progress.Moved before now
  by_polled by =
      let one = longer before.course.answers now.course.answers _ by.answers in
      let has = goes (front_more _ by.answers) (asked_same by.sent) (heard_taken by.reply by.taken) in
      record { goes_on = has; moved = λ placed. does_one has (inl one) }

  -- what is kept is awaited, and shows a cell
  kept_is : Share before → (reply : PlainReply) → before.course.kept ≡ Some reply → IsAwaited before.course reply × IsTrue (is_found reply.answered)
  kept_is share reply is = subst (λ kept. IfSome kept (λ reply. IsAwaited before.course reply × IsTrue (is_found reply.answered))) is share.kept

  -- a reply is dropped
  drops_polled : Share before → Drops before now → HasPolled progress.Moved before now
  drops_polled share drops =
      let has = goes (front_same (ap (λ (course : Course). course.answers) drops.course)) (asked_same drops.sent) (heard_taken drops.reply drops.taken) in
      let one = took_one drops.reply drops.taken (λ is. drops.of_other (kept_is share drops.reply is).0) in
      record { goes_on = has; moved = λ placed. does_one has (inr (inr one)) }

  -- the awaited reply lacked something
  rests_polled : Share before → Rests before now → HasPolled progress.Rest before now
  rests_polled share rests =
      let has = goes (front_same (ap (λ (course : Course). course.answers) rests.course)) (asked_same rests.sent) (heard_taken rests.reply rests.taken) in
      let one = took_one rests.reply rests.taken (λ is. false≢true (sym rests.lacks ∙ (kept_is share rests.reply is).1)) in
      record { goes_on = has; moved = does_one has (inr (inr one)) }

  -- nothing has changed
  same_goes : now ≡ before → HasDone before now
  same_goes same =
      goes (front_same (ap (λ (lists : Lists). lists.course.answers) same)) (asked_same (ap (λ (lists : Lists). lists.sent) same)) (heard_same (ap (λ (lists : Lists). lists.received) same))

-- What a poll says of how far the session is does not depend on what it says of its ends.
pub polled : (answer : Progress) (before now : Lists) (counts counts_now : Counts) (wants_room : ℕ → Type 0) (nothing : Type 0)
    → Polls (Ok answer) before now counts counts_now wants_room nothing → Share before → IsFixed before.course now.course → length now.sent ≡ length before.sent → HasPolled answer before now
polled progress.Moved before now counts counts_now wants_room nothing polls share fixed as_many = elim polls [
  | inl own ↦ elim own.0 [
    | inl sends ↦ sends_polled before now fixed as_many sends
    | inr alone ↦ alone_polled before now fixed as_many alone
  ]
  | inr mail ↦ elim mail.0 [
    | inl by ↦ by_polled before now fixed as_many by
    | inr drops ↦ drops_polled before now fixed as_many share drops
  ]
]
polled progress.Rest before now counts counts_now wants_room nothing polls share fixed as_many = rests_polled before now fixed as_many share polls.0
polled progress.NotYet before now counts counts_now wants_room nothing polls share fixed as_many = record { goes_on = same_goes before now fixed as_many polls.0; moved = polls.0 }
polled progress.Ended before now counts counts_now wants_room nothing polls share fixed as_many = record { goes_on = same_goes before now fixed as_many polls.0; moved = polls.0 }
