-- A line's next ask is sent.
use Rattle.std.specs.Prelude.{◌≡◌, ℕ, ◌+◌, ◌-◌, ◌*◌, ◌<◌, ◌≤◌, ◌^◌, true, false, List, [], ◌∷◌, ◌++◌, length, slice_get, slice_index_or, slice_set, Option, Some, None, IfSome}
use Rattle.std.proofs.Common.{◌∙◌, refl, sym, ap, subst, arith, inl, true≢false}
use Rattle.std.proofs.lemmas.Nat.{mul-le}
use Rattle.std.proofs.lemmas.Option.{none-some, same_Some}
use Rattle.placement.specs.Asked.{replicas_of}
use Rattle.placement.specs.Config.{IsOneOf}
use Rattle.session_known.specs.Lawful.{required}
use Rattle.session_known.specs.Requests.{Sent, SentAsk}
use Rattle.session_known.specs.Session.{InState}
use Rattle.session_known.specs.declared.script.Level.{Level}
use Rattle.session_known.specs.declared.script.Level.TheVariants.{Causal}
use Rattle.session_known.specs.declared.script.Line.{Line}
use Rattle.session_known.specs.declared.script.Line.TheVariants as lines
use Rattle.store_msg.specs.Reply.{PlainReply}
use Rattle.store_msg.specs.declared.request.Request.{Request}
use Rattle.store_msg.specs.declared.request.Request.TheVariants as requests
use Rattle.session_proxy.proofs.AskLemmas.{asked_is_worker, most_is, next_is, replicas_there}
use Rattle.session_proxy.proofs.KeepsLemmas.{keeps_open, may_run}
use Rattle.session_proxy.proofs.PigeonholeLemmas.{few_replicas}
use Rattle.session_proxy.proofs.SentLemmas.{as_many_then, share_then}
use Rattle.session_proxy.specs.Kept.{Keeps}
use Rattle.session_proxy.specs.Lines.{AreReplicas, MayRun, most_asks}
use Rattle.session_proxy.specs.Local.{AreAsks, clock_begun, key_asked, worker_asked}
use Rattle.session_proxy.specs.Polls.{Sends}
use Rattle.session_proxy.specs.Share.{IsAsked, awaited, lacks, open_most, request_of}
use Rattle.session_proxy.specs.State.{Course, Lists, open_line, state_now}
use Rattle.session_proxy.specs.declared.local.Begun.{Begun}
use Rattle.session_proxy.specs.declared.local.Begun.TheVariants as ways

-- what is kept where asks were begun
pub as_asks : {lists : Lists} {session : InState} {begun : Begun} {made : Option Request} → Keeps lists session begun made → AreAsks begun
    → Keeps lists session (ways.Asks (clock_begun begun)) made
as_asks {begun = ways.Asks clock} keeps asks = keeps
as_asks {begun = begun} keeps asks = absurd asks

-- and the other way round
pub of_asks : {lists : Lists} {session : InState} {begun : Begun} {made : Option Request} → AreAsks begun → Keeps lists session (ways.Asks (clock_begun begun)) made
    → Keeps lists session begun made
of_asks {begun = ways.Asks clock} asks keeps = keeps
of_asks {begun = begun} asks keeps = absurd asks

-- the key that a line asks for is there
key_known : (table : List (List ℕ)) (level : Level) (line : Line) → MayRun table level line → IsAsked line → IsOneOf (length table) (key_asked line)
key_known table level (lines.Get key named) may asked = may.0
key_known table level (lines.Await key session count) may asked = may.0
key_known table level line may asked = absurd asked

-- a line sends 8 asks at most for each replica
most_few : (table : List (List ℕ)) (level : Level) (key : ℕ) → 1 ≤ length (replicas_of table key) → most_asks table level key ≤ 8 * length (replicas_of table key)
most_few table Causal key some = omega arith
most_few table level key some = omega (arith, some)

-- so many asks of so many workers have numbers of 64 bits
few_numbers : (asks out answers workers : ℕ) → asks ≤ answers * (8 * workers) → answers ≤ 4096 → workers < 2 ^ 16 → out ≤ 8 * workers → asks + out + 1 < 2 ^ 64
few_numbers asks out answers workers few few_answers few_workers low =
    let most : answers * (8 * workers) ≤ 4096 * (8 * 2 ^ 16) = mul-le answers (8 * workers) 4096 (8 * 2 ^ 16) few_answers (omega (arith, few_workers)) in
    omega (arith, few, most, low, few_workers)

-- where no reply is awaited, no ask's is
none_awaited : (course : Course) → course.waits ≡ false → (ask : ℕ × Sent) → awaited course ≡ Some ask → ⊥
none_awaited course waits ask is = none-some ask (rw waits at is)

-- what holds only of a reply that is awaited leaves none that is kept
none_kept : {P : PlainReply → Type 0} (kept : Option PlainReply) → ((reply : PlainReply) → P reply → ⊥) → IfSome kept P → kept ≡ None
none_kept None not holds = refl
none_kept (Some reply) not holds = absurd (not reply holds)

-- a line lacks one reply more, once another ask is sent
one_more_lacks : (option : Option Line) (lacking waits out : ℕ) → waits ≡ 0 → IfSome option (λ line. IsAsked line → lacking + waits ≡ out)
    → IfSome option (λ line. IsAsked line → lacking + 1 ≡ out + 1)
one_more_lacks None lacking waits out none before = tt
one_more_lacks (Some line) lacking waits out none before = λ asked. let was = before asked in omega (arith, was, none)

module _ {lists : Lists} {session : InState} {clock : List (ℕ × ℕ)} {made : Option Request} (keeps : Keeps lists session (ways.Asks clock) made) where
  abbrev pub course : Course
  course = lists.course

  abbrev pub line : Line
  line = keeps.stands.1

  abbrev pub key : ℕ
  key = key_asked line

  -- the line is one that the session may have
  line_may : MayRun course.table course.client.level line
  line_may = may_run lists line keeps.stands.2 session (ways.Asks clock) made keeps

  -- its key is there
  pub key_there : IsOneOf (length course.table) key
  key_there = key_known course.table course.client.level line line_may keeps.stands.3.asked

  -- its replicas are workers
  pub replicas_are : AreReplicas (length lists.sent) (replicas_of course.table key)
  replicas_are = replicas_there (length lists.sent) course.table key keeps.placed key_there

  -- so they are few
  pub few_of_key : length (replicas_of course.table key) ≤ length lists.sent
  few_of_key = few_replicas (length lists.sent) (replicas_of course.table key) replicas_are.are_workers replicas_are.different

  -- and so are the line's asks
  pub few_most : most_asks course.table course.client.level key ≤ 8 * length lists.sent
  few_most = omega (arith, most_few course.table course.client.level key replicas_are.some, few_of_key)

  -- no more of them were sent than may be
  pub out_few : course.out ≤ most_asks course.table course.client.level key
  out_few = omega (arith, keeps.share.out, most_is course line keeps.stands.2 keeps.stands.3.asked)

  -- and one more may be, where no reply is awaited
  pub out_left : course.waits ≡ false → course.out < most_asks course.table course.client.level key
  out_left waits = omega (arith, keeps.stands.3.left waits, most_is course line keeps.stands.2 keeps.stands.3.asked)

  -- the numbers of the asks are few, and of the next
  pub few_next : (course.asks + course.out + 1 < 2 ^ 64) × (course.out + 1 < 2 ^ 32)
  few_next =
      let low : course.out ≤ 8 * length lists.sent = omega (arith, out_few, few_most) in (
        few_numbers course.asks course.out (length course.answers) (length lists.sent) keeps.few_asks (omega (arith, keeps.share.few, keeps.few_lines)) keeps.few_workers low,
        omega (arith, low, keeps.few_workers),
      )

  -- whichever line is open may be asked for, and so often
  pub may_ask : (IsFew : ℕ → Type 0) → IsFew (most_asks course.table course.client.level key) → (its : Line) → open_line course ≡ Some its
      → MayRun course.table course.client.level its × IsAsked its × IsFew (most_asks course.table course.client.level (key_asked its))
  may_ask IsFew few its at =
      subst (λ line. MayRun course.table course.client.level line × IsAsked line × IsFew (most_asks course.table course.client.level (key_asked line)))
      (same_Some line its (sym keeps.stands.2 ∙ at)) (line_may, keeps.stands.3.asked, few)

  -- the next ask goes to a worker
  pub ask_goes : IsOneOf (length lists.sent) (worker_asked course.table course.client line course.out)
  ask_goes = asked_is_worker (length lists.sent) course.table course.client line course.out keeps.placed line_may keeps.stands.3.asked keeps.me

  -- the worker of the next ask, and the ask
  abbrev pub its_worker : ℕ
  its_worker = worker_asked course.table course.client line course.out

  abbrev pub its_ask : Sent
  its_ask = SentAsk (course.asks + 1 + course.out) key (required course.client (state_now course).knows line)

  -- it is the open line's next request
  pub next_ask : course.waits ≡ false → slice_get (open_most course) course.out ≡ Some (its_worker, its_ask)
  next_ask waits = next_is course line keeps.stands.2 keeps.stands.3.asked (out_left waits)

  -- as it is sent
  of_ask : (request : Request) → request ≡ requests.Get (course.asks + course.out + 1) key clock → request ≡ request_of its_ask
  of_ask request is =
      let number : course.asks + course.out + 1 ≡ course.asks + 1 + course.out = omega arith in
      is ∙ ap (λ ask. requests.Get ask key clock) number ∙ ap (requests.Get (course.asks + 1 + course.out) key) keeps.stands.3.required_is

  module _ (waits : course.waits ≡ false) (sent : List (List Request)) (worker : ℕ) (request : Request) (worker_is : worker ≡ its_worker)
      (request_is : request ≡ requests.Get (course.asks + course.out + 1) key clock) (posted : sent ≡ slice_set lists.sent (worker - 1) (slice_index_or lists.sent (worker - 1) [] ++ request ∷ [])) where
    -- what was sent then
    posted_ask : sent ≡ slice_set lists.sent (its_worker - 1) (slice_index_or lists.sent (its_worker - 1) [] ++ request_of its_ask ∷ [])
    posted_ask =
        posted ∙ ap (λ worker. slice_set lists.sent (worker - 1) (slice_index_or lists.sent (worker - 1) [] ++ request ∷ [])) worker_is
        ∙ ap (λ request. slice_set lists.sent (its_worker - 1) (slice_index_or lists.sent (its_worker - 1) [] ++ request ∷ [])) (of_ask request request_is)

    -- so a request went out
    pub ask_sends : Sends lists (record { course = record course { out = course.out + 1; waits = true }; sent = sent; received = lists.received })
    ask_sends = record { waits = waits; worker = its_worker; item = its_ask; next = next_ask waits; sent = posted_ask; received = refl; course = inl refl }

    -- and the proxy keeps what it is to keep
    pub sends_ask : Keeps (record { course = record course { out = course.out + 1; waits = true }; sent = sent; received = lists.received }) session (ways.Asks clock) made
    sends_ask =
        let none : course.kept ≡ None = none_kept course.kept (λ reply holds. none_awaited course waits holds.0.0 holds.0.1) keeps.share.kept in
        keeps_open keeps (course.out + 1) true course.kept sent lists.received session (ways.Asks clock) made
        (as_many_then lists keeps.share its_worker its_ask ask_goes (next_ask waits) sent posted_ask) keeps.client_is
        (share_then lists keeps.share its_worker its_ask ask_goes (next_ask waits) sent posted_ask true none
        (one_more_lacks (open_line course) (length keeps.share.lacking) (lacks course.waits) course.out (ap lacks waits) keeps.share.lacking_are.out))
        (keeps.stands.0, line, keeps.stands.2, record { asked = keeps.stands.3.asked; left = λ no. absurd (true≢false no); required_is = keeps.stands.3.required_is }, keeps.stands.4)
