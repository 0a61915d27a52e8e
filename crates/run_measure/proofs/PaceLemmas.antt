-- How often a session asks in vain, poll by poll.
use Rattle.std.specs.Prelude.{◌≡◌, ℕ, zero, suc, ◌+◌, ◌-◌, ◌<◌, ◌≤◌, Bool, true, false, if◌then◌else◌, is_some, List, [], ◌∷◌, ◌++◌, drop, length, map, option_map, slice_get, unwrap_or, Option, Some, None, IfSome, Ok}
use Rattle.std.proofs.Common.{◌∙◌, ap, arith, inl, inr, length-append, refl, subst, sym}
use Rattle.std.proofs.lemmas.Bool.{cases_lt}
use Rattle.std.proofs.lemmas.Option.{none-some, same_Some, slice_get_within}
use Rattle.mail_contract.proofs.FrontLemmas.{front_short, front_splits}
use Rattle.mail_contract.specs.Takes.{IsFront}
use Rattle.placement.specs.Asked.{home_at}
use Rattle.session_known.specs.Requests.{Sent, SentPut, puts_sent}
use Rattle.session_known.specs.Lawful.{lamport_of_commit}
use Rattle.session_known.specs.Session.{Client, State, held_puts, own_count, puts_by}
use Rattle.session_known.specs.declared.report.Answer.{Answer}
use Rattle.session_known.specs.declared.report.Answer.TheVariants as answers
use Rattle.session_known.specs.declared.script.Level.{Level}
use Rattle.session_known.specs.declared.script.Line.{Line}
use Rattle.session_known.specs.declared.script.Line.TheVariants as lines
use Rattle.store_msg.specs.Reply.{PlainReply}
use Rattle.store_msg.specs.declared.reply.Answered.{Answered}
use Rattle.store_msg.specs.declared.reply.Answered.TheVariants.{Again, Found}
use Rattle.session_proxy.specs.Lines.{answer_at, is_worn, most_sent}
use Rattle.session_proxy.specs.Polls.{Counts, IsOwnAnswer, IsUnbegun, Polls, is_ask}
use Rattle.session_proxy.specs.Run.{IsReplyTo, answer_shown}
use Rattle.session_proxy.specs.Share.{AreLacking, IsAsked, IsAwaited, Share, lacks, open_most}
use Rattle.session_proxy.specs.State.{Course, Lists, open_line, state_now}
use Rattle.session_proxy.specs.declared.progress.Progress.{Progress}
use Rattle.session_proxy.specs.declared.progress.Progress.TheVariants as progress
use Rattle.run_measure.specs.Pace.{IsPaced, SaysAsks, asks_back, back_of, rests_by}

-- what stands in a list that was made of another was made of an item there
made_of : {X Y : Type 0} (make : X → Y) (xs : List X) (place : ℕ) (y : Y) → slice_get (map make xs) place ≡ Some y → (x : X) × (make x ≡ y)
made_of make [] place y is = absurd (none-some y is)
made_of make (x ∷ xs) zero y is = (x, same_Some (make x) y is)
made_of make (x ∷ xs) (suc place) y is = made_of make xs place y is

module _ (table : List (List ℕ)) (client : Client) (state : State) (first : ℕ) where
  -- a request of a get or an await is an ask
  asks_of_get : (line : Line) → IsAsked line → (place worker : ℕ) (item : Sent) → slice_get (most_sent table client state first line) place ≡ Some (worker, item) → is_ask item ≡ true
  asks_of_get (lines.Get key named) asked place worker item is = sym (ap (λ (one : ℕ × Sent). is_ask one.1) (made_of _ _ place (worker, item) is).1)
  asks_of_get (lines.Await key session count) asked place worker item is = sym (ap (λ (one : ℕ × Sent). is_ask one.1) (made_of _ _ place (worker, item) is).1)
  asks_of_get (lines.Put key payload) asked place worker item is = absurd asked
  asks_of_get lines.Begin asked place worker item is = absurd asked
  asks_of_get lines.Commit asked place worker item is = absurd asked
  asks_of_get lines.Abort asked place worker item is = absurd asked

  -- nothing is a reply to a put
  no_reply_to_put : (made : List (ℕ × _)) (place : ℕ) (one : ℕ × Sent) (reply : PlainReply) → slice_get (puts_sent table client made) place ≡ Some one → IsReplyTo one reply → ⊥
  no_reply_to_put made place one reply is to =
      subst (λ one. IsReplyTo one reply) (sym (made_of (λ entry. (home_at table client.session entry.0, SentPut entry.0 entry.1)) made place one is).1) to

  -- none but a get or an await has a request that is replied to
  replied_is_asked : (line : Line) (place : ℕ) (one : ℕ × Sent) (reply : PlainReply) → slice_get (most_sent table client state first line) place ≡ Some one → IsReplyTo one reply → IsAsked line
  replied_is_asked (lines.Get key named) place one reply is to = tt
  replied_is_asked (lines.Await key session count) place one reply is to = tt
  replied_is_asked (lines.Put key payload) place one reply is to = no_reply_to_put (puts_by client state (lines.Put key payload) (answer_at state (lines.Put key payload))) place one reply is to
  replied_is_asked lines.Begin place one reply is to = no_reply_to_put (puts_by client state lines.Begin (answer_at state lines.Begin)) place one reply is to
  replied_is_asked lines.Commit place one reply is to = no_reply_to_put (puts_by client state lines.Commit (answer_at state lines.Commit)) place one reply is to
  replied_is_asked lines.Abort place one reply is to = no_reply_to_put (puts_by client state lines.Abort (answer_at state lines.Abort)) place one reply is to

  -- where a request is sent, as many asks came to nothing as before
  sends_back : (line : Line) (place worker out : ℕ) (item : Sent) → slice_get (most_sent table client state first line) place ≡ Some (worker, item)
      → back_of (Some line) (out + 1) (is_ask item) ≡ back_of (Some line) out false
  sends_back (lines.Get key named) place worker out item is =
      subst (λ waits. out + 1 - lacks waits ≡ out - lacks false) (sym (asks_of_get (lines.Get key named) tt place worker item is)) (omega arith)
  sends_back (lines.Await key session count) place worker out item is =
      subst (λ waits. out + 1 - lacks waits ≡ out - lacks false) (sym (asks_of_get (lines.Await key session count) tt place worker item is)) (omega arith)
  sends_back (lines.Put key payload) place worker out item is = omega arith
  sends_back lines.Begin place worker out item is = omega arith
  sends_back lines.Commit place worker out item is = omega arith
  sends_back lines.Abort place worker out item is = omega arith

-- before the first request none came to nothing
none_back : (line : Option Line) → back_of line 0 false ≡ 0
none_back None = refl
none_back (Some (lines.Get key named)) = refl
none_back (Some (lines.Await key session count)) = refl
none_back (Some (lines.Put key payload)) = refl
none_back (Some lines.Begin) = refl
none_back (Some lines.Commit) = refl
none_back (Some lines.Abort) = refl

-- all that were sent came to nothing but for the awaited one, and all did once that one did
all_back : (line : Line) (out : ℕ) → IsAsked line → 1 ≤ out → (out ≡ back_of (Some line) out true + 1) × (back_of (Some line) out false ≡ out)
all_back (lines.Get key named) out asked some = (omega (arith, some), omega arith)
all_back (lines.Await key session count) out asked some = (omega (arith, some), omega arith)
all_back (lines.Put key payload) out asked some = absurd asked
all_back lines.Begin out asked some = absurd asked
all_back lines.Commit out asked some = absurd asked
all_back lines.Abort out asked some = absurd asked

-- an answer by cases is no end of asking where none of them is
neither : (test : Bool) (one other : Answer) (asks worker : ℕ) (clock : List (ℕ × ℕ)) → (one ≡ answers.Again asks worker clock → ⊥) → (other ≡ answers.Again asks worker clock → ⊥)
    → (if test then one else other) ≡ answers.Again asks worker clock → ⊥
neither true one other asks worker clock not_one not_other is = not_one is
neither false one other asks worker clock not_one not_other is = not_other is

-- so a line that is no get and no await has none
own_is_no_end : (state : State) (line : Line) (asks worker : ℕ) (clock : List (ℕ × ℕ)) → (IsAsked line → ⊥) → answer_at state line ≡ answers.Again asks worker clock → ⊥
own_is_no_end state (lines.Get key named) asks worker clock no_ask is = no_ask tt
own_is_no_end state (lines.Await key session count) asks worker clock no_ask is = no_ask tt
own_is_no_end state (lines.Put key payload) asks worker clock no_ask is =
    let number : ℕ = own_count state.knows key + 1 in
    let lamport : ℕ = state.knows.lamport + 1 in
    neither (is_some state.held) answers.Held (if is_worn state then answers.Worn else answers.Put number lamport) asks worker clock
    (λ (held : answers.Held ≡ answers.Again asks worker clock). cc)
    (neither (is_worn state) answers.Worn (answers.Put number lamport) asks worker clock (λ (worn : answers.Worn ≡ answers.Again asks worker clock). cc)
    (λ (put : answers.Put number lamport ≡ answers.Again asks worker clock). cc)) is
own_is_no_end state lines.Begin asks worker clock no_ask is = let begun : answers.Begun ≡ answers.Again asks worker clock = is in cc
own_is_no_end state lines.Commit asks worker clock no_ask is =
    let many : ℕ = length (held_puts state) in
    neither (is_worn state) answers.Worn (answers.Committed many (lamport_of_commit state.knows many)) asks worker clock
    (λ (worn : answers.Worn ≡ answers.Again asks worker clock). cc)
    (λ (committed : answers.Committed many (lamport_of_commit state.knows many) ≡ answers.Again asks worker clock). cc) is
own_is_no_end state lines.Abort asks worker clock no_ask is =
    let aborted : answers.Aborted (length (held_puts state)) ≡ answers.Again asks worker clock = is in cc

-- an end of asking says how many asks were sent
end_says : (level : Level) (sent worker : ℕ) (answered : Answered) (asks by : ℕ) (clock : List (ℕ × ℕ)) → answer_shown level sent worker answered ≡ answers.Again asks by clock → asks ≡ sent
end_says level sent worker (Found cell) asks by clock is = cc
end_says level sent worker (Again shown) asks by clock is = cc

-- the last of some items
last_is : {X : Type 0} (items : List X) (item other : X) → slice_get (items ++ item ∷ []) (length items) ≡ Some other → item ≡ other
last_is [] item other is = same_Some item other is
last_is (first ∷ items) item other is = last_is items item other is

module _ (before now : Course) where
  -- no line was answered
  pub open_paced : (rests : ℕ) → now.answers ≡ before.answers → asks_back now ≡ asks_back before + rests → IsPaced rests before now
  open_paced rests same back = record {
    same = λ long. back;
    next = λ more. absurd (let long = ap length same in omega (arith, more, long));
    ends = λ place asks worker clock from there.
        let within = slice_get_within now.answers place (answers.Again asks worker clock) there in
        let long = ap length same in
        absurd (omega (arith, within, from, long));
  }

  -- nothing has changed
  pub still_paced : now ≡ before → IsPaced 0 before now
  still_paced same = open_paced 0 (ap (λ (course : Course). course.answers) same) (subst (λ course. asks_back course ≡ asks_back before + 0) (sym same) (omega arith))

  -- one was
  answered_paced : (answer : Answer) → now.answers ≡ before.answers ++ answer ∷ [] → IsUnbegun now
      → ((asks worker : ℕ) (clock : List (ℕ × ℕ)) → answer ≡ answers.Again asks worker clock → asks ≡ asks_back before + 1) → IsPaced 0 before now
  answered_paced answer is unbegun says =
      let long = ap length is ∙ length-append before.answers (answer ∷ []) in
      let none : asks_back now ≡ 0 = (λ j. back_of (open_line now) (unbegun.out j) (unbegun.waits j)) ∙ none_back (open_line now) in
      record {
        same = λ same. absurd (omega (arith, same, long));
        next = λ more. none;
        ends = λ place asks worker clock from there.
            let within = slice_get_within now.answers place (answers.Again asks worker clock) there in
            let at : place ≡ length before.answers = omega (arith, within, from, long) in
            let its = last_is before.answers answer (answers.Again asks worker clock)
            (subst (λ place. slice_get (before.answers ++ answer ∷ []) place ≡ Some (answers.Again asks worker clock)) at
            (subst (λ all. slice_get all place ≡ Some (answers.Again asks worker clock)) is there)) in
            inl (at, says asks worker clock its);
      }

  -- without a reply
  own_paced : (answer : Answer) → now.answers ≡ before.answers ++ answer ∷ [] → IsOwnAnswer before answer → IsUnbegun now → IsPaced 0 before now
  own_paced answer is own unbegun = answered_paced answer is unbegun (λ asks worker clock ends.
      absurd (own_is_no_end (state_now before) own.line asks worker clock own.no_ask (sym own.answer_is ∙ ends)))

-- the request of a line at a place
abbrev request_at : Course → ℕ → Option Line → Option (ℕ × Sent)
request_at course place line = slice_get (unwrap_or (option_map (most_sent course.table course.client (state_now course) (course.asks + 1)) line) []) place

-- where a reply is awaited, all asks of its line came to nothing but for the last, and all did once that one did
awaited_back : (course : Course) (reply : PlainReply) (lacking : List PlainReply) → AreLacking course lacking → IsAwaited course reply
    → (course.out ≡ asks_back course + 1) × (back_of (open_line course) course.out false ≡ course.out)
awaited_back course reply lacking are (ask, is, to) = by_waits course.waits (open_line course) refl refl
  where
    there : course.waits ≡ true → slice_get (open_most course) (course.out - 1) ≡ Some ask
    there waits = sym (ap (λ (waits : Bool). if waits then slice_get (open_most course) (course.out - 1) else None) waits) ∙ is

    by_waits : (waits : Bool) (line : Option Line) → course.waits ≡ waits → open_line course ≡ line
        → (course.out ≡ asks_back course + 1) × (back_of (open_line course) course.out false ≡ course.out)
    by_waits false line none opened =
        absurd (none-some ask (ap (λ (waits : Bool). if waits then slice_get (open_most course) (course.out - 1) else None) (sym none) ∙ is))
    by_waits true None waits opened =
        absurd (none-some ask (sym (ap (request_at course (course.out - 1)) opened) ∙ there waits))
    by_waits true (Some line) waits opened =
        let asked = replied_is_asked course.table course.client (state_now course) (course.asks + 1) line (course.out - 1) ask reply (sym (ap (request_at course (course.out - 1)) opened) ∙ there waits) to in
        let sent = subst (λ line. IfSome line (λ line. IsAsked line → length lacking + lacks course.waits ≡ course.out)) opened are.out in
        let one : lacks course.waits ≡ 1 = ap lacks waits in
        let some : 1 ≤ course.out = omega (arith, sent asked, one) in
        let back = all_back line course.out asked some in (
          subst (λ (T : Type 0). T) (λ j. course.out ≡ back_of (sym opened j) course.out (sym waits j) + 1) back.0,
          subst (λ line. back_of line course.out false ≡ course.out) (sym opened) back.1,
        )

-- a request is sent, so as many asks came to nothing as before
sends_none : (course : Course) (worker : ℕ) (item : Sent) → course.waits ≡ false → slice_get (open_most course) course.out ≡ Some (worker, item)
    → back_of (open_line course) (course.out + 1) (is_ask item) ≡ asks_back course + 0
sends_none course worker item none next = by_line (open_line course) refl
  where
    by_line : (line : Option Line) → open_line course ≡ line → back_of (open_line course) (course.out + 1) (is_ask item) ≡ asks_back course + 0
    by_line None opened = absurd (none-some (worker, item) (sym (ap (request_at course course.out) opened) ∙ next))
    by_line (Some line) opened =
        let same = sends_back course.table course.client (state_now course) (course.asks + 1) line course.out worker course.out item (sym (ap (request_at course course.out) opened) ∙ next) in
        subst (λ (T : Type 0). T) (λ j. back_of (sym opened j) (course.out + 1) (is_ask item) ≡ back_of (sym opened j) course.out (sym none j) + 0) (omega (arith, same))

-- A poll: what it says of how often the session asked in vain does not depend on what it says of its ends.
pub paced : (answer : Progress) (before now : Lists) (counts counts_now : Counts) (wants_room : ℕ → Type 0) (nothing : Type 0)
    → Polls (Ok answer) before now counts counts_now wants_room nothing → Share before → IsPaced (rests_by answer) before.course now.course
paced progress.Moved before now counts counts_now wants_room nothing polls share = elim polls [
  | inl own ↦ elim own.0 [
    | inl sends ↦ elim sends.course [
      | inl out ↦
          open_paced before.course now.course 0 (ap (λ (course : Course). course.answers) out)
          (subst (λ (course : Course). asks_back course ≡ asks_back before.course + 0) (sym out) (sends_none before.course sends.worker sends.item sends.waits sends.next))
      | inr last ↦ own_paced before.course now.course last.0.0 last.0.1 last.0.2 last.2
    ]
    | inr alone ↦ own_paced before.course now.course alone.answers.0 alone.answers.1 alone.answers.2 alone.unbegun
  ]
  | inr mail ↦ elim mail.0 [
    | inl by ↦
        answered_paced before.course now.course _ by.answers by.unbegun (λ asks worker clock ends.
        let sent = end_says before.course.client.level before.course.out by.reply.worker by.reply.answered asks worker clock ends in
        sent ∙ (awaited_back before.course by.reply share.lacking share.lacking_are by.of_ask).0)
    | inr drops ↦
        open_paced before.course now.course 0 (ap (λ (course : Course). course.answers) drops.course)
        (subst (λ (course : Course). asks_back course ≡ asks_back before.course + 0) (sym drops.course) (omega arith))
  ]
]
paced progress.Rest before now counts counts_now wants_room nothing polls share =
    let back = awaited_back before.course polls.0.reply share.lacking share.lacking_are polls.0.of_ask in
    open_paced before.course now.course 1 (ap (λ (course : Course). course.answers) polls.0.course)
    (subst (λ (course : Course). asks_back course ≡ asks_back before.course + 1) (sym polls.0.course) (back.1 ∙ back.0))
paced progress.NotYet before now counts counts_now wants_room nothing polls share = still_paced before.course now.course (ap (λ (lists : Lists). lists.course) polls.0)
paced progress.Ended before now counts counts_now wants_room nothing polls share = still_paced before.course now.course (ap (λ (lists : Lists). lists.course) polls.0)

-- what stands in the front of a list stands in the list
at_front : {X : Type 0} (front rest : List X) (place : ℕ) → place < length front → slice_get (front ++ rest) place ≡ slice_get front place
at_front [] rest place low = absurd (omega (arith, low))
at_front (first ∷ front) rest zero low = refl
at_front (first ∷ front) rest (suc place) low = at_front front rest place (omega (arith, low))

-- a session that went on twice, and the first time without an ask that came to nothing
pub paced_through : (rests : ℕ) (before between now : Course) → IsFront before.answers between.answers → IsFront between.answers now.answers
    → IsPaced 0 before between → IsPaced rests between now → IsPaced rests before now
paced_through rests before between now first_front then_front first second = record {
  same = λ same.
      let so_far = first.same (omega (arith, same, first_long, then_long)) in
      let more = second.same (omega (arith, same, first_long, then_long)) in
      omega (arith, so_far, more);
  next = λ more. elim (cases_lt (length between.answers) (length now.answers)) [
    | inl later ↦ second.next later
    | inr same ↦
        let none = first.next (omega (arith, more, same)) in
        let more = second.same (omega (arith, same, then_long)) in
        omega (arith, none, more)
  ];
  ends = λ place asks worker clock from there. elim (cases_lt place (length between.answers)) [
    | inl low ↦ first.ends place asks worker clock from
        (sym (ap (λ all. slice_get all place) splits ∙ at_front between.answers (drop (length between.answers) now.answers) place low) ∙ there)
    | inr high ↦ says_asks asks place (second.ends place asks worker clock high there)
  ];
}
  where
    first_long : length before.answers ≤ length between.answers
    first_long = front_short before.answers between.answers first_front

    then_long : length between.answers ≤ length now.answers
    then_long = front_short between.answers now.answers then_front

    splits : now.answers ≡ between.answers ++ drop (length between.answers) now.answers
    splits = front_splits between.answers now.answers then_front

    says_asks : (asks place : ℕ) → SaysAsks asks place between → SaysAsks asks place before
    says_asks asks place (inr (later, one)) = inr (omega (arith, later, first_long), one)
    says_asks asks place (inl (at, says)) = elim (cases_lt (length before.answers) (length between.answers)) [
      | inl later ↦ let none = first.next later in inr (omega (arith, at, later), omega (arith, none, says))
      | inr same ↦
          let so_far = first.same (omega (arith, same, first_long)) in
          inl (omega (arith, at, same, first_long), omega (arith, so_far, says))
    ]
