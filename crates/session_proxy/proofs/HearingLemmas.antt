-- Hearing a reply.
use Rattle.std.specs.Prelude.{◌≡◌, ◌⊎◌, ℕ, ◌+◌, ◌-◌, ◌^◌, ◌<◌, ◌≤◌, Bool, false, IsTrue, List, [], ◌∷◌, ◌++◌, All, flat_map, length, map, slice_get, take, Option, Some, None, IfSome, Result, Ok, Err}
use Rattle.std.specs.Global.{Vec}
use Rattle.std.specs.List.{AllZip}
use Rattle.std.proofs.Common.{◌∙◌, refl, sym, ap, subst, arith, inl, inr, append_assoc, append-nil, length-append, true≢false}
use Rattle.std.proofs.lemmas.List.{map-append}
use Rattle.std.proofs.lemmas.List.Elements.{All-append, All-cons, All-nil}
use Rattle.std.proofs.lemmas.Option.{same_Some, slice_get_within}
use Rattle.lattice_laws.specs.declared.lattice.NoMemory.{NoMemory}
use Rattle.composed_value.specs.Cell.{PlainCell}
use Rattle.placement.specs.Asked.{replicas_of}
use Rattle.placement.specs.Config.{IsOneOf}
use Rattle.session_known.specs.Lawful.{required}
use Rattle.session_known.specs.Requests.{Sent, SentAsk, asks_sent, sent_by, sent_from}
use Rattle.session_known.specs.Session.{Client, InState, Knowledge, State, after, held_puts, knows_shown, shown_of, shown_to, state_shown}
use Rattle.session_known.specs.declared.report.Answer.{Answer}
use Rattle.session_known.specs.declared.script.Level.{Level}
use Rattle.session_known.specs.declared.script.Level.TheVariants.{Causal, Committed, Eventual}
use Rattle.session_known.specs.declared.script.Line.{Line}
use Rattle.session_known.specs.declared.script.Line.TheVariants as lines
use Rattle.store_msg.specs.Reply.{IsAnswer, PlainReply, is_found}
use Rattle.store_msg.specs.declared.reply.Answered.{Answered}
use Rattle.store_msg.specs.declared.reply.Answered.TheVariants.{Again, Found}
use Rattle.store_msg.specs.declared.request.Request.{Request}
use Rattle.session_proxy.proofs.AfterLemmas.{counts_shown, ended_shown}
use Rattle.session_proxy.proofs.AskLemmas.{asks_front, awaited_is, most_is, open_asks}
use Rattle.session_proxy.proofs.AskingLemmas.{few_most, few_next, few_of_key, key_there, may_ask, out_few}
use Rattle.session_proxy.proofs.KeepsLemmas.{Parts, closed, closed_keeps, closed_share, closed_unbegun, keeps_as, keeps_open, parts_are, parts_of}
use Rattle.session_proxy.proofs.RunLemmas.{part-push, part_of-push, sent_by_replies}
use Rattle.session_proxy.proofs.SentLemmas.{take_one_more}
use Rattle.session_proxy.specs.Kept.{IsOn, Keeps}
use Rattle.session_proxy.specs.Lines.{MayRun, most_asks}
use Rattle.session_proxy.specs.Local.{AreAsks, CanHear, CanWork, Hears, KeepsAs, StaysAs, Works, WorksOf, answered_with, clock_begun, course_of, key_asked, order_asked, worker_asked}
use Rattle.session_proxy.specs.Polls.{AnswersBy, Counts, Drops, IsTaken, KeepsOne, Polls, Rests}
use Rattle.session_proxy.specs.Run.{IsAnswered, IsPartOf, IsReplied, IsReplyTo, Lacks, answer_by, answer_shown}
use Rattle.session_proxy.specs.Share.{IsAsked, IsAwaited, awaited, kept_reply, lacks, open_most, open_sent, to_worker}
use Rattle.session_proxy.specs.State.{Course, IsFixed, Lists, open_line, starting, state_now}
use Rattle.session_proxy.specs.declared.asks.Heard.{Heard}
use Rattle.session_proxy.specs.declared.asks.Heard.TheVariants as heard
use Rattle.session_proxy.specs.declared.local.Begun.{Begun}
use Rattle.session_proxy.specs.declared.local.Begun.TheVariants as ways
use Rattle.session_proxy.specs.declared.local.Local.{Local}
use Rattle.session_proxy.specs.declared.progress.Progress.{Progress}
use Rattle.session_proxy.specs.declared.progress.Progress.TheVariants as progress

-- what holds of two lists place by place holds of them one longer
zip_more : {A B : Type 0} (R : A → B → Type 0) (xs : List A) (ys : List B) (x : A) (y : B) → AllZip R xs ys → R x y → AllZip R (xs ++ x ∷ []) (ys ++ y ∷ [])
zip_more R [] [] x y are is = (is, tt)
zip_more R [] (b ∷ ys) x y are is = absurd are
zip_more R (a ∷ xs) [] x y are is = absurd are
zip_more R (a ∷ xs) (b ∷ ys) x y are is = (are.0, zip_more R xs ys x y are.1 is)

-- a session learns as much of a cell as it is shown of it
shown_alike : (session : ℕ) (level : Level) (knows : Knowledge) (key : ℕ) (cell : PlainCell)
    → knows_shown (record { session = session; level = level }) knows key (shown_of cell) ≡ knows_shown (record { session = session; level = level }) knows key (shown_to level cell)
shown_alike session Causal knows key cell = refl
shown_alike session Eventual knows key cell = refl
shown_alike session Committed knows key cell = refl

-- the state after a cell is shown
pub found_after : (client : Client) (state : State) (line : Line) (asks worker : ℕ) (cell : PlainCell) → IsAsked line
    → record { knows = knows_shown client state.knows (key_asked line) (shown_of cell); held = state.held } ≡ after client state line (answer_shown client.level asks worker (Found cell))
found_after client state (lines.Get key named) asks worker cell asked =
    ap (λ knows. record { knows = knows; held = state.held }) (shown_alike client.session client.level state.knows key cell)
found_after client state (lines.Await key session count) asks worker cell asked =
    ap (λ knows. record { knows = knows; held = state.held }) (shown_alike client.session client.level state.knows key cell)
found_after client state line asks worker cell asked = absurd asked

-- and after none is
again_after : (client : Client) (state : State) (line : Line) (level : Level) (asks worker : ℕ) (clock : List (ℕ × ℕ)) → IsAsked line
    → state ≡ after client state line (answer_shown level asks worker (Again clock))
again_after client state (lines.Get key named) level asks worker clock asked = refl
again_after client state (lines.Await key session count) level asks worker clock asked = refl
again_after client state line level asks worker clock asked = absurd asked

-- nothing of what is held changes
pub held_shown : (client : Client) (state : State) (line : Line) (level : Level) (asks worker : ℕ) (answered : Answered) → IsAsked line
    → held_puts (after client state line (answer_shown level asks worker answered)) ≡ held_puts state
held_shown client state (lines.Get key named) level asks worker (Found cell) asked = refl
held_shown client state (lines.Get key named) level asks worker (Again clock) asked = refl
held_shown client state (lines.Await key session count) level asks worker (Found cell) asked = refl
held_shown client state (lines.Await key session count) level asks worker (Again clock) asked = refl
held_shown client state line level asks worker answered asked = absurd asked

-- a get or an await is answered by the replies to its asks
asked_answered : (table : List (List ℕ)) (client : Client) (state : State) (first : ℕ) (line : Line) (answer : Answer) (its : List PlainReply) → IsAsked line
    → IsReplied client (order_asked table client line) first (key_asked line) (required client state.knows line) (most_asks table client.level (key_asked line)) answer its
    → IsAnswered table client state first line answer its
asked_answered table client state first (lines.Get key named) answer its asked is = is
asked_answered table client state first (lines.Await key session count) answer its asked is = is
asked_answered table client state first line answer its asked is = absurd asked

-- one message more is one reply more
map_more : (received : List (ℕ × PlainReply)) (sender : ℕ) (reply : PlainReply)
    → map (λ message. message.1) (received ++ (sender, reply) ∷ []) ≡ map (λ message. message.1) received ++ reply ∷ []
map_more received sender reply = map-append (λ (message : ℕ × PlainReply). message.1) received ((sender, reply) ∷ [])

module _ (lists : Lists) (session : InState) (clock : List (ℕ × ℕ)) (made : Option Request) (keeps : Keeps lists session (ways.Asks clock) made) (waits : IsTrue lists.course.waits) where
  abbrev course : Course
  course = lists.course

  abbrev line : Line
  line = keeps.stands.1

  abbrev lacking : List PlainReply
  lacking = keeps.share.lacking

  abbrev flat : List PlainReply
  flat = flat_map (λ answering. answering) keeps.share.replies

  -- a reply to the ask that is awaited
  abbrev IsToLast : PlainReply → Type 0
  IsToLast reply = IsReplyTo (worker_asked course.table course.client line (course.out - 1), SentAsk (course.asks + course.out) (key_asked line) clock) reply

  -- the line sends as many asks as it may
  most : length (open_most course) ≡ most_asks course.table course.client.level (key_asked line)
  most = most_is course line keeps.stands.2 keeps.stands.3.asked

  -- the replies to all asks before it lacked something
  out_is : length lacking + 1 ≡ course.out
  out_is =
      let counted : length lacking + lacks course.waits ≡ course.out =
      subst (λ option. IfSome option (λ line. IsAsked line → length lacking + lacks course.waits ≡ course.out)) keeps.stands.2 keeps.share.lacking_are.out keeps.stands.3.asked
      in
      subst (λ waits. length lacking + lacks waits ≡ course.out) waits counted

  -- the line that waits for it may be run
  may_hear : (its : Line) → open_line course ≡ Some its
      → MayRun course.table course.client.level its × IsAsked its × (course.out ≤ most_asks course.table course.client.level (key_asked its))
  may_hear its at = may_ask keeps (λ most. course.out ≤ most) (out_few keeps) its at

  -- some request of it was sent
  some_out : 1 ≤ course.out
  some_out = omega (arith, out_is)

  -- there are no more asks than a machine counts
  few_asks : course.asks + course.out < 2 ^ 64
  few_asks = let next = (few_next keeps).0 in omega (arith, next)

  -- the ask that is awaited
  awaited_here : awaited course ≡ Some (worker_asked course.table course.client line (course.out - 1), SentAsk (course.asks + course.out) (key_asked line) clock)
  awaited_here =
      subst (λ clock. awaited course ≡ Some (worker_asked course.table course.client line (course.out - 1), SentAsk (course.asks + course.out) (key_asked line) clock)) (sym keeps.stands.3.required_is)
      (awaited_is course line keeps.stands.2 keeps.stands.3.asked waits some_out (out_few keeps))

  -- a reply to it is the one that is awaited
  is_awaited : (reply : PlainReply) → IsToLast reply → IsAwaited course reply
  is_awaited reply is = (_, awaited_here, is)

  -- and the other way round
  is_to_last : (reply : PlainReply) → IsAwaited course reply → IsToLast reply
  is_to_last reply is = subst (λ ask. IsReplyTo ask reply) (same_Some _ _ (sym is.1 ∙ awaited_here)) is.2

  -- it is on a key that is there, of few replicas
  may_work : (reply : PlainReply) → IsAwaited course reply
      → IsOneOf (length course.table) reply.key × (length (replicas_of course.table reply.key) < 2 ^ 16) × (course.out ≤ most_asks course.table course.client.level reply.key)
  may_work reply is =
      let low : length (replicas_of course.table (key_asked line)) < 2 ^ 16 = omega (arith, few_of_key keeps, keeps.few_workers) in
      subst (λ key. IsOneOf (length course.table) key × (length (replicas_of course.table key) < 2 ^ 16) × (course.out ≤ most_asks course.table course.client.level key)) (sym (is_to_last reply is).2)
      (key_there keeps, low, out_few keeps)

  -- as many asks as it may send are on its key
  most_of : (reply : PlainReply) → IsAwaited course reply → length (open_most course) ≡ most_asks course.table course.client.level reply.key
  most_of reply is = most ∙ ap (most_asks course.table course.client.level) (sym (is_to_last reply is).2)

  -- the replies so far and this one
  abbrev with_it : PlainReply → List PlainReply
  with_it reply = lacking ++ reply ∷ []

  -- there is one for each ask
  as_many : (reply : PlainReply) → length (with_it reply) ≡ course.out
  as_many reply = length-append lacking (reply ∷ []) ∙ out_is

  -- each is to its ask
  its_asked : (reply : PlainReply) → IsAwaited course reply → AllZip IsReplyTo (take (length (with_it reply)) (open_most course)) (with_it reply)
  its_asked reply is =
      let place : course.out - 1 ≡ length lacking = omega (arith, out_is) in
      let at : slice_get (open_most course) (course.out - 1) ≡ Some is.0 = rw waits at is.1 in
      let there : slice_get (open_most course) (length lacking) ≡ Some is.0 = subst (λ i. slice_get (open_most course) i ≡ Some is.0) place at in
      let front = take_one_more (open_most course) (length lacking) is.0 there in
      subst (λ asks. AllZip IsReplyTo asks (with_it reply)) (sym front ∙ ap (λ n. take n (open_most course)) (sym (length-append lacking (reply ∷ []))))
      (zip_more IsReplyTo (take (length lacking) (open_most course)) lacking is.0 reply keeps.share.lacking_are.asked is.2)

  -- what was taken by then
  taken_part : (reply : PlainReply) (now : Lists) → IsTaken reply lists now → IsPartOf (flat ++ lacking ++ reply ∷ []) (map (λ message. message.1) now.received)
  taken_part reply now (inl (kept, same)) =
      subst (λ received. IsPartOf (flat ++ lacking ++ reply ∷ []) (map (λ message. message.1) received)) (sym same) (
      subst (λ kept. IsPartOf (flat ++ lacking ++ kept_reply kept) (map (λ message. message.1) lists.received)) kept keeps.share.received)
  taken_part reply now (inr (none, sender, more)) =
      let part : IsPartOf (flat ++ lacking ++ []) (map (λ message. message.1) lists.received) =
      subst (λ kept. IsPartOf (flat ++ lacking ++ kept_reply kept) (map (λ message. message.1) lists.received)) none keeps.share.received
      in
      subst (λ received. IsPartOf (flat ++ lacking ++ reply ∷ []) (map (λ message. message.1) received)) (sym more) (
      subst (IsPartOf (flat ++ lacking ++ reply ∷ [])) (sym (map_more lists.received sender reply)) (
      part-push (flat ++ lacking) (map (λ message. message.1) lists.received) reply
      (subst (λ part. IsPartOf part (map (λ message. message.1) lists.received)) (append-nil (flat ++ lacking)) part)))

  -- so all of them were
  its_part : (reply : PlainReply) (now : Lists) → IsTaken reply lists now → IsPartOf (flat ++ with_it reply) (map (λ message. message.1) now.received)
  its_part reply now taken = subst (λ part. IsPartOf part (map (λ message. message.1) now.received)) (append_assoc flat lacking (reply ∷ [])) (taken_part reply now taken)

  -- it keeps on asking for the line
  asks_on : (waits_now : Bool) (kept_now : Option PlainReply) (received_now : List (ℕ × PlainReply)) (lacking_now : List PlainReply)
      → AllZip IsReplyTo (take (length lacking_now) (open_most course)) lacking_now → All Lacks lacking_now → length lacking_now + lacks waits_now ≡ course.out
      → (waits_now ≡ false → course.out < length (open_most course))
      → IfSome kept_now (λ reply. IsAwaited (record course { waits = waits_now; kept = kept_now }) reply × IsTrue (is_found reply.answered))
      → IsPartOf (flat ++ lacking_now ++ kept_reply kept_now) (map (λ message. message.1) received_now)
      → Keeps (record { course = record course { waits = waits_now; kept = kept_now }; sent = lists.sent; received = received_now }) session (ways.Asks clock) made
  asks_on waits_now kept_now received_now lacking_now asked lack out left kept part =
      keeps_open keeps course.out waits_now kept_now lists.sent received_now session (ways.Asks clock) made refl keeps.client_is
      (record {
        replies = keeps.share.replies;
        lacking = lacking_now;
        few = keeps.share.few;
        answered = keeps.share.answered;
        asks = keeps.share.asks;
        lacking_are = record {
          asked = asked;
          lack = lack;
          out = subst (λ option. IfSome option (λ line. IsAsked line → length lacking_now + lacks waits_now ≡ course.out)) (sym keeps.stands.2) (λ asked. out);
          none = subst (λ option. IfSome option (λ line. (IsAsked line → ⊥) → lacking_now ≡ [])) (sym keeps.stands.2) (λ no_ask. absurd (no_ask keeps.stands.3.asked));
        };
        out = keeps.share.out;
        kept = kept;
        sent = keeps.share.sent;
        received = part;
      })
      (keeps.stands.0, line, keeps.stands.2, record { asked = keeps.stands.3.asked; left = left; required_is = keeps.stands.3.required_is }, keeps.stands.4)

  -- another's reply is dropped
  drops : (sender : ℕ) (reply : PlainReply) → Keeps (record { course = course; sent = lists.sent; received = lists.received ++ (sender, reply) ∷ [] }) session (ways.Asks clock) made
  drops sender reply =
      asks_on course.waits course.kept (lists.received ++ (sender, reply) ∷ []) lacking keeps.share.lacking_are.asked keeps.share.lacking_are.lack
      (subst (λ waits. length lacking + lacks waits ≡ course.out) (sym waits) out_is) keeps.stands.3.left keeps.share.kept
      (subst (λ whole. IsPartOf (flat ++ lacking ++ kept_reply course.kept) whole) (sym (map_more lists.received sender reply))
      (part_of-push (flat ++ lacking ++ kept_reply course.kept) (map (λ message. message.1) lists.received) reply keeps.share.received))

  module _ (reply : PlainReply) (is : IsAwaited course reply) (now : Lists) (taken : IsTaken reply lists now) where
    -- the reply lacks something, and another ask may be made
    rests : Lacks reply → course.out < length (open_most course)
        → Keeps (record { course = record course { waits = false; kept = None }; sent = lists.sent; received = now.received }) session (ways.Asks clock) made
    rests lack left =
        asks_on false None now.received (with_it reply) (its_asked reply is) (All-append Lacks lacking (reply ∷ []) keeps.share.lacking_are.lack (All-cons Lacks reply [] lack (All-nil Lacks)))
        (let many = as_many reply in omega (arith, many)) (λ none. left) tt
        (subst (λ part. IsPartOf part (map (λ message. message.1) now.received)) (sym (append-nil (flat ++ with_it reply))) (its_part reply now taken))

    -- such a reply was not kept
    none_kept : Lacks reply → course.kept ≡ None
    none_kept lack = elim taken [
      | inl kept ↦ absurd (true≢false (sym (subst (λ kept. IfSome kept (λ reply. IsAwaited course reply × IsTrue (is_found reply.answered))) kept.0 keeps.share.kept).1 ∙ lack))
      | inr none ↦ none.0
    ]

    -- the reply is kept
    keeps_reply : IsTrue (is_found reply.answered)
        → Keeps (record { course = record course { waits = course.waits; kept = Some reply }; sent = lists.sent; received = now.received }) session (ways.Asks clock) made
    keeps_reply found =
        asks_on course.waits (Some reply) now.received lacking keeps.share.lacking_are.asked keeps.share.lacking_are.lack
        (subst (λ waits. length lacking + lacks waits ≡ course.out) (sym waits) out_is) keeps.stands.3.left (is, found) (taken_part reply now taken)

    -- the answer by it
    abbrev its_answer : Answer
    its_answer = answer_by course.client.level course.out reply

    -- the reply answers the line
    answers_by : IsAnswer reply.required reply.answered → IsTrue (is_found reply.answered) ⊎ (course.out ≡ length (open_most course))
        → (session_now : InState) → session_now.client ≡ course.client → session_now.state ≡ after course.client (state_now course) line its_answer
        → Keeps (record { course = closed course its_answer (course.asks + course.out); sent = lists.sent; received = now.received }) session_now ways.Nothing None
    answers_by fits ends session_now client state =
        let S : State = state_now course in
        let its : List PlainReply = with_it reply in
        let asked : IsAsked line = keeps.stands.3.asked in
        let needs : List (ℕ × ℕ) = required course.client S.knows line in
        let order : List ℕ = order_asked course.table course.client line in
        let count : ℕ = most_asks course.table course.client.level (key_asked line) in
        let many : length its ≡ course.out = as_many reply in
        let within : length its ≤ count = omega (arith, many, out_few keeps) in
        let front : take (length its) (open_most course) ≡ asks_sent order (course.asks + 1) (key_asked line) needs (length its) =
        ap (take (length its)) (open_asks course line keeps.stands.2 asked) ∙ asks_front order (course.asks + 1) (key_asked line) needs (length its) count within
        in
        let answered : IsAnswered course.table course.client S (course.asks + 1) line its_answer its =
        asked_answered course.table course.client S (course.asks + 1) line its_answer its asked (record {
          lacking = lacking;
          last = reply;
          replies_are = refl;
          asked = subst (λ asks. AllZip IsReplyTo asks its) front (its_asked reply is);
          lack = keeps.share.lacking_are.lack;
          fits = subst (λ clock. IsAnswer clock reply.answered) ((is_to_last reply is).3 ∙ keeps.stands.3.required_is) fits;
          few = within;
          ends = elim ends [
            | inl found ↦ inl found
            | inr all ↦ inr (many ∙ all ∙ most)
          ];
          answer_is = ap (λ n. answer_by course.client.level n reply) (sym many);
        })
        in
        let so_far : List (ℕ × Sent) = sent_from course.table course.client (starting course) 1 (map length keeps.share.replies) course.lines course.answers in
        let sends : open_sent course ≡ sent_by course.table course.client S (course.asks + 1) (length its) line its_answer =
        ap (λ n. take n (open_most course)) (sym many) ∙ front ∙ sym (sent_by_replies course.table course.client S (course.asks + 1) line its_answer its asked answered)
        in
        let counted : course.asks + course.out ≡ course.asks + length its = ap (λ n. course.asks + n) (sym many) in
        let share = closed_share lists line keeps.stands.2 its_answer its (course.asks + course.out) counted lists.sent now.received keeps.share answered
        (λ w of. keeps.share.sent w of ∙ ap (λ back. to_worker w (so_far ++ back)) sends) (its_part reply now taken)
        in
        closed_keeps lists line keeps.stands.2 its_answer its (course.asks + course.out) counted lists.sent now.received session (ways.Asks clock) made session_now keeps share refl
        (omega (arith, within, few_most keeps)) client state
        (λ others ended. ended_shown course.client S line others course.client.level course.out reply.worker reply.answered asked ended)
        (λ key. omega (arith, counts_shown course.client S line key course.client.level course.out reply.worker reply.answered asked))
        (subst (All (IsOn course.table)) (sym (held_shown course.client S line course.client.level course.out reply.worker reply.answered asked)) keeps.held)

-- what was begun, where it is an ask
asks_begun : (begun : Begun) → AreAsks begun → begun ≡ ways.Asks (clock_begun begun)
asks_begun (ways.Asks clock) asks = refl
asks_begun begun asks = absurd asks

module _ (local : Local) (answers : Vec Answer) (items : answers.items ≡ local.answers.items) (sent : List (List Request)) (received : List (ℕ × PlainReply))
    (keeps_local : Keeps (record { course = course_of local; sent = sent; received = received }) local.session local.begun local.made) (asks : AreAsks local.begun) (waits : IsTrue local.waits) where
  -- once there is room for one more answer
  abbrev before : Local
  before = record local { answers = answers }

  abbrev clock_now : List (ℕ × ℕ)
  clock_now = clock_begun before.begun

  abbrev lists_with : Local → List (ℕ × PlainReply) → Lists
  lists_with local received = record { course = course_of local; sent = sent; received = received }

  -- all stays as it was
  reserved : course_of before ≡ course_of local
  reserved = ap (λ items. record (course_of local) { answers = items }) items

  -- so what it keeps does
  keeps_before : Keeps (lists_with before received) before.session before.begun before.made
  keeps_before = subst (λ course. Keeps (record { course = course; sent = sent; received = received }) before.session before.begun before.made) (sym reserved) keeps_local

  -- with the ask that was begun
  keeps_asks : Keeps (lists_with before received) before.session (ways.Asks clock_now) before.made
  keeps_asks = subst (λ begun. Keeps (lists_with before received) before.session begun before.made) (asks_begun before.begun asks) keeps_before

  -- a reply to its last ask can be told from others
  pub can_hear : CanHear before
  can_hear = record {
    asks = asks;
    left = slice_get_within before.lines (length before.answers.items) keeps_asks.stands.1 keeps_asks.stands.2;
    some = some_out (lists_with before received) before.session clock_now before.made keeps_asks waits;
    line = may_hear (lists_with before received) before.session clock_now before.made keeps_asks waits;
    session = subst (λ client. 1 ≤ client.session) (sym keeps_before.client_is) keeps_before.me;
    few = few_asks (lists_with before received) before.session clock_now before.made keeps_asks waits;
  }

  module _ (taken : Local) (received_now : List (ℕ × PlainReply)) where
    -- what is heard of the reply to the open line's last ask
    abbrev HearsAt : Result Heard NoMemory → Type 0
    HearsAt result = (line : Line) → open_line (course_of before) ≡ Some line → Hears result before taken received received_now
        (IsReplyTo (worker_asked before.placement before.session.client line (before.out - 1), SentAsk (before.asks + before.out) (key_asked line) (clock_begun before.begun)))

    -- what no call changes stays
    fixed_to : (now : Local) (to : Course) → course_of now ≡ to → to.client ≡ before.session.client → to.table ≡ before.placement → to.lines ≡ before.lines → to.origin ≡ (course_of before).origin
        → IsFixed (course_of local) (course_of now)
    fixed_to now to is client table lines origin = record {
      client = ap (λ course. course.client) is ∙ client ∙ ap (λ course. course.client) reserved;
      table = ap (λ course. course.table) is ∙ table ∙ ap (λ course. course.table) reserved;
      lines = ap (λ course. course.lines) is ∙ lines ∙ ap (λ course. course.lines) reserved;
      origin = ap (λ course. course.origin) is ∙ origin ∙ ap (λ course. course.origin) reserved;
    }

    -- where all stays but the room for an answer
    keeps_taken : StaysAs before taken → received_now ≡ received → Keeps (lists_with taken received_now) taken.session taken.begun taken.made
    keeps_taken stays same =
        keeps_as taken sent received_now (course_of before) before.session before.begun before.made stays
        (subst (λ received. Keeps (lists_with before received) before.session before.begun before.made) (sym same) keeps_before)

    -- want of memory changes nothing
    pub hears_want : (want : NoMemory) → HearsAt (Err want) → Keeps (lists_with taken received_now) taken.session taken.begun taken.made
    hears_want want hears =
        let is = hears keeps_asks.stands.1 keeps_asks.stands.2 in
        keeps_taken is.0 is.1

    -- nor does an empty box
    pub hears_nothing : (was : Heard) → was ≡ heard.Nothing → HearsAt (Ok was)
        → Keeps (lists_with taken received_now) taken.session taken.begun taken.made × IsFixed (course_of local) (course_of taken)
        × (lists_with taken received_now ≡ lists_with local received) × (local.kept ≡ None)
    hears_nothing was nothing hears =
        let is = subst (λ was. HearsAt (Ok was)) nothing hears keeps_asks.stands.1 keeps_asks.stands.2 in
        let course : course_of taken ≡ course_of local = is.1.course_is ∙ reserved in (
          keeps_taken is.1 is.2,
          fixed_to taken (course_of before) is.1.course_is refl refl refl refl,
          λ i. record { course = course i; sent = sent; received = is.2 i },
          sym (ap (λ course. course.kept) reserved) ∙ is.0,
        )

    -- another's reply is dropped
    pub hears_other : (was : Heard) → was ≡ heard.Other → HearsAt (Ok was)
        → Keeps (lists_with taken received_now) taken.session taken.begun taken.made × IsFixed (course_of local) (course_of taken)
        × Drops (lists_with local received) (lists_with taken received_now)
    hears_other was other hears =
        let is = subst (λ was. HearsAt (Ok was)) other hears keeps_asks.stands.1 keeps_asks.stands.2 in
        let dropped = drops (lists_with before received) before.session clock_now before.made keeps_asks waits is.2 is.3 in
        let kept : Keeps (lists_with before received_now) before.session (ways.Asks clock_now) before.made =
        subst (λ received. Keeps (lists_with before received) before.session (ways.Asks clock_now) before.made) (sym is.5) dropped
        in
        let drop : Drops (lists_with before received) (lists_with taken received_now) = record {
          waits = waits;
          reply = is.3;
          taken = inr (is.0, is.2, is.5);
          of_other = λ awaited. is.4 (is_to_last (lists_with before received) before.session clock_now before.made keeps_asks waits is.3 awaited);
          course = is.1.course_is;
          sent = refl;
        }
        in (
          keeps_as taken sent received_now (course_of before) before.session before.begun before.made is.1
              (subst (λ begun. Keeps (lists_with before received_now) before.session begun before.made) (sym (asks_begun before.begun asks)) kept),
          fixed_to taken (course_of before) is.1.course_is refl refl refl refl,
          subst (λ course. Drops (record { course = course; sent = sent; received = received }) (lists_with taken received_now)) reserved drop,
        )

    -- The awaited reply is worked on.
    module _ (was : Heard) (reply : PlainReply) (awaited_was : was ≡ heard.Awaited reply) (hears : HearsAt (Ok was)) where
      -- it is taken out of the box, or where it was kept
      heard_it : KeepsAs taken (record (course_of before) { kept = None }) before.session before.begun before.made
          × IsTaken reply (lists_with before received) (lists_with taken received_now) × IsAwaited (course_of before) reply
      heard_it = elim (subst (λ was. HearsAt (Ok was)) awaited_was hears keeps_asks.stands.1 keeps_asks.stands.2) [
        | inl kept ↦ (
          kept.1,
          inl (kept.0, kept.2),
          (subst (λ kept. IfSome kept (λ reply. IsAwaited (course_of before) reply × IsTrue (is_found reply.answered))) kept.0 keeps_asks.share.kept).0,
        )
        | inr new ↦ (
          record { course_is = new.2.course_is ∙ ap (λ kept. record (course_of before) { kept = kept }) new.0; session_is = new.2.session_is; begun_is = new.2.begun_is; made_is = new.2.made_is },
          inr (new.0, new.3, new.4),
          is_awaited (lists_with before received) before.session clock_now before.made keeps_asks waits reply new.1,
        )
      ]

      -- all else stays
      parts_taken : let parts : Parts = (record (course_of before) { kept = None }, before.session, before.begun, before.made) in parts_of taken ≡ parts
      parts_taken = parts_are taken (record (course_of before) { kept = None }) before.session before.begun before.made heard_it.0

      -- it can be worked on, and as many lines are answered as before
      pub its_work : CanWork taken reply × (taken.answers.items ≡ before.answers.items)
      its_work =
          let fit = may_work (lists_with before received) before.session clock_now before.made keeps_asks waits reply heard_it.2 in
          let all = subst (λ course. IsOneOf (length course.table) reply.key × (length (replicas_of course.table reply.key) < 2 ^ 16)
          × (course.out ≤ most_asks course.table course.client.level reply.key) × (course.asks + course.out < 2 ^ 64) × (course.kept ≡ None) × (course.answers ≡ before.answers.items))
          (sym heard_it.0.course_is) (fit.0, fit.1, fit.2, can_hear.few, refl, refl)
          in
          (record { key = all.0; few = all.1; most = all.2; asks = all.3; none_kept = all.4 }, all.5)

      module _ (now : Local) (fits : IsAnswer reply.required reply.answered) (counts counts_now : Counts) (wants_room : ℕ → Type 0) (nothing : Type 0) (fulls : counts_now.fulls ≡ counts.fulls) where
        -- what a call keeps, leaves and does
        abbrev IsHeard : Result Progress NoMemory → Type 0
        IsHeard result =
            Keeps (lists_with now received_now) now.session now.begun now.made × IsFixed (course_of local) (course_of now)
            × Polls result (lists_with local received) (lists_with now received_now) counts counts_now wants_room nothing

        abbrev answer_now : Answer
        answer_now = answer_by before.session.client.level before.out reply

        -- the line is answered by it
        closes_by : (session_now : InState) → KeepsAs now (closed (course_of before) answer_now (before.asks + before.out)) session_now ways.Nothing before.made
            → session_now.client ≡ before.session.client → session_now.state ≡ after before.session.client (state_now (course_of before)) keeps_asks.stands.1 answer_now
            → IsTrue (is_found reply.answered) ⊎ (before.out ≡ length (open_most (course_of before))) → IsHeard (Ok progress.Moved)
        closes_by session_now is client state ends =
            let kept = answers_by (lists_with before received) before.session clock_now before.made keeps_asks waits reply heard_it.2 (lists_with taken received_now) heard_it.1
            fits ends session_now client state
            in
            let by : AnswersBy (lists_with before received) (lists_with now received_now) = record {
              reply = reply;
              taken = heard_it.1;
              of_ask = heard_it.2;
              ends = ends;
              answers = ap (λ course. course.answers) is.course_is;
              unbegun = closed_unbegun (course_of before) (course_of now) answer_now (before.asks + before.out) is.course_is;
              sent = refl;
            }
            in (
              keeps_as now sent received_now (closed (course_of before) answer_now (before.asks + before.out)) session_now ways.Nothing before.made is
                  (subst (λ made. Keeps (record { course = closed (course_of before) answer_now (before.asks + before.out); sent = sent; received = received_now }) session_now ways.Nothing made)
                  (sym keeps_asks.stands.4) kept),
              fixed_to now (closed (course_of before) answer_now (before.asks + before.out)) is.course_is refl refl refl refl,
              inr (inl (subst (λ course. AnswersBy (record { course = course; sent = sent; received = received }) (lists_with now received_now)) reserved by), fulls),
            )

        -- so it is where a cell is found
        works_found : (cell : PlainCell) → reply.answered ≡ Found cell → KeepsAs now (closed (course_of before) answer_now (before.asks + before.out))
            (record { client = before.session.client; state = state_shown before.session reply.key (shown_of cell) }) ways.Nothing before.made → IsHeard (Ok progress.Moved)
        works_found cell is works =
            let client : Client = before.session.client in
            let line : Line = keeps_asks.stands.1 in
            let key : reply.key ≡ key_asked line = (is_to_last (lists_with before received) before.session clock_now before.made keeps_asks waits reply heard_it.2).2 in
            let shows : State → ℕ → State = λ state key. record { knows = knows_shown client state.knows key (shown_of cell); held = state.held } in
            let state = ap (shows before.session.state) key ∙ ap (λ state. shows state (key_asked line)) keeps_asks.stands.0
            ∙ found_after client (state_now (course_of before)) line before.out reply.worker cell keeps_asks.stands.3.asked
            ∙ ap (λ answered. after client (state_now (course_of before)) line (answer_shown client.level before.out reply.worker answered)) (sym is)
            in
            closes_by (record { client = client; state = state_shown before.session reply.key (shown_of cell) }) works refl state (inl (ap is_found is))

        -- and where none is, after the last ask
        works_again : (clock : List (ℕ × ℕ)) → reply.answered ≡ Again clock → before.out ≡ most_asks before.placement before.session.client.level reply.key
            → KeepsAs now (closed (course_of before) answer_now (before.asks + before.out)) before.session ways.Nothing before.made → IsHeard (Ok progress.Moved)
        works_again clock is all works =
            let client : Client = before.session.client in
            let line : Line = keeps_asks.stands.1 in
            let state = keeps_asks.stands.0 ∙ again_after client (state_now (course_of before)) line client.level before.out reply.worker clock keeps_asks.stands.3.asked
            ∙ ap (λ answered. after client (state_now (course_of before)) line (answer_shown client.level before.out reply.worker answered)) (sym is)
            in
            closes_by before.session works refl state (inr (all ∙ sym (most_of (lists_with before received) before.session clock_now before.made keeps_asks waits reply heard_it.2)))

        -- else another ask is to be made
        works_rest : (clock : List (ℕ × ℕ)) → reply.answered ≡ Again clock → before.out < most_asks before.placement before.session.client.level reply.key
            → KeepsAs now (record (course_of before) { waits = false; kept = None }) before.session before.begun before.made → IsHeard (Ok progress.Rest)
        works_rest clock is less works =
            let lack : Lacks reply = ap is_found is in
            let most = most_of (lists_with before received) before.session clock_now before.made keeps_asks waits reply heard_it.2 in
            let left : before.out < length (open_most (course_of before)) = omega (arith, less, most) in
            let kept = rests (lists_with before received) before.session clock_now before.made keeps_asks waits reply heard_it.2 (lists_with taken received_now) heard_it.1 lack left in
            let none = none_kept (lists_with before received) before.session clock_now before.made keeps_asks waits reply heard_it.2 (lists_with taken received_now) heard_it.1 lack in
            let rest : Rests (lists_with before received) (lists_with now received_now) = record {
              reply = reply;
              taken = heard_it.1;
              of_ask = heard_it.2;
              lacks = lack;
              left = left;
              course = works.course_is ∙ ap (λ kept. record (course_of before) { waits = false; kept = kept }) (sym none);
              sent = refl;
            }
            in (
              keeps_as now sent received_now (record (course_of before) { waits = false; kept = None }) before.session before.begun before.made works
                  (subst (λ begun. Keeps (record { course = record (course_of before) { waits = false; kept = None }; sent = sent; received = received_now }) before.session begun before.made)
                  (sym (asks_begun before.begun asks)) kept),
              fixed_to now (record (course_of before) { waits = false; kept = None }) works.course_is refl refl refl refl,
              (subst (λ course. Rests (record { course = course; sent = sent; received = received }) (lists_with now received_now)) reserved rest, fulls),
            )

        -- it is kept where memory is wanting
        works_want : (want : NoMemory) (cell : PlainCell) → reply.answered ≡ Found cell
            → KeepsAs now (record (course_of before) { kept = Some reply }) before.session before.begun before.made → IsHeard (Err want)
        works_want want cell is works =
            let kept = keeps_reply (lists_with before received) before.session clock_now before.made keeps_asks waits reply heard_it.2 (lists_with taken received_now) heard_it.1 (ap is_found is) in
            let kept_now : now.kept ≡ Some reply = ap (λ course. course.kept) works.course_is in
            let one : KeepsOne (lists_with before received) (lists_with now received_now) = elim heard_it.1 [
              | inl was ↦ inl (kept_now ∙ sym was.0, was.1)
              | inr new ↦ inr (new.1, reply, new.0, kept_now, new.2)
            ] in
            let course : course_of now ≡ record (course_of before) { kept = now.kept } = works.course_is ∙ ap (λ kept. record (course_of before) { kept = kept }) (sym kept_now) in (
              keeps_as now sent received_now (record (course_of before) { kept = Some reply }) before.session before.begun before.made works
                  (subst (λ begun. Keeps (record { course = record (course_of before) { kept = Some reply }; sent = sent; received = received_now }) before.session begun before.made)
                  (sym (asks_begun before.begun asks)) kept),
              fixed_to now (record (course_of before) { kept = Some reply }) works.course_is refl refl refl refl,
              subst (λ course. (course_of now ≡ record course { kept = now.kept }) × (sent ≡ sent) × KeepsOne (record { course = course; sent = sent; received = received }) (lists_with now received_now))
                  reserved (course, refl, one),
            )

        -- as its work says
        works_on : (result : Result Progress NoMemory) (answered : Answered) → reply.answered ≡ answered → WorksOf result taken.placement answered reply taken now → IsHeard result
        works_on (Ok progress.Moved) (Found cell) is works =
            works_found cell is (subst (λ (parts : Parts). KeepsAs now (record (answered_with parts.0 (answer_by parts.1.client.level parts.0.out reply)) { asks = parts.0.asks + parts.0.out })
            (record { client = parts.1.client; state = state_shown parts.1 reply.key (shown_of cell) }) ways.Nothing parts.3) parts_taken works)
        works_on (Ok progress.Moved) (Again clock) is works =
            let all = subst (λ course. course.out ≡ most_asks course.table course.client.level reply.key) heard_it.0.course_is works.0 in
            works_again clock is all (
            subst (λ (parts : Parts). KeepsAs now (record (answered_with parts.0 (answer_by parts.0.client.level parts.0.out reply)) { asks = parts.0.asks + parts.0.out }) parts.1 ways.Nothing parts.3)
            parts_taken works.1)
        works_on (Ok progress.Rest) (Again clock) is works =
            let less = subst (λ course. course.out < most_asks course.table course.client.level reply.key) heard_it.0.course_is works.0 in
            works_rest clock is less (subst (λ (parts : Parts). KeepsAs now (record parts.0 { waits = false }) parts.1 parts.2 parts.3) parts_taken works.1)
        works_on (Err want) (Found cell) is works =
            works_want want cell is (subst (λ (parts : Parts). KeepsAs now (record parts.0 { kept = Some reply }) parts.1 parts.2 parts.3) parts_taken works)
        works_on result answered is works = absurd works

        -- so by what is worked on
        pub works_at : (result : Result Progress NoMemory) → Works result reply taken now → IsHeard result
        works_at result works = works_on result reply.answered refl works
