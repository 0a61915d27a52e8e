-- What a proxy keeps while its open line stays open, and once it is answered.
use Rattle.std.specs.Prelude.{◌≡◌, ℕ, ◌+◌, ◌*◌, ◌-◌, ◌≤◌, ◌<◌, Bool, false, is_some, List, [], ◌∷◌, ◌++◌, All, drop, flat_map, length, map, slice_index_or, sum_by, unwrap_or, option_map, Option, Some, None, IfSome}
use Rattle.std.proofs.Common.{◌∙◌, refl, sym, ap, subst, arith, append-nil, length-append}
use Rattle.std.proofs.lemmas.Grind.{flat_map-append}
use Rattle.std.proofs.lemmas.List.Elements.{All-nil}
use Rattle.std.proofs.lemmas.List.Sums.{sum_by-append, sum_by-cons}
use Rattle.std.proofs.lemmas.Option.{get_or_from_slice_get, slice_get_within}
use Rattle.placement.specs.Config.{IsOneOf}
use Rattle.session_known.specs.Requests.{Sent, sent_by, sent_from}
use Rattle.session_known.specs.Script.{AreEnded}
use Rattle.session_known.specs.Session.{InState, after, held_puts, own_count}
use Rattle.session_known.specs.declared.report.Answer.{Answer}
use Rattle.session_known.specs.declared.script.Line.{Line}
use Rattle.store_msg.specs.Reply.{PlainReply}
use Rattle.store_msg.specs.declared.request.Request.{Request}
use Rattle.session_proxy.proofs.RunLemmas.{answered-push, sent-push, state_after-push}
use Rattle.session_proxy.proofs.SentLemmas.{drop_one_more}
use Rattle.session_proxy.specs.Kept.{IsOn, Keeps, Stands}
use Rattle.session_proxy.specs.Lines.{AreReplicas, MayRun, most_sent}
use Rattle.session_proxy.specs.Local.{KeepsAs, course_of}
use Rattle.session_proxy.specs.Polls.{IsUnbegun}
use Rattle.session_proxy.specs.Run.{IsAnswered, IsPartOf, Lacks}
use Rattle.session_proxy.specs.Share.{AreLacking, Share, lacks, open_most, to_worker}
use Rattle.session_proxy.specs.State.{Course, Lists, open_line, starting, state_now}
use Rattle.session_proxy.specs.declared.local.Begun.{Begun}
use Rattle.session_proxy.specs.declared.local.Begun.TheVariants as ways
use Rattle.session_proxy.specs.declared.local.Local.{Local}

-- what holds of everything holds of what is there
if_some : {X : Type 0} {P : X → Type 0} (option : Option X) → ((x : X) → P x) → IfSome option P
if_some None holds = tt
if_some (Some x) holds = holds x

-- the course once the open line is answered, and its asks are counted
abbrev pub closed : Course → Answer → ℕ → Course
closed course answer asks = record { client = course.client; table = course.table; lines = course.lines; origin = course.origin; answers = course.answers ++ answer ∷ []; asks = asks; out = 0; waits = false; kept = None }

-- the next line is not begun then
pub closed_unbegun : (course now : Course) (answer : Answer) (asks : ℕ) → now ≡ closed course answer asks → IsUnbegun now
closed_unbegun course now answer asks is = record { out = ap (λ (course : Course). course.out) is; waits = ap (λ (course : Course). course.waits) is; kept = ap (λ (course : Course). course.kept) is }

-- a line that is not begun lacks nothing
pub none_lacking : (course : Course) → course.out ≡ 0 → course.waits ≡ false → AreLacking course []
none_lacking course out waits = record {
  asked = tt;
  lack = All-nil Lacks;
  out = if_some (open_line course) (λ line asked. let lacks_none = ap lacks waits in omega (arith, lacks_none, out));
  none = if_some (open_line course) (λ line no_ask. refl);
}

-- the requests of the open line
pub open_most_is : (course : Course) (line : Line) → open_line course ≡ Some line → open_most course ≡ most_sent course.table course.client (state_now course) (course.asks + 1) line
open_most_is course line at = ap (λ option. unwrap_or (option_map (most_sent course.table course.client (state_now course) (course.asks + 1)) option) []) at

module _ (lists : Lists) (line : Line) (at : open_line lists.course ≡ Some line) (answer : Answer) (its : List PlainReply) (asks : ℕ) (asks_are : asks ≡ lists.course.asks + length its)
    (sent : List (List Request)) (received : List (ℕ × PlainReply)) where
  -- the state after the line
  pub closed_state : state_now (closed lists.course answer asks) ≡ after lists.course.client (state_now lists.course) line answer
  closed_state = state_after-push lists.course.client (starting lists.course) lists.course.lines lists.course.answers line answer at

  -- its share, once the line is answered by replies
  pub closed_share : (share : Share lists) → IsAnswered lists.course.table lists.course.client (state_now lists.course) (lists.course.asks + 1) line answer its
      → ((w : ℕ) → IsOneOf (length sent) w → slice_index_or sent (w - 1) [] ≡ to_worker w (sent_from lists.course.table lists.course.client (starting lists.course) 1 (map length share.replies) lists.course.lines lists.course.answers
      ++ sent_by lists.course.table lists.course.client (state_now lists.course) (lists.course.asks + 1) (length its) line answer))
      → IsPartOf (flat_map (λ answering. answering) share.replies ++ its) (map (λ message. message.1) received)
      → Share (record { course = closed lists.course answer asks; sent = sent; received = received })
  closed_share share answered sends part =
      let first : lists.course.asks + 1 ≡ 1 + sum_by length share.replies = omega (arith, share.asks) in
      let within : length lists.course.answers < length lists.course.lines = slice_get_within lists.course.lines (length lists.course.answers) line at in
      let one : length (lists.course.answers ++ answer ∷ []) ≡ length lists.course.answers + 1 = length-append lists.course.answers (answer ∷ []) in
      let flat : flat_map (λ (answering : List PlainReply). answering) (share.replies ++ its ∷ []) ≡ flat_map (λ (answering : List PlainReply). answering) share.replies ++ its =
      flat_map-append (λ (answering : List PlainReply). answering) share.replies (its ∷ []) ∙ ap (λ back. flat_map (λ (answering : List PlainReply). answering) share.replies ++ back) (append-nil its)
      in
      let said : sum_by length (share.replies ++ its ∷ []) ≡ sum_by length share.replies + length its =
      let last = sum_by-cons length its [] in
      let all = sum_by-append length share.replies (its ∷ []) in
      omega (arith, last, all)
      in
      let sent_so_far : List (ℕ × Sent) = sent_from lists.course.table lists.course.client (starting lists.course) 1 (map length share.replies) lists.course.lines lists.course.answers in
      record {
        replies = share.replies ++ its ∷ [];
        lacking = [];
        few = omega (arith, within, one);
        answered = answered-push lists.course.table lists.course.client (starting lists.course) 1 lists.course.lines lists.course.answers share.replies line answer its at share.answered
            (subst (λ n. IsAnswered lists.course.table lists.course.client (state_now lists.course) n line answer its) first answered);
        asks = asks_are ∙ ap (λ n. n + length its) share.asks ∙ sym said;
        lacking_are = none_lacking (closed lists.course answer asks) refl refl;
        out = omega arith;
        kept = tt;
        sent = λ w of. sends w of ∙ ap (to_worker w) (
            ap (λ n. sent_so_far ++ sent_by lists.course.table lists.course.client (state_now lists.course) n (length its) line answer) first
            ∙ sym (sent-push lists.course.table lists.course.client (starting lists.course) 1 lists.course.lines lists.course.answers share.replies line answer its at share.answered) ∙ sym (append-nil _));
        received = subst (λ part. IsPartOf part (map (λ message. message.1) received)) (sym flat ∙ sym (append-nil _) ∙ sym (append-nil _)) part;
      }

  -- what it keeps, once the line is answered
  pub closed_keeps : (session : InState) (begun : Begun) (made : Option Request) (session_now : InState) → Keeps lists session begun made → Share (record { course = closed lists.course answer asks; sent = sent; received = received })
      → length sent ≡ length lists.sent → length its ≤ 8 * length lists.sent
      → session_now.client ≡ lists.course.client → session_now.state ≡ after lists.course.client (state_now lists.course) line answer
      → ((others : List Line) → AreEnded (is_some (state_now lists.course).held) (line ∷ others) → AreEnded (is_some (after lists.course.client (state_now lists.course) line answer).held) others)
      → ((key : ℕ) → own_count (after lists.course.client (state_now lists.course) line answer).knows key + length (held_puts (after lists.course.client (state_now lists.course) line answer))
      ≤ own_count (state_now lists.course).knows key + length (held_puts (state_now lists.course)) + 1)
      → All (IsOn lists.course.table) (held_puts (after lists.course.client (state_now lists.course) line answer))
      → Keeps (record { course = closed lists.course answer asks; sent = sent; received = received }) session_now ways.Nothing None
  closed_keeps session begun made session_now keeps share as_many few client state ends counts held =
      let one : length (lists.course.answers ++ answer ∷ []) ≡ length lists.course.answers + 1 = length-append lists.course.answers (answer ∷ []) in
      record {
        share = share;
        client_is = client;
        me = keeps.me;
        few_lines = keeps.few_lines;
        valid = keeps.valid;
        ended = subst (λ n. AreEnded (is_some (state_now (closed lists.course answer asks)).held) (drop n lists.course.lines)) (sym one) (
            subst (λ state. AreEnded (is_some state.held) (drop (length lists.course.answers + 1) lists.course.lines)) (sym closed_state) (
            ends (drop (length lists.course.answers + 1) lists.course.lines) (subst (AreEnded (is_some (state_now lists.course).held)) (drop_one_more lists.course.lines (length lists.course.answers) line at) keeps.ended)));
        placed = subst (λ workers. All (AreReplicas workers) lists.course.table) (sym as_many) keeps.placed;
        few_workers = omega (arith, as_many, keeps.few_workers);
        counts = λ key.
            let before = keeps.counts key in
            let now = counts key in
            let total : own_count (after lists.course.client (state_now lists.course) line answer).knows key + length (held_puts (after lists.course.client (state_now lists.course) line answer)) ≤ length (lists.course.answers ++ answer ∷ []) = omega (arith, before, now, one) in
            subst (λ state. own_count state.knows key + length (held_puts state) ≤ length (lists.course.answers ++ answer ∷ [])) (sym closed_state) total;
        held = subst (λ state. All (IsOn lists.course.table) (held_puts state)) (sym closed_state) held;
        few_asks =
            let most : ℕ = 8 * length lists.sent in
            let split : (length lists.course.answers + 1) * most ≡ length lists.course.answers * most + most = grind arith in
            let before : lists.course.asks ≤ length lists.course.answers * most = keeps.few_asks in
            let now : asks ≤ (length lists.course.answers + 1) * most = omega (arith, asks_are, before, few, split) in
            subst (λ workers. asks ≤ length (lists.course.answers ++ answer ∷ []) * (8 * workers)) (sym as_many) (subst (λ n. asks ≤ n * most) (sym one) now);
        stands = (state ∙ sym closed_state, refl, record { waits = refl; kept = refl }, refl);
      }

-- what it keeps while the line stays open: its share holds again, and what was begun stands
pub keeps_open : {lists : Lists} {session : InState} {begun : Begun} {made : Option Request} → Keeps lists session begun made
    → (out : ℕ) (waits : Bool) (kept : Option PlainReply) (sent : List (List Request)) (received : List (ℕ × PlainReply)) (session_now : InState) (begun_now : Begun) (made_now : Option Request)
    → length sent ≡ length lists.sent → session_now.client ≡ lists.course.client → Share (record { course = record lists.course { out = out; waits = waits; kept = kept }; sent = sent; received = received })
    → Stands (record lists.course { out = out; waits = waits; kept = kept }) session_now.state begun_now made_now
    → Keeps (record { course = record lists.course { out = out; waits = waits; kept = kept }; sent = sent; received = received }) session_now begun_now made_now
keeps_open {lists} keeps out waits kept sent received session_now begun_now made_now as_many client share stands = record {
  share = share;
  client_is = client;
  me = keeps.me;
  few_lines = keeps.few_lines;
  valid = keeps.valid;
  ended = keeps.ended;
  placed = subst (λ workers. All (AreReplicas workers) lists.course.table) (sym as_many) keeps.placed;
  few_workers = omega (arith, as_many, keeps.few_workers);
  counts = keeps.counts;
  held = keeps.held;
  few_asks = subst (λ workers. lists.course.asks ≤ length lists.course.answers * (8 * workers)) (sym as_many) keeps.few_asks;
  stands = stands;
}

-- the open line is one that the session may have
pub may_run : (lists : Lists) (line : Line) → open_line lists.course ≡ Some line → (session : InState) (begun : Begun) (made : Option Request) → Keeps lists session begun made → MayRun lists.course.table lists.course.client.level line
may_run lists line at session begun made keeps =
    subst (MayRun lists.course.table lists.course.client.level) (get_or_from_slice_get lists.course.lines (length lists.course.answers) line line at)
    (keeps.valid (length lists.course.answers) line (slice_get_within lists.course.lines (length lists.course.answers) line at))

-- what a proxy keeps by itself, as one value
abbrev pub Parts : Type 0
Parts = Course × InState × Begun × Option Request

abbrev pub parts_of : Local → Parts
parts_of local = (course_of local, local.session, local.begun, local.made)

-- it is what it keeps them as
pub parts_are : (now : Local) (to : Course) (session : InState) (begun : Begun) (made : Option Request) → KeepsAs now to session begun made
    → let parts : Parts = (to, session, begun, made) in parts_of now ≡ parts
parts_are now to session begun made is = λ i. (is.course_is i, is.session_is i, is.begun_is i, is.made_is i)

-- and what holds of that holds of the proxy
pub keeps_as : (now : Local) (sent : List (List Request)) (received : List (ℕ × PlainReply)) (to : Course) (session : InState) (begun : Begun) (made : Option Request) → KeepsAs now to session begun made
    → Keeps (record { course = to; sent = sent; received = received }) session begun made
    → Keeps (record { course = course_of now; sent = sent; received = received }) now.session now.begun now.made
keeps_as now sent received to session begun made is keeps =
    subst (λ (parts : Parts). Keeps (record { course = parts.0; sent = sent; received = received }) parts.1 parts.2 parts.3) (sym (parts_are now to session begun made is)) keeps
