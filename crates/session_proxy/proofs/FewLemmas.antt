-- A session sends no more requests than its lines may send.
use Rattle.std.specs.Prelude.{◌≡◌, ℕ, ◌+◌, ◌-◌, ◌<◌, ◌≤◌, is_some, ◌||◌, List, [], ◌∷◌, ◌++◌, drop, length, map, slice_index_or, sum_by, option_map, unwrap_or, Option, Some, None}
use Rattle.std.specs.List.{range_with_len}
use Rattle.std.proofs.Common.{◌∙◌, refl, sym, ap, arith, length-append}
use Rattle.std.proofs.lemmas.List.{length-map, length-take}
use Rattle.std.proofs.lemmas.List.Sums.{sum_by-cons, sum_by-le-sum_by}
use Rattle.mail_contract.proofs.CountsLemmas.{few_from, lists_counted}
use Rattle.mail_contract.specs.Takes.{from_sender}
use Rattle.placement.specs.Asked.{ask_order}
use Rattle.session_known.specs.Lawful.{required}
use Rattle.session_known.specs.Requests.{Sent, asked_by, puts_sent, sent_by, sent_from}
use Rattle.session_known.specs.Session.{Client, State, after, held_puts, puts_committed, state_after}
use Rattle.session_known.specs.declared.report.Answer.{Answer}
use Rattle.session_known.specs.declared.report.Answer.TheVariants as answers
use Rattle.session_known.specs.declared.script.Level.{Level}
use Rattle.session_known.specs.declared.script.Line.{Line}
use Rattle.session_known.specs.declared.script.Line.TheVariants as lines
use Rattle.store_msg.specs.Reply.{PlainReply}
use Rattle.session_proxy.proofs.AfterLemmas.{puts_by_due}
use Rattle.session_proxy.proofs.AskLemmas.{asks_length}
use Rattle.session_proxy.proofs.HearingLemmas.{held_shown}
use Rattle.session_proxy.proofs.KeepsLemmas.{open_most_is}
use Rattle.session_proxy.proofs.PutsLemmas.{committed_length, most_of_puts}
use Rattle.session_proxy.proofs.RunLemmas.{asks_by_replies, sent_by_replies, state_after-none}
use Rattle.session_proxy.proofs.SentLemmas.{drop_one_more}
use Rattle.session_proxy.proofs.SteppingLemmas.{due_if}
use Rattle.session_proxy.specs.Lines.{is_worn, most_asks, most_of_line, most_sent, puts_due}
use Rattle.session_proxy.specs.Run.{AreAnswered, IsAnswered}
use Rattle.session_proxy.specs.Share.{HasSentFew, IsAsked, Share, open_most, open_sent, request_of, to_worker}
use Rattle.session_proxy.specs.State.{Course, Lists, open_line, starting, state_now}

-- a get or an await sends no more than it may, and nothing of what is held changes
asked_sends : (table : List (List ℕ)) (client : Client) (state : State) (first : ℕ) (line : Line) (answer : Answer) (its : List PlainReply) (most : ℕ) → IsAsked line → IsAnswered table client state first line answer its
    → length its ≤ most → held_puts (after client state line answer) ≡ held_puts state → length (sent_by table client state first (length its) line answer) + length (held_puts (after client state line answer)) ≤ length (held_puts state) + most
asked_sends table client state first line answer its most asked answered few held =
    let sent : length (sent_by table client state first (length its) line answer) ≡ length its = ap length (sent_by_replies table client state first line answer its asked answered) ∙ asks_length _ _ _ _ _ in
    let same = ap length held in
    omega (arith, sent, same, few)

-- a line sends no more than it may, and than were held
line_sends : (table : List (List ℕ)) (client : Client) (state : State) (first : ℕ) (line : Line) (answer : Answer) (its : List PlainReply) → IsAnswered table client state first line answer its
    → length (sent_by table client state first (length its) line answer) + length (held_puts (after client state line answer)) ≤ length (held_puts state) + most_of_line table client.level line
line_sends table client state first (lines.Get key named) answer its is =
    asked_sends table client state first (lines.Get key named) answer its (most_asks table client.level key) tt is is.few
    (ap (λ answer. held_puts (after client state (lines.Get key named) answer)) is.answer_is ∙ held_shown client state (lines.Get key named) client.level (length its) is.last.worker is.last.answered tt)
line_sends table client state first (lines.Await key session count) answer its is =
    asked_sends table client state first (lines.Await key session count) answer its (most_asks table client.level key) tt is is.few
    (ap (λ answer. held_puts (after client state (lines.Await key session count) answer)) is.answer_is ∙ held_shown client state (lines.Await key session count) client.level (length its) is.last.worker is.last.answered tt)
line_sends table client state first (lines.Put key payload) (answers.Put number lamport) its is = omega arith
line_sends table client state first (lines.Put key payload) answers.Held its is = let one = length-append (held_puts state) ((key, payload) ∷ []) in omega (arith, one)
line_sends table client state first (lines.Put key payload) answers.Worn its is = omega arith
line_sends table client state first lines.Begin answers.Begun its is = omega arith
line_sends table client state first lines.Commit (answers.Committed puts lamport) its is =
    let sent : length (puts_sent table client (puts_committed client state.knows lamport 0 (held_puts state))) ≡ length (held_puts state) = length-map _ _ ∙ committed_length client state.knows lamport 0 (held_puts state) in
    omega (arith, sent)
line_sends table client state first lines.Commit answers.Worn its is = omega arith
line_sends table client state first lines.Abort (answers.Aborted puts) its is = omega arith
line_sends table client state first line answer its is = absurd is.0

-- so do the lines that are answered, one after another
lines_send : (table : List (List ℕ)) (client : Client) (state : State) (first : ℕ) (lines : List Line) (given : List Answer) (replies : List (List PlainReply)) → AreAnswered table client state first lines given replies
    → length (sent_from table client state first (map length replies) lines given) + length (held_puts (state_after client state lines given)) + sum_by (most_of_line table client.level) (drop (length given) lines)
    ≤ length (held_puts state) + sum_by (most_of_line table client.level) lines
lines_send table client state first lines [] [] are =
    let same = ap (λ state. length (held_puts state)) (state_after-none client state lines) in omega (arith, same)
lines_send table client state first [] [] (its ∷ replies) are = absurd are
lines_send table client state first (line ∷ lines) [] (its ∷ replies) are = absurd are
lines_send table client state first [] (answer ∷ given) replies are = absurd are
lines_send table client state first (line ∷ lines) (answer ∷ given) [] are = absurd are
lines_send table client state first (line ∷ lines) (answer ∷ given) (its ∷ replies) are =
    let here = line_sends table client state first line answer its are.0 in
    let rest = lines_send table client (after client state line answer) (first + length its) lines given replies are.1 in
    let others : List (ℕ × Sent) = sent_from table client (after client state line answer) (first + length its) (map length replies) lines given in
    let asks = asks_by_replies table client state first line answer its are.0 in
    let both : length (sent_from table client state first (map length (its ∷ replies)) (line ∷ lines) (answer ∷ given)) ≡ length (sent_by table client state first (length its) line answer) + length others =
    ap (λ n. length (sent_by table client state first (length its) line answer ++ sent_from table client (after client state line answer) (first + n) (map length replies) lines given)) asks
    ∙ length-append (sent_by table client state first (length its) line answer) others
    in
    let counted = sum_by-cons (most_of_line table client.level) line lines in
    omega (arith, here, rest, both, counted)

-- a line makes no more puts than it may, and than are held
due_few : (table : List (List ℕ)) (level : Level) (state : State) (line : Line) → length (puts_due state line) ≤ length (held_puts state) + most_of_line table level line
due_few table level state (lines.Put key payload) = let few = due_if (is_some state.held || is_worn state) ((key, payload) ∷ []) in omega (arith, few)
due_few table level state lines.Commit = let few = due_if (is_worn state) (held_puts state) in omega (arith, few)
due_few table level state (lines.Get key named) = omega arith
due_few table level state (lines.Await key session count) = omega arith
due_few table level state lines.Begin = omega arith
due_few table level state lines.Abort = omega arith

puts_few : (table : List (List ℕ)) (client : Client) (state : State) (first : ℕ) (line : Line) → (IsAsked line → ⊥) → length (most_sent table client state first line) ≤ length (held_puts state) + most_of_line table client.level line
puts_few table client state first line no_ask =
    let most : length (most_sent table client state first line) ≡ length (puts_due state line) =
    ap length (most_of_puts table client state first line no_ask) ∙ length-map _ _ ∙ ap length (puts_by_due client state line no_ask) ∙ committed_length client state.knows (state.knows.lamport + 1) 0 (puts_due state line)
    in
    omega (arith, most, due_few table client.level state line)

-- a line sends no more than that
most_few : (table : List (List ℕ)) (client : Client) (state : State) (first : ℕ) (line : Line) → length (most_sent table client state first line) ≤ length (held_puts state) + most_of_line table client.level line
most_few table client state first (lines.Get key named) = let most = asks_length (asked_by client.level table client.session key named) first key (required client state.knows (lines.Get key named)) (most_asks table client.level key) in omega (arith, most)
most_few table client state first (lines.Await key session count) = let most = asks_length (ask_order table client.session key) first key (required client state.knows (lines.Await key session count)) (most_asks table client.level key) in omega (arith, most)
most_few table client state first (lines.Put key payload) = puts_few table client state first (lines.Put key payload) (λ asked. asked)
most_few table client state first lines.Begin = puts_few table client state first lines.Begin (λ asked. asked)
most_few table client state first lines.Commit = puts_few table client state first lines.Commit (λ asked. asked)
most_few table client state first lines.Abort = puts_few table client state first lines.Abort (λ asked. asked)

-- no more requests go to some workers than there are
few_to_all : (n : ℕ) (all : List (ℕ × Sent)) → sum_by (λ w. length (to_worker w all)) (range_with_len 1 n) ≤ length all
few_to_all n all =
    let each : sum_by (λ w. length (to_worker w all)) (range_with_len 1 n) ≤ sum_by (λ w. length (from_sender w all)) (range_with_len 1 n) =
    sum_by-le-sum_by (λ w. length (to_worker w all)) (λ w. length (from_sender w all)) (range_with_len 1 n) (λ w. omega (arith, length-map (from_sender w all) request_of))
    in
    omega (arith, each, few_from n 1 all)

-- the open line sends no more than it may, and the lines after it nothing yet
open_few : (course : Course) (option : Option Line) → open_line course ≡ option
    → length (open_sent course) ≤ length (held_puts (state_now course)) + sum_by (most_of_line course.table course.client.level) (drop (length course.answers) course.lines)
open_few course None at =
    let none : open_most course ≡ [] = ap (λ option. unwrap_or (option_map (most_sent course.table course.client (state_now course) (course.asks + 1)) option) []) at in
    let sent = length-take course.out (open_most course) in
    let most = ap length none in
    omega (arith, sent, most)
open_few course (Some line) at =
    let most = ap length (open_most_is course line at) in
    let few = most_few course.table course.client (state_now course) (course.asks + 1) line in
    let sent = length-take course.out (open_most course) in
    let rest = ap (sum_by (most_of_line course.table course.client.level)) (drop_one_more course.lines (length course.answers) line at) in
    let counted = sum_by-cons (most_of_line course.table course.client.level) line (drop (length course.answers + 1) course.lines) in
    omega (arith, most, few, sent, rest, counted)

-- so a session has sent no more than all its lines may
pub has_sent_few : (lists : Lists) → Share lists → HasSentFew lists
has_sent_few lists share =
    let course : Course = lists.course in
    let answered : List (ℕ × Sent) = sent_from course.table course.client (starting course) 1 (map length share.replies) course.lines course.answers in
    let all : List (ℕ × Sent) = answered ++ open_sent course in
    let each : (i : ℕ) → i < length lists.sent → length (slice_index_or lists.sent i []) ≡ length (to_worker (1 + i) all) = λ i low.
    let place : 1 + i - 1 ≡ i = omega arith in
    ap length (sym (ap (λ i. slice_index_or lists.sent i []) place) ∙ share.sent (1 + i) (omega arith, omega (arith, low))) in
    let counted = lists_counted lists.sent 1 (λ w. length (to_worker w all)) each in
    let few = few_to_all (length lists.sent) all in
    let both = length-append answered (open_sent course) in
    let lines = lines_send course.table course.client (starting course) 1 course.lines course.answers share.replies share.answered in
    let opened = open_few course (open_line course) refl in
    omega (arith, counted, few, both, lines, opened)
