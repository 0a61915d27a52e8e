-- A session's answers, one line more.
use Rattle.std.specs.Prelude.{◌≡◌, ℕ, ◌+◌, ◌≤◌, List, [], ◌∷◌, ◌++◌, length, map, slice_get, sum_by, Option, Some}
use Rattle.std.proofs.Common.{true≢false, ◌∙◌, refl, sym, ap, subst, arith, append_assoc, append-nil, length-append}
use Rattle.std.proofs.lemmas.List.Sums.{sum_by-cons}
use Rattle.std.proofs.lemmas.Option.{none-some, same_Some}
use Rattle.placement.specs.Asked.{ask_order}
use Rattle.session_known.specs.Lawful.{required, required_by_get}
use Rattle.session_known.specs.Requests.{Sent, asked_by, asks_by, asks_of, asks_sent, sent_by, sent_from}
use Rattle.session_known.specs.Session.{Client, Knowledge, State, after, state_after}
use Rattle.session_known.specs.declared.report.Answer.{Answer}
use Rattle.session_known.specs.declared.script.Level.{Level}
use Rattle.session_known.specs.declared.script.Level.TheVariants as levels
use Rattle.session_known.specs.declared.script.Line.{Line}
use Rattle.session_known.specs.declared.script.Line.TheVariants as lines
use Rattle.store_msg.specs.Reply.{IsAnswer, PlainReply}
use Rattle.store_msg.specs.declared.reply.Answered.{Answered}
use Rattle.store_msg.specs.declared.reply.Answered.TheVariants.{Again, Found}
use Rattle.session_proxy.specs.Lines.{most_asks}
use Rattle.session_proxy.specs.Local.{key_asked, order_asked}
use Rattle.session_proxy.specs.Run.{AreAnswered, IsAnswered, IsPartOf, IsReplied, answer_shown}
use Rattle.session_proxy.specs.Run.IsPartOf.{none, with_it, without}
use Rattle.session_proxy.specs.Share.{IsAsked}

-- before the first answer a session is in the state that it began in
pub state_after-none : (client : Client) (state : State) (lines : List Line) → state_after client state lines [] ≡ state
state_after-none client state [] = refl
state_after-none client state (line ∷ lines) = refl

-- the state after one more line
pub state_after-push : (client : Client) (state : State) (lines : List Line) (given : List Answer) (line : Line) (answer : Answer) → slice_get lines (length given) ≡ Some line
    → state_after client state lines (given ++ answer ∷ []) ≡ after client (state_after client state lines given) line answer
state_after-push client state [] [] line answer at = absurd (none-some line at)
state_after-push client state [] (first ∷ given) line answer at = absurd (none-some line at)
state_after-push client state (its ∷ lines) [] line answer at = state_after-none client _ lines ∙ ap (λ line. after client state line answer) (same_Some _ _ at)
state_after-push client state (its ∷ lines) (first ∷ given) line answer at = state_after-push client (after client state its first) lines given line answer at

-- asks are counted on from line to line
one_more_line : (first : ℕ) (those : List PlainReply) (replies : List (List PlainReply)) → first + sum_by length (those ∷ replies) ≡ first + length those + sum_by length replies
one_more_line first those replies =
    let counted = sum_by-cons length those replies in
    omega (arith, counted)

-- no line is answered by nothing
pub none_answered : (table : List (List ℕ)) (client : Client) (state : State) (first : ℕ) (lines : List Line) → AreAnswered table client state first lines [] []
none_answered table client state first [] = tt
none_answered table client state first (line ∷ lines) = tt

-- one more line is answered
pub answered-push : (table : List (List ℕ)) (client : Client) (state : State) (first : ℕ) (lines : List Line) (given : List Answer) (replies : List (List PlainReply)) (line : Line) (answer : Answer) (its : List PlainReply)
    → slice_get lines (length given) ≡ Some line → AreAnswered table client state first lines given replies
    → IsAnswered table client (state_after client state lines given) (first + sum_by length replies) line answer its
    → AreAnswered table client state first lines (given ++ answer ∷ []) (replies ++ its ∷ [])
answered-push table client state first [] [] replies line answer its at answered is = absurd (none-some line at)
answered-push table client state first [] (one ∷ given) replies line answer its at answered is = absurd (none-some line at)
answered-push table client state first (here ∷ lines) [] [] line answer its at answered is =
    let alone : first + 0 ≡ first = omega arith in (
      subst (λ line. IsAnswered table client state first line answer its) (sym (same_Some _ _ at)) (subst (λ n. IsAnswered table client state n line answer its) alone is),
      none_answered table client (after client state here answer) (first + length its) lines,
    )
answered-push table client state first (here ∷ lines) [] (one ∷ replies) line answer its at answered is = absurd answered
answered-push table client state first (here ∷ lines) (one ∷ given) [] line answer its at answered is = absurd answered
answered-push table client state first (here ∷ lines) (one ∷ given) (those ∷ replies) line answer its at answered is =
    let next = one_more_line first those replies in (
      answered.0,
      answered-push table client (after client state here one) (first + length those) lines given replies line answer its at answered.1
          (subst (λ n. IsAnswered table client (state_after client (after client state here one) lines given) n line answer its) next is),
    )

-- a get or an await is answered by one reply at least
pub some_replies : {client : Client} {order : List ℕ} {first key : ℕ} {required : List (ℕ × ℕ)} {most : ℕ} {answer : Answer} {replies : List PlainReply}
    → IsReplied client order first key required most answer replies → (n : ℕ) × (length replies ≡ n + 1)
some_replies is = (length is.lacking, ap length is.replies_are ∙ length-append is.lacking (is.last ∷ []))

-- outside of causal sessions it sends one ask
one_ask : (table : List (List ℕ)) (level : Level) (key n : ℕ) → n + 1 ≤ most_asks table level key → asks_of level (n + 1) ≡ n + 1
one_ask table levels.Causal key n few = refl
one_ask table levels.Eventual key n few = omega (arith, few)
one_ask table levels.Committed key n few = omega (arith, few)

asks_as_many : (table : List (List ℕ)) (level : Level) (key asks : ℕ) (some : (n : ℕ) × (asks ≡ n + 1)) → asks ≤ most_asks table level key → asks_of level asks ≡ asks
asks_as_many table level key asks (n, is) few =
    subst (λ asks. asks_of level asks ≡ asks) (sym is) (one_ask table level key n (subst (λ asks. asks ≤ most_asks table level key) is few))

-- a line sends as many asks as replies answer it
pub asks_by_replies : (table : List (List ℕ)) (client : Client) (state : State) (first : ℕ) (line : Line) (answer : Answer) (its : List PlainReply) → IsAnswered table client state first line answer its
    → asks_by client (length its) line answer ≡ length its
asks_by_replies table client state first (lines.Get key named) answer its is =
    subst (λ answer. asks_by client (length its) (lines.Get key named) answer ≡ length its) (sym is.answer_is) (
    elim is.last.answered as (λ answered. asks_by client (length its) (lines.Get key named) (answer_shown client.level (length its) is.last.worker answered) ≡ length its) [
      | Found cell ↦ asks_as_many table client.level key (length its) (some_replies is) is.few
      | Again clock ↦ refl
    ])
asks_by_replies table client state first (lines.Await key session count) answer its is =
    subst (λ answer. asks_by client (length its) (lines.Await key session count) answer ≡ length its) (sym is.answer_is) (
    elim is.last.answered as (λ answered. asks_by client (length its) (lines.Await key session count) (answer_shown client.level (length its) is.last.worker answered) ≡ length its) [
      | Found cell ↦ refl
      | Again clock ↦ refl
    ])
asks_by_replies table client state first (lines.Put key payload) answer its is = sym (ap length is.1)
asks_by_replies table client state first lines.Begin answer its is = sym (ap length is.1)
asks_by_replies table client state first lines.Commit answer its is = sym (ap length is.1)
asks_by_replies table client state first lines.Abort answer its is = sym (ap length is.1)

-- what is answered again lacks something that is required, and nothing is required outside of causal sessions
pub again_is_causal : (level : Level) (knows : Knowledge) (key : ℕ) (clock : List (ℕ × ℕ)) → IsAnswer (required_by_get level knows key) (Again clock) → level ≡ levels.Causal
again_is_causal levels.Causal knows key clock fits = refl
again_is_causal levels.Eventual knows key clock fits = absurd (true≢false (sym fits))
again_is_causal levels.Committed knows key clock fits = absurd (true≢false (sym fits))

-- the asks that a get sends
get_sends : (table : List (List ℕ)) (client : Client) (state : State) (first key : ℕ) (named : Option ℕ) (asks worker : ℕ) (answered : Answered) → ((n : ℕ) × (asks ≡ n + 1)) → asks ≤ most_asks table client.level key
    → IsAnswer (required_by_get client.level state.knows key) answered
    → sent_by table client state first asks (lines.Get key named) (answer_shown client.level asks worker answered)
    ≡ asks_sent (asked_by client.level table client.session key named) first key (required client state.knows (lines.Get key named)) asks
get_sends table client state first key named asks worker (Found cell) some few fits =
    ap (asks_sent (asked_by client.level table client.session key named) first key (required client state.knows (lines.Get key named))) (asks_as_many table client.level key asks some few)
get_sends table client state first key named asks worker (Again clock) some few fits =
    ap (λ level. asks_sent (asked_by level table client.session key named) first key (required client state.knows (lines.Get key named)) asks) (sym (again_is_causal client.level state.knows key clock fits))

-- the asks that a line sends
pub sent_by_replies : (table : List (List ℕ)) (client : Client) (state : State) (first : ℕ) (line : Line) (answer : Answer) (its : List PlainReply) → IsAsked line → IsAnswered table client state first line answer its
    → sent_by table client state first (length its) line answer ≡ asks_sent (order_asked table client line) first (key_asked line) (required client state.knows line) (length its)
sent_by_replies table client state first (lines.Get key named) answer its asked is =
    ap (sent_by table client state first (length its) (lines.Get key named)) is.answer_is ∙ get_sends table client state first key named (length its) is.last.worker is.last.answered (some_replies is) is.few is.fits
sent_by_replies table client state first (lines.Await key session count) answer its asked is =
    ap (sent_by table client state first (length its) (lines.Await key session count)) is.answer_is ∙ (
    elim is.last.answered as (λ answered. sent_by table client state first (length its) (lines.Await key session count) (answer_shown client.level (length its) is.last.worker answered)
    ≡ asks_sent (ask_order table client.session key) first key (required client state.knows (lines.Await key session count)) (length its)) [
      | Found cell ↦ refl
      | Again clock ↦ refl
    ])
sent_by_replies table client state first (lines.Put key payload) answer its asked is = absurd asked
sent_by_replies table client state first lines.Begin answer its asked is = absurd asked
sent_by_replies table client state first lines.Commit answer its asked is = absurd asked
sent_by_replies table client state first lines.Abort answer its asked is = absurd asked

-- what the answered lines send, one line more
pub sent-push : (table : List (List ℕ)) (client : Client) (state : State) (first : ℕ) (lines : List Line) (given : List Answer) (replies : List (List PlainReply)) (line : Line) (answer : Answer) (its : List PlainReply)
    → slice_get lines (length given) ≡ Some line → AreAnswered table client state first lines given replies
    → sent_from table client state first (map length (replies ++ its ∷ [])) lines (given ++ answer ∷ [])
    ≡ sent_from table client state first (map length replies) lines given ++ sent_by table client (state_after client state lines given) (first + sum_by length replies) (length its) line answer
sent-push table client state first [] [] replies line answer its at answered = absurd (none-some line at)
sent-push table client state first [] (one ∷ given) replies line answer its at answered = absurd (none-some line at)
sent-push table client state first (here ∷ lines) [] [] line answer its at answered =
    let alone : first + 0 ≡ first = omega arith in
    append-nil _ ∙ ap (λ line. sent_by table client state first (length its) line answer) (same_Some _ _ at) ∙ ap (λ n. sent_by table client state n (length its) line answer) (sym alone)
sent-push table client state first (here ∷ lines) [] (one ∷ replies) line answer its at answered = absurd answered
sent-push table client state first (here ∷ lines) (one ∷ given) [] line answer its at answered = absurd answered
sent-push table client state first (here ∷ lines) (one ∷ given) (those ∷ replies) line answer its at answered =
    let so_far = asks_by_replies table client state first here one those answered.0 in
    let next = sym (one_more_line first those replies) in
    let sends : ℕ → List (ℕ × Sent) = λ n. sent_from table client (after client state here one) (first + n) (map length replies) lines given in
    ap (λ n. sent_by table client state first (length those) here one ++ sent_from table client (after client state here one) (first + n) (map length (replies ++ its ∷ [])) lines (given ++ answer ∷ [])) so_far
    ∙ ap (λ rest. sent_by table client state first (length those) here one ++ rest) (sent-push table client (after client state here one) (first + length those) lines given replies line answer its at answered.1)
    ∙ sym (append_assoc (sent_by table client state first (length those) here one) (sends (length those)) _)
    ∙ ap (λ n. (sent_by table client state first (length those) here one ++ sends n) ++ sent_by table client (state_after client (after client state here one) lines given) (first + length those + sum_by length replies) (length its) line answer) (sym so_far)
    ∙ ap (λ n. (sent_by table client state first (length those) here one ++ sends (asks_by client (length those) here one)) ++ sent_by table client (state_after client (after client state here one) lines given) n (length its) line answer) next

-- nothing is part of anything
pub none_of : {X : Type 0} (whole : List X) → IsPartOf [] whole
none_of [] = none
none_of (x ∷ whole) = without x (none_of whole)

-- one item more in both, and in the whole alone
pub part-push : {X : Type 0} (part whole : List X) (x : X) → IsPartOf part whole → IsPartOf (part ++ x ∷ []) (whole ++ x ∷ [])
part-push [] [] x none = with_it x none
part-push (y ∷ part) [] x has = elim has [ ]
part-push part (_ ∷ whole) x (without y rest) = without y (part-push part whole x rest)
part-push (_ ∷ part) (_ ∷ whole) x (with_it y rest) = with_it y (part-push part whole x rest)

pub part_of-push : {X : Type 0} (part whole : List X) (x : X) → IsPartOf part whole → IsPartOf part (whole ++ x ∷ [])
part_of-push [] [] x none = without x none
part_of-push (y ∷ part) [] x has = elim has [ ]
part_of-push part (_ ∷ whole) x (without y rest) = without y (part_of-push part whole x rest)
part_of-push (_ ∷ part) (_ ∷ whole) x (with_it y rest) = with_it y (part_of-push part whole x rest)
