-- What a session asks: its asks are numbered one after another, so its next one has a higher number than all that it sent.
use Rattle.std.specs.Prelude.{◌≡◌, ℕ, ◌+◌, ◌-◌, ◌<◌, min, List, [], ◌∷◌, ◌++◌, All, length, map, slice_get, slice_index_or, sum_by, take, Some, ⊤}
use Rattle.std.proofs.Common.{◌∙◌, refl, sym, ap, subst, arith}
use Rattle.std.proofs.lemmas.List.{get_or-take, length-take}
use Rattle.std.proofs.lemmas.List.Elements.{All-append, All-map, All-nil, All-weaker}
use Rattle.std.proofs.lemmas.List.Sums.{sum_by-cons}
use Rattle.std.proofs.lemmas.Option.{same_Some, slice_get-get_or, slice_get_within}
use Rattle.placement.specs.Asked.{home_at}
use Rattle.placement.specs.Config.{IsOneOf}
use Rattle.session_known.specs.Lawful.{required}
use Rattle.session_known.specs.Requests.{Sent, SentAsk, SentPut, asks_by, asks_sent, sent_by, sent_from}
use Rattle.session_known.specs.Session.{Client, State, after, puts_by}
use Rattle.session_known.specs.declared.report.Answer.{Answer}
use Rattle.session_known.specs.declared.script.Line.{Line}
use Rattle.session_known.specs.declared.script.Line.TheVariants as lines
use Rattle.store_msg.specs.Reply.{PlainReply}
use Rattle.store_msg.specs.declared.request.Request.{Request}
use Rattle.store_msg.specs.declared.request.Request.TheVariants as requests
use Rattle.session_proxy.proofs.AskLemmas.{ask_there, asks_front, asks_length, open_asks}
use Rattle.session_proxy.proofs.ClosingLemmas.{sent_alone}
use Rattle.session_proxy.proofs.RunLemmas.{asks_by_replies, sent_by_replies}
use Rattle.session_proxy.specs.Lines.{most_asks}
use Rattle.session_proxy.specs.Local.{key_asked, order_asked}
use Rattle.session_proxy.specs.Run.{AreAnswered, IsAnswered}
use Rattle.session_proxy.specs.Share.{IsAsked, Share, open_most, open_sent, request_of}
use Rattle.session_proxy.specs.State.{Course, Lists, starting, state_now}
use Rattle.run_ledger.proofs.MessagesLemmas.{all_to_worker}
use Rattle.run_ledger.proofs.OpenAsksLemmas.{asks_it}

-- something holds of the number of a request, if it is an ask
abbrev pub OfNumber : (ℕ → Type 0) → Request → Type 0
OfNumber Holds (requests.Get ask key required) = Holds ask
OfNumber Holds (requests.Put key put) = ⊤

-- and something weaker too
of_number_weaker : (Holds Also : ℕ → Type 0) → ((number : ℕ) → Holds number → Also number) → (request : Request) → OfNumber Holds request → OfNumber Also request
of_number_weaker Holds Also weaker (requests.Get ask key required) is = weaker ask is
of_number_weaker Holds Also weaker (requests.Put key put) is = tt

-- asks are numbered from the first on
asks_numbered : (order : List ℕ) (first key : ℕ) (required : List (ℕ × ℕ)) (most place : ℕ) (one : ℕ × Sent)
    → slice_get (asks_sent order first key required most) place ≡ Some one → OfNumber (λ ask. ask ≡ first + place) (request_of one.1)
asks_numbered order first key required most place one there =
    let low = slice_get_within (asks_sent order first key required most) place one there in
    let is = same_Some _ _ (sym (ask_there order first key required place most (omega (arith, low, asks_length order first key required most))) ∙ there) in
    subst (λ (one : ℕ × Sent). OfNumber (λ ask. ask ≡ first + place) (request_of one.1)) is refl

-- so are those of the open line
pub open_numbered : (course : Course) (place : ℕ) (one : ℕ × Sent) → slice_get (open_most course) place ≡ Some one
    → OfNumber (λ ask. ask ≡ course.asks + 1 + place) (request_of one.1)
open_numbered course place (worker, SentPut key put) there = tt
open_numbered course place (worker, SentAsk ask key clock) there =
    let asks = asks_it course place worker ask key clock there in
    asks_numbered (order_asked course.table course.client asks.line) (course.asks + 1) (key_asked asks.line) (required course.client (state_now course).knows asks.line)
    (most_asks course.table course.client.level (key_asked asks.line)) place (worker, SentAsk ask key clock)
    (sym (ap (λ most. slice_get most place) (open_asks course asks.line asks.at asks.asked)) ∙ there)

-- a request has a lower number than one, if it is an ask
abbrev IsBelow : ℕ → Request → Type 0
IsBelow number request = OfNumber (λ ask. ask < number) request

-- and so have all that are sent
abbrev AreBelow : ℕ → List (ℕ × Sent) → Type 0
AreBelow number sent = All (λ one. IsBelow number (request_of one.1)) sent

-- where the asks are numbered by their places, the first so many have lower numbers than the next
first_below : (first many : ℕ) (sent : List (ℕ × Sent))
    → ((place : ℕ) (one : ℕ × Sent) → slice_get sent place ≡ Some one → OfNumber (λ ask. ask ≡ first + place) (request_of one.1)) → AreBelow (first + many) (take many sent)
first_below first many sent numbered k d low =
    let both : k < min many (length sent) = omega (arith, low, length-take many sent) in
    let one : ℕ × Sent = slice_index_or sent k d in
    subst (λ (one : ℕ × Sent). IsBelow (first + many) (request_of one.1)) (sym (get_or-take many sent k d (omega (arith, both))))
    (of_number_weaker (λ ask. ask ≡ first + k) (λ ask. ask < first + many) (λ ask is. omega (arith, is, both)) (request_of one.1)
    (numbered k one (slice_get-get_or sent k d (omega (arith, both)))))

module _ (table : List (List ℕ)) (client : Client) where
  -- so the asks of an answered line have lower numbers than those of the next
  asks_below : (state : State) (first : ℕ) (line : Line) (answer : Answer) (its : List PlainReply) → IsAsked line → IsAnswered table client state first line answer its
      → AreBelow (first + length its) (sent_by table client state first (length its) line answer)
  asks_below state first line answer its asked is =
      let order : List ℕ = order_asked table client line in
      let clock : List (ℕ × ℕ) = required client state.knows line in
      subst (AreBelow (first + length its))
      (asks_front order first (key_asked line) clock (length its) (length its) (omega arith) ∙ sym (sent_by_replies table client state first line answer its asked is))
      (first_below first (length its) (asks_sent order first (key_asked line) clock (length its)) (asks_numbered order first (key_asked line) clock (length its)))

  -- where it asks nothing, it sends puts
  alone_below : (state : State) (first said number : ℕ) (line : Line) (answer : Answer) → (IsAsked line → ⊥) → AreBelow number (sent_by table client state first said line answer)
  alone_below state first said number line answer no_ask =
      let puts = puts_by client state line answer in
      subst (AreBelow number) (sym (sent_alone table client state first said line answer no_ask))
      (All-map (λ (one : ℕ × Sent). IsBelow number (request_of one.1)) (λ entry. (home_at table client.session entry.0, SentPut entry.0 entry.1)) puts (λ k d low. tt))

  line_below : (state : State) (first : ℕ) (line : Line) (answer : Answer) (its : List PlainReply) → IsAnswered table client state first line answer its
      → AreBelow (first + length its) (sent_by table client state first (length its) line answer)
  line_below state first (lines.Get key named) answer its is = asks_below state first (lines.Get key named) answer its tt is
  line_below state first (lines.Await key session count) answer its is = asks_below state first (lines.Await key session count) answer its tt is
  line_below state first line answer its is = alone_below state first (length its) (first + length its) line answer (λ asked. asked)

  -- and so the asks of all answered lines
  lines_below : (state : State) (first : ℕ) (lines : List Line) (given : List Answer) (replies : List (List PlainReply)) → AreAnswered table client state first lines given replies
      → AreBelow (first + sum_by length replies) (sent_from table client state first (map length replies) lines given)
  lines_below state first lines [] [] are = All-nil (λ (one : ℕ × Sent). IsBelow (first + 0) (request_of one.1))
  lines_below state first (line ∷ lines) (answer ∷ given) (its ∷ replies) are =
      let reached : State = after client state line answer in
      let number : ℕ = first + sum_by length (its ∷ replies) in
      let later : ℕ → List (ℕ × Sent) = λ asks. sent_from table client reached (first + asks) (map length replies) lines given in
      let counted = sum_by-cons length its replies in
      let as_many : first + length its + sum_by length replies ≡ number = omega (arith, counted) in
      All-append (λ (one : ℕ × Sent). IsBelow number (request_of one.1)) (sent_by table client state first (length its) line answer) (later (asks_by client (length its) line answer))
      (All-weaker (λ (one : ℕ × Sent). IsBelow (first + length its) (request_of one.1)) (λ (one : ℕ × Sent). IsBelow number (request_of one.1))
      (λ one. of_number_weaker (λ ask. ask < first + length its) (λ ask. ask < number) (λ ask low. omega (arith, low, counted)) (request_of one.1))
      (sent_by table client state first (length its) line answer) (line_below state first line answer its are.0))
      (subst (λ asks. AreBelow number (later asks)) (sym (asks_by_replies table client state first line answer its are.0))
      (subst (λ number. AreBelow number (later (length its))) as_many (lines_below reached (first + length its) lines given replies are.1)))
  lines_below state first [] [] (its ∷ replies) are = absurd are
  lines_below state first (line ∷ lines) [] (its ∷ replies) are = absurd are
  lines_below state first [] (answer ∷ given) replies are = absurd are
  lines_below state first (line ∷ lines) (answer ∷ given) [] are = absurd are

-- The asks that a session sent to a worker have lower numbers than its next one.
pub sent_below : (its : Lists) → Share its → (worker : ℕ) → IsOneOf (length its.sent) worker
    → All (OfNumber (λ ask. ask < its.course.asks + 1 + its.course.out)) (slice_index_or its.sent (worker - 1) [])
sent_below its share worker within =
    let course : Course = its.course in
    let next : ℕ = course.asks + 1 + course.out in
    let answered : List (ℕ × Sent) = sent_from course.table course.client (starting course) 1 (map length share.replies) course.lines course.answers in
    let asks = share.asks in
    subst (All (IsBelow next)) (sym (share.sent worker within))
    (all_to_worker (IsBelow next) worker (answered ++ open_sent course)
    (All-append (λ (one : ℕ × Sent). IsBelow next (request_of one.1)) answered (open_sent course)
    (All-weaker (λ (one : ℕ × Sent). IsBelow (1 + sum_by length share.replies) (request_of one.1)) (λ (one : ℕ × Sent). IsBelow next (request_of one.1))
    (λ one. of_number_weaker (λ ask. ask < 1 + sum_by length share.replies) (λ ask. ask < next) (λ ask low. omega (arith, low, asks)) (request_of one.1))
    answered (lines_below course.table course.client (starting course) 1 course.lines course.answers share.replies share.answered))
    (first_below (course.asks + 1) course.out (open_most course) (open_numbered course))))
