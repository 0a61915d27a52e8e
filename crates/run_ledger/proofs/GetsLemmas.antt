-- The gets of a session at a worker and the replies to them, one by one: which requests of the session came there before each.
use Rattle.std.specs.Prelude.{◌≡◌, ℕ, ◌+◌, ◌%◌, ◌≤◌, ◌==◌, true, false, cond, if◌then◌else◌, List, [], ◌∷◌, ◌++◌, All, Contains, count_by, drop, flat_map, length, map, slice_index_or}
use Rattle.std.specs.List.{AllZip}
use Rattle.std.proofs.Common.{◌∙◌, refl, sym, ap, subst, inl, inr, length-append, arith}
use Rattle.std.proofs.lemmas.Bool.{eq-eqb}
use Rattle.std.proofs.lemmas.Bool.Decides.{eqb_tells}
use Rattle.std.proofs.lemmas.List.Concat.{flat_map-append}
use Rattle.std.proofs.lemmas.List.Elements.{All-append, All-cons, All-head, All-nil, All-tail, All-weaker}
use Rattle.std.proofs.lemmas.List.Sums.{sum_by-cons, sum_by-le}
use Rattle.lattice_laws.proofs.MembersLemmas.{contains_first, contains_later}
use Rattle.mail_contract.proofs.FrontLemmas.{front_splits}
use Rattle.mail_contract.specs.Takes.{IsFront, from_sender}
use Rattle.mail_contract.proofs.WovenLemmas.{from_sender_here, from_sender_there}
use Rattle.composed_value.specs.declared.put.Put.{Put}
use Rattle.session_known.specs.Requests.{Sent, SentAsk, SentPut, asks_sent, puts_sent, sent_by, sent_from}
use Rattle.session_known.specs.Session.{Client, State, after, puts_by}
use Rattle.session_known.specs.declared.report.Answer.{Answer}
use Rattle.session_known.specs.declared.script.Line.{Line}
use Rattle.session_known.specs.declared.script.Line.TheVariants as lines
use Rattle.session_proxy.specs.Local.{key_asked, order_asked}
use Rattle.session_known.specs.Lawful.{required}
use Rattle.session_proxy.specs.Polls.{is_ask}
use Rattle.session_proxy.specs.Run.{AreAnswered, IsAnswered, IsReplyTo}
use Rattle.session_proxy.specs.Share.{IsAsked, request_of, to_worker}
use Rattle.session_proxy.proofs.AskLemmas.{ask_there, asks_front}
use Rattle.session_proxy.proofs.ClosingLemmas.{sent_alone}
use Rattle.session_proxy.proofs.RunLemmas.{asks_by_replies, sent_by_replies}
use Rattle.session_proxy.proofs.SentLemmas.{take_one_more, to_worker-append}
use Rattle.store_msg.specs.Reply.{PlainReply}
use Rattle.store_msg.specs.declared.request.Request.{Request}
use Rattle.store_msg.specs.declared.request.Request.TheVariants as requests
use Rattle.worker_core.specs.Share.{Asked, asked_by, gets_after}
use Rattle.worker_core.proofs.RepliesLemmas.{gets_after-append}
use Rattle.run_ledger.proofs.ByWorkerLemmas.{from_worker, from_worker-append, in_all}
use Rattle.run_ledger.proofs.OpenAsksLemmas.{ArePuts, puts_are}

-- what holds place by place of two lists, of their fronts and of their backs
pub zip_parts : {A B : Type 0} (R : A → B → Type 0) (xs more_xs : List A) (ys more_ys : List B) → length xs ≡ length ys → AllZip R (xs ++ more_xs) (ys ++ more_ys)
    → AllZip R xs ys × AllZip R more_xs more_ys
zip_parts R [] more_xs [] more_ys as_many all = (tt, all)
zip_parts R (x ∷ xs) more_xs (y ∷ ys) more_ys as_many all =
    let rest = zip_parts R xs more_xs ys more_ys (omega (arith, as_many)) all.1 in
    ((all.0, rest.0), rest.1)
zip_parts R [] more_xs (y ∷ ys) more_ys as_many all = absurd (omega (arith, as_many))
zip_parts R (x ∷ xs) more_xs [] more_ys as_many all = absurd (omega (arith, as_many))

-- what holds of each second item of pairs that are related, where something holds of each first
pub zip_over : {A B : Type 0} (R : A → B → Type 0) (P : A → Type 0) (Q : B → Type 0) → ((a : A) (b : B) → R a b → P a → Q b)
    → (xs : List A) (ys : List B) → AllZip R xs ys → All P xs → All Q ys
zip_over R P Q each [] [] zipped all = All-nil Q
zip_over R P Q each (x ∷ xs) (y ∷ ys) zipped all =
    All-cons Q y ys (each x y zipped.0 (All-head P x xs all)) (zip_over R P Q each xs ys zipped.1 (All-tail P x xs all))
zip_over R P Q each [] (y ∷ ys) zipped all = absurd zipped
zip_over R P Q each (x ∷ xs) [] zipped all = absurd zipped

-- the list without its first item
abbrev rest_of : {X : Type 0} → List X → List X
rest_of [] = []
rest_of (x ∷ xs) = xs

-- the first item
abbrev first_of : {X : Type 0} → X → List X → X
first_of none [] = none
first_of none (x ∷ xs) = x

-- A message of a sender among those received, by what that one's messages before it are.
pub record IsAmong {M : Type 0} (sender : ℕ) (received : List (ℕ × M)) (front : List M) (x : M) : Type 0 where
  pub before : List (ℕ × M)
  pub after : List (ℕ × M)
  pub received_is : received ≡ before ++ (sender, x) ∷ after
  pub front_is : from_sender sender before ≡ front

module _ {M : Type 0} (sender : ℕ) where
  -- it stands later by one more message
  among_later : (message : ℕ × M) (received : List (ℕ × M)) (front front_now : List M) (x : M) → IsAmong sender received front x
      → ((before : List (ℕ × M)) → from_sender sender before ≡ front → from_sender sender (message ∷ before) ≡ front_now) → IsAmong sender (message ∷ received) front_now x
  among_later message received front front_now x is grows = record {
    before = message ∷ is.before;
    after = is.after;
    received_is = ap (λ those. message ∷ those) is.received_is;
    front_is = grows is.before is.front_is;
  }

  -- the first message is of the sender, and it is the one or another
  among_first : (message : ℕ × M) (received : List (ℕ × M)) (front : List M) (x : M) (back : List M)
      → ((front : List M) → from_sender sender received ≡ front ++ x ∷ back → IsAmong sender received front x)
      → message.1 ∷ from_sender sender received ≡ front ++ x ∷ back → message.0 ≡ sender → IsAmong sender (message ∷ received) front x
  among_first message received [] x back rest is same = record {
    before = [];
    after = received;
    received_is = λ j. (same j, ap (first_of x) is j) ∷ received;
    front_is = refl;
  }
  among_first message received (first ∷ front) x back rest is same =
      among_later message received front (first ∷ front) x (rest front (ap rest_of is))
      (λ before is_front. from_sender_here sender message before same ∙ (λ j. ap (first_of first) is j ∷ is_front j))

  -- where a sender's messages are split at one, so are all that were received
  pub among : (received : List (ℕ × M)) (front : List M) (x : M) (back : List M) → from_sender sender received ≡ front ++ x ∷ back → IsAmong sender received front x
  among [] front x back is = let long = ap length is in absurd (omega (arith, long, length-append front (x ∷ back)))
  among (message ∷ received) front x back is = elim (eqb_tells message.0 sender) [
    | inl same ↦ among_first message received front x back (λ front is. among received front x back is) (sym (from_sender_here sender message received same.1) ∙ is) same.1
    | inr other ↦
        among_later message received front front x (among received front x back (sym (from_sender_there sender message received other.1) ∙ is))
        (λ before is. from_sender_there sender message before other.1 ∙ is)
  ]

-- the gets among requests
abbrev pub gets_in : List Request → List Asked
gets_in those = flat_map (asked_by []) those

-- two lists of requests have the gets of both
pub gets_of_both : (xs ys : List Request) → length (gets_in (xs ++ ys)) ≡ length (gets_in xs) + length (gets_in ys)
gets_of_both xs ys = ap length (flat_map-append (asked_by []) xs ys) ∙ length-append (gets_in xs) (gets_in ys)

-- so a front has no more than the whole
pub gets_in_front : (front whole : List Request) → IsFront front whole → length (gets_in front) ≤ length (gets_in whole)
gets_in_front front whole is =
    let rest : List Request = drop (length front) whole in
    let both = ap (λ those. length (gets_in those)) (front_splits front whole is) ∙ gets_of_both front rest in
    omega (arith, both)

-- a request has one get or none, whatever came before
as_many_asked : (before : List (ℕ × Request)) (request : Request) → length (asked_by before request) ≡ length (asked_by [] request)
as_many_asked before (requests.Put key put) = refl
as_many_asked before (requests.Get ask key required) = refl

-- a session's gets among those received are as many as among its requests
pub as_many_gets : (session : ℕ) (before received : List (ℕ × Request)) → length (gets_after session before received) ≡ length (gets_in (from_sender session received))
as_many_gets session before [] = refl
as_many_gets session before (message ∷ received) =
    let later : List Asked = gets_after session (before ++ message ∷ []) received in
    let rest : List Request = from_sender session received in
    let as_many = as_many_gets session (before ++ message ∷ []) received in
    elim (message.0 == session) as (λ own. length ((if own then asked_by before message.1 else []) ++ later) ≡ length (gets_in (if own then message.1 ∷ rest else rest))) [
      | true ↦ omega (arith, as_many, as_many_asked before message.1, length-append (asked_by before message.1) later, length-append (asked_by [] message.1) (gets_in rest))
      | false ↦ as_many
    ]

-- the request that a get came by
abbrev pub get_of : Asked → Request
get_of get = requests.Get get.ask get.key get.required

-- the get of one request is that request
get_is : (before : List (ℕ × Request)) (request : Request) (others : List Request) → All (λ get. Contains (request ∷ others) (get_of get)) (asked_by before request)
get_is before (requests.Put key put) others = All-nil (λ get. Contains (requests.Put key put ∷ others) (get_of get))
get_is before (requests.Get ask key required) others =
    let get : Asked = record { ask = ask; key = key; required = required; before = before } in
    let Has = λ (its : Asked). Contains (get_of get ∷ others) (get_of its) in
    All-cons Has get [] (contains_first (get_of get) others) (All-nil Has)

-- each of a session's gets among those received came by one of its requests
pub gets_came : (session : ℕ) (before received : List (ℕ × Request)) → All (λ get. Contains (from_sender session received) (get_of get)) (gets_after session before received)
gets_came session before [] = All-nil (λ get. Contains [] (get_of get))
gets_came session before (message ∷ received) =
    let rest : List Request = from_sender session received in
    let later : List Asked = gets_after session (before ++ message ∷ []) received in
    let came = gets_came session (before ++ message ∷ []) received in
    elim (message.0 == session) as (λ own. All (λ get. Contains (if own then message.1 ∷ rest else rest) (get_of get)) ((if own then asked_by before message.1 else []) ++ later)) [
      | true ↦
          let Has = λ (get : Asked). Contains (message.1 ∷ rest) (get_of get) in
          All-append Has (asked_by before message.1) later (get_is before message.1 rest)
          (All-weaker (λ get. Contains rest (get_of get)) Has (λ get has. contains_later message.1 (get_of get) rest has) later came)
      | false ↦ came
    ]

-- A reply of a worker to a get of a session, by what came of the session before.
pub record IsMadeFor (Replies : Asked → PlainReply → Type 0) (session : ℕ) (received : List (ℕ × Request)) (front : List Request) (ask key : ℕ) (required : List (ℕ × ℕ)) (reply : PlainReply) : Type 0 where
  pub before : List (ℕ × Request)
  pub after : List (ℕ × Request)
  pub received_is : received ≡ before ++ after
  pub front_is : from_sender session before ≡ front
  pub replies : Replies (record { ask = ask; key = key; required = required; before = before }) reply

-- Where the replies answer a session's gets one by one, each answers the get in its place.
pub made_for : (Replies : Asked → PlainReply → Type 0) (session : ℕ) (received : List (ℕ × Request)) (front back : List Request) (ask key : ℕ) (required : List (ℕ × ℕ))
    (early late : List PlainReply) (reply : PlainReply)
    → AllZip Replies (gets_after session [] received) (early ++ reply ∷ late) → from_sender session received ≡ front ++ requests.Get ask key required ∷ back
    → length (gets_in front) ≡ length early → IsMadeFor Replies session received front ask key required reply
made_for Replies session received front back ask key required early late reply all is as_many =
    let get : Request = requests.Get ask key required in
    let at : IsAmong session received front get = among session received front get back is in
    let own : List (ℕ × Request) = (session, get) ∷ at.after in
    let long : length (gets_after session [] at.before) ≡ length early = as_many_gets session [] at.before ∙ ap (λ those. length (gets_in those)) at.front_is ∙ as_many in
    let split : gets_after session [] received ≡ gets_after session [] at.before ++ gets_after session at.before own =
    ap (gets_after session []) at.received_is ∙ gets_after-append session [] at.before own
    in
    let here = (zip_parts Replies (gets_after session [] at.before) (gets_after session at.before own) early (reply ∷ late) long (subst (λ gets. AllZip Replies gets (early ++ reply ∷ late)) split all)).1 in
    let later : List Asked = gets_after session (at.before ++ (session, get) ∷ []) at.after in
    record {
      before = at.before;
      after = own;
      received_is = at.received_is;
      front_is = at.front_is;
      replies = (subst (λ t. AllZip Replies ((if t then asked_by at.before get else []) ++ later) (reply ∷ late)) (eq-eqb session session refl) here).0;
    }

-- so many asks and one more
pub asks_more : (order : List ℕ) (first key : ℕ) (required : List (ℕ × ℕ)) (asks : ℕ)
    → asks_sent order first key required (asks + 1) ≡ asks_sent order first key required asks ++ (slice_index_or order (asks % length order) 0, SentAsk (first + asks) key required) ∷ []
asks_more order first key required asks =
    let all : List (ℕ × Sent) = asks_sent order first key required (asks + 1) in
    sym (asks_front order first key required (asks + 1) (asks + 1) (omega arith))
    ∙ take_one_more all asks (slice_index_or order (asks % length order) 0, SentAsk (first + asks) key required) (ask_there order first key required asks (asks + 1) (omega arith))
    ∙ ap (λ front. front ++ (slice_index_or order (asks % length order) 0, SentAsk (first + asks) key required) ∷ []) (asks_front order first key required asks (asks + 1) (omega arith))

-- how many asks are among requests
abbrev pub asks_in : List (ℕ × Sent) → ℕ
asks_in sent = count_by (λ one. is_ask one.1) sent

-- a request is a get where it is an ask
one_get : (item : Sent) → length (asked_by [] (request_of item)) ≡ cond (is_ask item) 1 0
one_get (SentAsk ask key required) = refl
one_get (SentPut key put) = refl

module _ (worker : ℕ) where
  -- how many gets go to the worker
  abbrev pub gets_to : List (ℕ × Sent) → ℕ
  gets_to sent = length (gets_in (to_worker worker sent))

  pub gets_to-append : (sent more : List (ℕ × Sent)) → gets_to (sent ++ more) ≡ gets_to sent + gets_to more
  gets_to-append sent more =
      ap (λ those. length (gets_in those)) (to_worker-append worker sent more) ∙ gets_of_both (to_worker worker sent) (to_worker worker more)

  -- as many replies came from it as asks went there
  pub as_many_replied : (asks : List (ℕ × Sent)) (replies : List PlainReply) → AllZip IsReplyTo asks replies → gets_to asks ≡ length (from_worker worker replies)
  as_many_replied [] [] all = refl
  as_many_replied ((to, SentAsk ask key required) ∷ asks) (reply ∷ replies) all =
      let rest = as_many_replied asks replies all.1 in
      subst (λ by. length (gets_in (map request_of (if to == worker then SentAsk ask key required ∷ from_sender worker asks else from_sender worker asks)))
      ≡ length (if by == worker then reply ∷ from_worker worker replies else from_worker worker replies)) (sym all.0.1)
      (elim (to == worker) as (λ here. length (gets_in (map request_of (if here then SentAsk ask key required ∷ from_sender worker asks else from_sender worker asks)))
      ≡ length (if here then reply ∷ from_worker worker replies else from_worker worker replies)) [
        | true ↦ omega (arith, rest)
        | false ↦ rest
      ])
  as_many_replied ((to, SentPut key put) ∷ asks) (reply ∷ replies) all = absurd all.0
  as_many_replied [] (reply ∷ replies) all = absurd all
  as_many_replied (ask ∷ asks) [] all = absurd all

  -- no more go there than there are asks
  pub few_gets : (sent : List (ℕ × Sent)) → gets_to sent ≤ asks_in sent
  few_gets [] = omega arith
  few_gets (one ∷ sent) =
      let rest = few_gets sent in
      let counted = sum_by-cons (λ (one : ℕ × Sent). cond (is_ask one.1) 1 0) one sent in
      let both = length-append (asked_by [] (request_of one.1)) (gets_in (to_worker worker sent)) in
      elim (one.0 == worker) as (λ here. length (gets_in (map request_of (if here then one.1 ∷ from_sender worker sent else from_sender worker sent))) ≤ asks_in (one ∷ sent)) [
        | true ↦ omega (arith, rest, counted, both, one_get one.1)
        | false ↦ omega (arith, rest, counted)
      ]

  -- so none of puts
  pub none_of_puts : (sent : List (ℕ × Sent)) → ArePuts sent → gets_to sent ≡ 0
  none_of_puts sent puts =
      let none =
      sum_by-le (λ (one : ℕ × Sent). cond (is_ask one.1) 1 0) 0 sent
      (All-weaker (λ (one : ℕ × Sent). is_ask one.1 ≡ false) (λ (one : ℕ × Sent). cond (is_ask one.1) 1 0 ≤ 0)
      (λ one is. subst (λ ask. cond ask 1 0 ≤ 0) (sym is) (omega arith)) sent puts)
      in
      omega (arith, few_gets sent, none)

  module _ (table : List (List ℕ)) (client : Client) where
    asked_as_many : (state : State) (first : ℕ) (line : Line) (answer : Answer) (its : List PlainReply) → IsAsked line → IsAnswered table client state first line answer its
        → AllZip IsReplyTo (asks_sent (order_asked table client line) first (key_asked line) (required client state.knows line) (length its)) its
        → gets_to (sent_by table client state first (length its) line answer) ≡ length (from_worker worker its)
    asked_as_many state first line answer its asked is all =
        ap gets_to (sent_by_replies table client state first line answer its asked is)
        ∙ as_many_replied (asks_sent (order_asked table client line) first (key_asked line) (required client state.knows line) (length its)) its all

    alone_as_many : (state : State) (first : ℕ) (line : Line) (answer : Answer) (its : List PlainReply) → (IsAsked line → ⊥) → its ≡ []
        → gets_to (sent_by table client state first (length its) line answer) ≡ length (from_worker worker its)
    alone_as_many state first line answer its no_ask none =
        let made : List (ℕ × Put) = puts_by client state line answer in
        ap gets_to (sent_alone table client state first (length its) line answer no_ask) ∙ none_of_puts (puts_sent table client made) (puts_are table client made)
        ∙ ap (λ those. length (from_worker worker those)) (sym none)

    line_as_many : (state : State) (first : ℕ) (line : Line) (answer : Answer) (its : List PlainReply) → IsAnswered table client state first line answer its
        → gets_to (sent_by table client state first (length its) line answer) ≡ length (from_worker worker its)
    line_as_many state first (lines.Get key named) answer its is = asked_as_many state first (lines.Get key named) answer its tt is is.asked
    line_as_many state first (lines.Await key session count) answer its is = asked_as_many state first (lines.Await key session count) answer its tt is is.asked
    line_as_many state first line answer its is = alone_as_many state first line answer its (λ asked. asked) is.1

    -- so of all answered lines
    pub lines_as_many : (state : State) (first : ℕ) (lines : List Line) (given : List Answer) (replies : List (List PlainReply)) → AreAnswered table client state first lines given replies
        → gets_to (sent_from table client state first (map length replies) lines given) ≡ length (from_worker worker (in_all replies))
    lines_as_many state first lines [] [] are = refl
    lines_as_many state first (line ∷ lines) (answer ∷ given) (its ∷ replies) are =
        let reached : State = after client state line answer in
        let now : List (ℕ × Sent) = sent_by table client state first (length its) line answer in
        let later : ℕ → List (ℕ × Sent) = λ n. sent_from table client reached (first + n) (map length replies) lines given in
        let here = line_as_many state first line answer its are.0 in
        let rest = lines_as_many reached (first + length its) lines given replies are.1 in
        ap (λ n. gets_to (now ++ later n)) (asks_by_replies table client state first line answer its are.0)
        ∙ gets_to-append now (later (length its))
        ∙ (λ j. here j + rest j)
        ∙ sym (ap length (from_worker-append worker its (in_all replies)) ∙ length-append (from_worker worker its) (from_worker worker (in_all replies)))
    lines_as_many state first [] [] (its ∷ replies) are = absurd are
    lines_as_many state first (line ∷ lines) [] (its ∷ replies) are = absurd are
    lines_as_many state first [] (answer ∷ given) replies are = absurd are
    lines_as_many state first (line ∷ lines) (answer ∷ given) [] are = absurd are
