-- Making and sending a line's puts.
use Rattle.std.specs.Prelude.{◌≡◌, ℕ, zero, suc, ◌+◌, ◌<◌, ◌≤◌, max, false, List, [], ◌∷◌, drop, length, option_map, slice_get, slice_index_or, Option, Some, None}
use Rattle.std.proofs.Common.{◌∙◌, refl, sym, ap, subst, arith, drop-drop}
use Rattle.std.proofs.lemmas.List.{length-map}
use Rattle.std.proofs.lemmas.Option.{same_Some, slice_get-get_or, slice_get-map}
use Rattle.composed_value.specs.declared.payload.Payload.{Payload}
use Rattle.composed_value.specs.declared.payload.Payload.TheVariants as payloads
use Rattle.composed_value.specs.declared.put.Put.{Put}
use Rattle.placement.specs.Asked.{home_at}
use Rattle.session_known.specs.Requests.{Sent, SentPut, puts_sent}
use Rattle.session_known.specs.Session.{Client, InState, Knowledge, State, knows_put, knows_committed, own_count, put_made, puts_by, puts_committed}
use Rattle.session_known.specs.declared.script.Line.{Line}
use Rattle.session_known.specs.declared.script.Line.TheVariants as lines
use Rattle.store_msg.specs.declared.request.Request.{Request}
use Rattle.store_msg.specs.declared.request.Request.TheVariants as requests
use Rattle.session_proxy.proofs.AfterLemmas.{count_next, puts_by_due}
use Rattle.session_proxy.proofs.KeepsLemmas.{open_most_is}
use Rattle.session_proxy.proofs.SentLemmas.{drop_one_more}
use Rattle.session_proxy.specs.Kept.{ArePutting}
use Rattle.session_proxy.specs.Lines.{answer_at, most_sent, puts_due}
use Rattle.session_proxy.specs.Local.{MakesNew, put_at}
use Rattle.session_proxy.specs.Polls.{is_ask}
use Rattle.session_proxy.specs.Share.{IsAsked, open_most, request_of}
use Rattle.session_proxy.specs.State.{Course, open_line, state_now}
use Rattle.session_proxy.specs.declared.local.Puts.{Puts}

-- the rest of a list from the next place on
drop_next : {X : Type 0} (items : List X) (i : ℕ) (first : X) (others : List X) → drop i items ≡ first ∷ others → drop (i + 1) items ≡ others
drop_next items i first others is = sym (drop-drop 1 i items) ∙ ap (drop 1) is

-- the first of them
get_of_drop : {X : Type 0} (items : List X) (i : ℕ) → slice_get items i ≡ slice_get (drop i items) 0
get_of_drop [] zero = refl
get_of_drop [] (suc i) = refl
get_of_drop (item ∷ items) zero = refl
get_of_drop (item ∷ items) (suc i) = get_of_drop items i

-- a line that asks nothing sends its puts at most
pub most_of_puts : (table : List (List ℕ)) (client : Client) (state : State) (first : ℕ) (line : Line) → (IsAsked line → ⊥) → most_sent table client state first line ≡ puts_sent table client (puts_by client state line (answer_at state line))
most_of_puts table client state first (lines.Put key payload) no_ask = refl
most_of_puts table client state first (lines.Get key named) no_ask = absurd (no_ask tt)
most_of_puts table client state first (lines.Await key session count) no_ask = absurd (no_ask tt)
most_of_puts table client state first lines.Begin no_ask = refl
most_of_puts table client state first lines.Commit no_ask = refl
most_of_puts table client state first lines.Abort no_ask = refl

-- as many puts are committed as are due
pub committed_length : (client : Client) (knows : Knowledge) (lamport place : ℕ) (puts : List (ℕ × Payload)) → length (puts_committed client knows lamport place puts) ≡ length puts
committed_length client knows lamport place [] = refl
committed_length client knows lamport place (put ∷ puts) = ap suc (committed_length client (knows_put client knows put.0 (own_count knows put.0 + 1) lamport) lamport (place + 1) puts)

-- each goes to the home of its key
pub put_there : (table : List (List ℕ)) (client : Client) (knows : Knowledge) (lamport place : ℕ) (puts : List (ℕ × Payload)) (i : ℕ) (d : ℕ × Payload) → i < length puts
    → (put : Put) × (slice_get (puts_sent table client (puts_committed client knows lamport place puts)) i ≡ Some (home_at table client.session (slice_index_or puts i d).0, SentPut (slice_index_or puts i d).0 put))
put_there table client knows lamport place [] i d low = absurd (omega (arith, low))
put_there table client knows lamport place (put ∷ puts) zero d low = (_, refl)
put_there table client knows lamport place (put ∷ puts) (suc i) d low =
    put_there table client (knows_put client knows put.0 (own_count knows put.0 + 1) lamport) lamport (place + 1) puts i d (omega (arith, low))

module _ (course : Course) (line : Line) (at : open_line course ≡ Some line) (state : State) (puts : Puts) where
  -- the requests of a line that makes puts
  pub puts_most : {made : Option Request} → ArePutting course line state puts made
      → open_most course ≡ puts_sent course.table course.client (puts_committed course.client (state_now course).knows puts.lamport 0 puts.puts)
  puts_most putting =
      open_most_is course line at ∙ most_of_puts course.table course.client (state_now course) (course.asks + 1) line putting.no_ask
      ∙ ap (puts_sent course.table course.client) (
      puts_by_due course.client (state_now course) line putting.no_ask
      ∙ ap (λ lamport. puts_committed course.client (state_now course).knows lamport 0 (puts_due (state_now course) line)) (sym putting.lamport_is)
      ∙ ap (puts_committed course.client (state_now course).knows puts.lamport 0) (sym putting.puts_are))

  -- there are as many as puts
  pub puts_length : {made : Option Request} → ArePutting course line state puts made → length (open_most course) ≡ length puts.puts
  puts_length putting = ap length (puts_most putting) ∙ length-map _ _ ∙ committed_length course.client (state_now course).knows puts.lamport 0 puts.puts

  -- the request that is made goes to the home of its key
  pub made_there : (request : Request) → ArePutting course line state puts (Some request)
      → (item : Sent) × (slice_get (open_most course) course.out ≡ Some (home_at course.table course.client.session (put_at puts course.out).0, item)) × (request_of item ≡ request) × (is_ask item ≡ false)
  made_there request putting =
      let there = put_there course.table course.client (state_now course).knows puts.lamport 0 puts.puts course.out (0, payloads.On) putting.left in
      let item : Sent = SentPut (put_at puts course.out).0 there.0 in
      let is : slice_get (open_most course) course.out ≡ Some (home_at course.table course.client.session (put_at puts course.out).0, item) =
      ap (λ list. slice_get list course.out) (puts_most putting) ∙ there.1
      in
      (item, is, same_Some _ _ (sym (ap (option_map (λ (entry : ℕ × Sent). request_of entry.1)) is) ∙ putting.made_is), refl)

  -- one more put is made
  pub makes_one : (session session_now : InState) (made : Option Request) → session.state ≡ state → session.client ≡ course.client → ArePutting course line state puts None
      → MakesNew puts made session session_now course.out → (request : Request) × (made ≡ Some request) × ArePutting course line session_now.state puts (Some request)
  makes_one session session_now made is client putting makes =
      let e : ℕ × Payload = put_at puts course.out in
      let whole : List (ℕ × Put) = puts_committed course.client (state_now course).knows puts.lamport 0 puts.puts in
      let knows : Knowledge = knows_put course.client state.knows e.0 (own_count state.knows e.0 + 1) puts.lamport in
      let put : Put = put_made course.client state.knows e.0 e.1 (own_count state.knows e.0 + 1) puts.lamport course.out in
      let none_more : course.out + 0 ≡ course.out = omega arith in
      let others : List (ℕ × Payload) = drop (course.out + 1) puts.puts in
      let left : drop course.out puts.puts ≡ e ∷ others = drop_one_more puts.puts course.out e (slice_get-get_or puts.puts course.out (0, payloads.On) putting.left) in
      let rest : drop course.out whole ≡ (e.0, put) ∷ puts_committed course.client knows puts.lamport (course.out + 1) others =
      subst (λ n. drop n whole ≡ puts_committed course.client state.knows puts.lamport n (drop n puts.puts)) none_more putting.rest ∙ ap (puts_committed course.client state.knows puts.lamport course.out) left
      in
      let known : knows_committed course.client knows puts.lamport others ≡ knows_committed course.client (state_now course).knows puts.lamport puts.puts =
      sym (ap (knows_committed course.client state.knows puts.lamport) left)
      ∙ subst (λ n. knows_committed course.client state.knows puts.lamport (drop n puts.puts) ≡ knows_committed course.client (state_now course).knows puts.lamport puts.puts) none_more putting.knows
      in
      let put_of : Client → State → Put = λ client state. put_made client state.knows e.0 e.1 (own_count state.knows e.0 + 1) puts.lamport course.out in
      let is_put : put_of session.client session.state ≡ put = ap (λ client. put_of client session.state) client ∙ ap (put_of course.client) is in
      let request : Request = requests.Put e.0 put in
      let state_of : Client → State → State = λ client state. record {
        knows = knows_put client state.knows e.0 (own_count state.knows e.0 + 1) (max state.knows.lamport puts.lamport);
        held = state.held;
      } in
      let greater : max state.knows.lamport puts.lamport ≡ puts.lamport = omega (arith, putting.low) in
      let new : State = record { knows = knows; held = None } in
      let state_is : session_now.state ≡ new =
      ap (λ (session : InState). session.state) makes.1 ∙ ap (λ client. state_of client session.state) client ∙ ap (state_of course.client) is
      ∙ ap (λ lamport. record { knows = knows_put course.client state.knows e.0 (own_count state.knows e.0 + 1) lamport; held = state.held }) greater
      ∙ ap (λ held. record { knows = knows; held = held }) putting.none_held
      in
      let there : slice_get (open_most course) course.out ≡ Some (home_at course.table course.client.session e.0, SentPut e.0 put) =
      ap (λ list. slice_get list course.out) (puts_most putting) ∙ slice_get-map _ whole course.out ∙ ap (option_map _) (get_of_drop whole course.out ∙ ap (λ list. slice_get list 0) rest)
      in (
        request,
        makes.0 ∙ ap (λ put. Some (requests.Put e.0 put)) is_put,
        subst (λ state. ArePutting course line state puts (Some request)) (sym state_is) (record {
          puts_are = putting.puts_are;
          lamport_is = putting.lamport_is;
          no_ask = putting.no_ask;
          left = putting.left;
          none_held = refl;
          rest = drop_next whole course.out (e.0, put) _ rest;
          knows = known;
          low = omega arith;
          counts = λ key.
              let one = count_next state.knows course.client key e.0 puts.lamport in
              let fewer : length (drop course.out puts.puts) ≡ suc (length others) = ap length left in
              let before : own_count state.knows key + length (drop course.out puts.puts) ≤ length course.answers + 1 =
              subst (λ n. own_count state.knows key + length (drop n puts.puts) ≤ length course.answers + 1) none_more (putting.counts key)
              in
              omega (arith, one, fewer, before);
          made_is = ap (option_map (λ (entry : ℕ × Sent). request_of entry.1)) there;
        }),
      )
