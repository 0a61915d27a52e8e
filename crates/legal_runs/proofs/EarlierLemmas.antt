-- The clocks that a session's answers had from a worker are those of replies of that worker.
use Rattle.std.specs.Prelude.{◌≡◌, ◌==◌, ◌&&◌, ℕ, ◌+◌, Bool, true, false, cond, if◌then◌else◌, List, [], ◌∷◌, ◌++◌, All, Contains, filter_map, length, slice_index_or, ◌%◌, Option, Some, None, IfSome}
use Rattle.std.specs.List.{AllZip, cons_option}
use Rattle.std.proofs.Common.{◌∙◌, refl, sym, ap, subst, inl, inr, length-append}
use Rattle.std.proofs.lemmas.Bool.{and_parts, eq-eqb, eqb-true}
use Rattle.std.proofs.lemmas.List.Elements.{All-cons, All-nil, All-weaker, Contains-append_left, Contains-append_right}
use Rattle.std.proofs.lemmas.Option.{IfSome_then}
use Rattle.lattice_laws.proofs.MembersLemmas.{contains_cases, contains_first, contains_later, contains_none}
use Rattle.composed_value.specs.Cell.{PlainCell}
use Rattle.session_known.specs.Lawful.{earlier_from, had_from, required}
use Rattle.session_known.specs.Requests.{Sent, SentAsk, asks_sent}
use Rattle.session_known.specs.Session.{Client, State, after, shown_to}
use Rattle.session_known.specs.declared.report.Answer.{Answer}
use Rattle.session_known.specs.declared.script.Level.{Level}
use Rattle.session_known.specs.declared.script.Level.TheVariants.{Causal, Committed, Eventual}
use Rattle.session_known.specs.declared.script.Line.{Line}
use Rattle.session_known.specs.declared.script.Line.TheVariants as lines
use Rattle.session_proxy.specs.Lines.{most_asks}
use Rattle.session_proxy.specs.Local.{key_asked, order_asked}
use Rattle.session_proxy.specs.Run.{AreAnswered, IsAnswered, IsReplied, IsReplyTo, answer_shown}
use Rattle.session_proxy.specs.Share.{IsAsked}
use Rattle.session_proxy.proofs.AskLemmas.{asks_length}
use Rattle.store_msg.specs.Reply.{PlainReply, shown_clock}
use Rattle.store_msg.specs.declared.reply.Answered.{Answered}
use Rattle.store_msg.specs.declared.reply.Answered.TheVariants.{Again, Found}
use Rattle.run_ledger.proofs.ByWorkerLemmas.{from_worker, from_worker-append, in_all}
use Rattle.run_ledger.proofs.GetsLemmas.{asks_more, zip_parts}
use Rattle.legal_runs.proofs.MomentsLemmas.{pairs}

-- what a session is shown of a cell has the cell's clock
pub shown_clock_is : (level : Level) (cell : PlainCell) → (shown_to level cell).clock ≡ cell.clock
shown_clock_is Causal cell = refl
shown_clock_is Eventual cell = refl
shown_clock_is Committed cell = refl

-- a get or an await is answered by the replies to its asks
pub replied_as : (table : List (List ℕ)) (client : Client) (state : State) (first : ℕ) (line : Line) (answer : Answer) (its : List PlainReply) → IsAsked line
    → IsAnswered table client state first line answer its
    → IsReplied client (order_asked table client line) first (key_asked line) (required client state.knows line) (most_asks table client.level (key_asked line)) answer its
replied_as table client state first (lines.Get key named) answer its asked is = is
replied_as table client state first (lines.Await key session count) answer its asked is = is
replied_as table client state first line answer its asked is = absurd asked

module _ {client : Client} {order : List ℕ} {first key most : ℕ} {required : List (ℕ × ℕ)} {answer : Answer} {its : List PlainReply} (is : IsReplied client order first key required most answer its) where
  -- how many asks lacked something
  abbrev pub lacked : ℕ
  lacked = length is.lacking

  pub as_many_asks : length its ≡ lacked + 1
  as_many_asks = ap length is.replies_are ∙ length-append is.lacking (is.last ∷ [])

  -- the last ask, and whom it went to
  abbrev pub asked_last : ℕ
  asked_last = slice_index_or order (lacked % length order) 0

  abbrev pub last_ask : ℕ × Sent
  last_ask = (asked_last, SentAsk (first + lacked) key required)

  pub asks_are : asks_sent order first key required (length its) ≡ asks_sent order first key required lacked ++ last_ask ∷ []
  asks_are = ap (asks_sent order first key required) as_many_asks ∙ asks_more order first key required lacked

  asked_parts : AllZip IsReplyTo (asks_sent order first key required lacked) is.lacking × AllZip IsReplyTo (last_ask ∷ []) (is.last ∷ [])
  asked_parts =
      zip_parts IsReplyTo (asks_sent order first key required lacked) (last_ask ∷ []) is.lacking (is.last ∷ []) (asks_length order first key required lacked)
      (subst (AllZip IsReplyTo (asks_sent order first key required lacked ++ last_ask ∷ [])) is.replies_are (subst (λ asks. AllZip IsReplyTo asks its) asks_are is.asked))

  -- those that lacked something are replied to one by one, and so is the last
  pub lacking_asked : AllZip IsReplyTo (asks_sent order first key required lacked) is.lacking
  lacking_asked = asked_parts.0

  pub last_asked_is : IsReplyTo last_ask is.last
  last_asked_is = asked_parts.1.0

module _ (key worker : ℕ) where
  -- a reply of the worker on the key shows the clock
  abbrev pub HasShown : List PlainReply → List (ℕ × ℕ) → Type 0
  HasShown replies clock = (reply : PlainReply) × Contains (from_worker worker replies) reply × (reply.key ≡ key) × (shown_clock reply.answered ≡ clock)

  -- what a line's answer had, by the reply that it shows
  had_shown : (level : Level) (asks by : ℕ) (line : Line) (answered : Answered) → IsAsked line
      → had_from key worker (line, answer_shown level asks by answered) ≡ cond ((key_asked line == key) && (by == worker)) (Some (shown_clock answered)) None
  had_shown level asks by (lines.Get its_key named) (Found cell) asked = ap (λ clock. cond ((its_key == key) && (by == worker)) (Some clock) None) (shown_clock_is level cell)
  had_shown level asks by (lines.Await its_key session count) (Found cell) asked = ap (λ clock. cond ((its_key == key) && (by == worker)) (Some clock) None) (shown_clock_is level cell)
  had_shown level asks by (lines.Get its_key named) (Again clock) asked = refl
  had_shown level asks by (lines.Await its_key session count) (Again clock) asked = refl
  had_shown level asks by line answered asked = absurd asked

  -- a reply of the worker is one of those from it
  from_it : (replies : List PlainReply) (reply : PlainReply) → Contains replies reply → reply.worker ≡ worker → Contains (from_worker worker replies) reply
  from_it [] reply has_it same = absurd (contains_none reply has_it)
  from_it (first ∷ replies) reply has_it same =
      let rest : List PlainReply = from_worker worker replies in
      elim (contains_cases first reply replies has_it) [
        | inl is ↦
            subst (λ t. Contains (if t then first ∷ rest else rest) reply) (sym (eq-eqb first.worker worker (ap (λ (r : PlainReply). r.worker) is ∙ same)))
            (subst (Contains (first ∷ rest)) is (contains_first first rest))
        | inr there ↦
            let later = from_it replies reply there same in
            elim (first.worker == worker) as (λ t. Contains (if t then first ∷ rest else rest) reply) [
              | true ↦ contains_later first reply rest later
              | false ↦ later
            ]
      ]

  -- where a test passes, a value is there
  where_passes : {X : Type 0} (P : X → Type 0) (test : Bool) (value : X) → (test ≡ true → P value) → IfSome (cond test (Some value) None) P
  where_passes P true value holds = holds refl
  where_passes P false value holds = tt

  asked_had : (table : List (List ℕ)) (client : Client) (state : State) (first : ℕ) (line : Line) (answer : Answer) (its : List PlainReply) → IsAsked line
      → IsReplied client (order_asked table client line) first (key_asked line) (required client state.knows line) (most_asks table client.level (key_asked line)) answer its
      → IfSome (had_from key worker (line, answer)) (HasShown its)
  asked_had table client state first line answer its asked is =
      let had = had_shown client.level (length its) is.last.worker line is.last.answered asked in
      subst (λ clock. IfSome clock (HasShown its)) (sym (ap (λ given. had_from key worker (line, given)) is.answer_is ∙ had))
      (where_passes (HasShown its) ((key_asked line == key) && (is.last.worker == worker)) (shown_clock is.last.answered) (λ passes.
      let both = and_parts (key_asked line == key) (is.last.worker == worker) passes in (
        is.last,
        from_it its is.last (subst (λ those. Contains those is.last) (sym is.replies_are) (Contains-append_right is.lacking (is.last ∷ []) is.last (contains_first is.last [])))
            (eqb-true is.last.worker worker both.1),
        (last_asked_is is).2 ∙ eqb-true (key_asked line) key both.0,
        refl,
      )))

  line_had : (table : List (List ℕ)) (client : Client) (state : State) (first : ℕ) (line : Line) (answer : Answer) (its : List PlainReply) → IsAnswered table client state first line answer its
      → IfSome (had_from key worker (line, answer)) (HasShown its)
  line_had table client state first (lines.Get its_key named) answer its is = asked_had table client state first (lines.Get its_key named) answer its tt is
  line_had table client state first (lines.Await its_key session count) answer its is = asked_had table client state first (lines.Await its_key session count) answer its tt is
  line_had table client state first line answer its is = tt

  -- of a list and another, what a first item adds
  filter_first : {X Y : Type 0} (P : Y → Type 0) (pick : X → Option Y) (x : X) (xs : List X) → IfSome (pick x) P → All P (filter_map pick xs) → All P (filter_map pick (x ∷ xs))
  filter_first P pick x xs first rest =
      elim (pick x) as (λ picked. IfSome picked P → All P (cons_option picked (filter_map pick xs))) [
        | None ↦ λ none. rest
        | Some y ↦ λ is. All-cons P y (filter_map pick xs) is rest
      ] first

  -- so each clock that the answers had
  pub earlier_shown : (table : List (List ℕ)) (client : Client) (state : State) (first : ℕ) (lines : List Line) (given : List Answer) (replies : List (List PlainReply))
      → AreAnswered table client state first lines given replies → All (HasShown (in_all replies)) (earlier_from key worker (pairs lines given))
  earlier_shown table client state first (line ∷ lines) (answer ∷ given) (its ∷ replies) are =
      let reached : State = after client state line answer in
      let here = line_had table client state first line answer its are.0 in
      let rest = earlier_shown table client reached (first + length its) lines given replies are.1 in
      let split = from_worker-append worker its (in_all replies) in
      filter_first (HasShown (in_all (its ∷ replies))) (had_from key worker) (line, answer) (pairs lines given)
      (IfSome_then (had_from key worker (line, answer)) here (λ clock shown.
      (shown.0, subst (λ those. Contains those shown.0) (sym split) (Contains-append_left (from_worker worker its) (from_worker worker (in_all replies)) shown.0 shown.1), shown.2, shown.3)))
      (All-weaker (HasShown (in_all replies)) (HasShown (in_all (its ∷ replies))) (λ clock shown.
      (shown.0, subst (λ those. Contains those shown.0) (sym split) (Contains-append_right (from_worker worker its) (from_worker worker (in_all replies)) shown.0 shown.1), shown.2, shown.3))
      (earlier_from key worker (pairs lines given)) rest)
  earlier_shown table client state first (line ∷ lines) (answer ∷ given) [] are = absurd are
  earlier_shown table client state first [] given replies are = All-nil (HasShown (in_all replies))
  earlier_shown table client state first (line ∷ lines) [] replies are = All-nil (HasShown (in_all replies))
