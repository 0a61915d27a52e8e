-- Each line of a session has a lawful answer, and what it shows is sound.
use Rattle.std.specs.Prelude.{◌≡◌, ◌<◌, ◌≤◌, ◌==◌, ◌*◌, ℕ, ◌+◌, ◌-◌, Bool, true, false, if◌then◌else◌, List, [], ◌++◌, All, Contains, filter, length, slice_index_or, Option, None}
use Rattle.std.specs.List.{AllZip}
use Rattle.std.proofs.Common.{◌∙◌, refl, sym, ap, subst, inl, inr, append-nil, length-append, arith}
use Rattle.std.proofs.lemmas.Bool.{cases_lt, eqb-true, le-leb, true≢false}
use Rattle.std.proofs.lemmas.List.{get_or-append_right}
use Rattle.std.proofs.lemmas.List.Elements.{All-contains, All-filter, All-map, Contains-get_or}
use Rattle.std.proofs.lemmas.Option.{get_or_from_slice_get, slice_get_within}
use Rattle.lattice_laws.proofs.MembersLemmas.{contains_filter, contains_filtered, contains_map}
use Rattle.clock_lattice.specs.Clock.{count_of, covers}
use Rattle.composed_value.specs.Cell.{PlainCell}
use Rattle.composed_value.specs.Keyed.{kind_at, puts_on}
use Rattle.composed_value.specs.Sound.{counted, is_counted}
use Rattle.composed_value.specs.declared.put.Put.{Put}
use Rattle.placement.specs.Asked.{replicas_of}
use Rattle.session_known.specs.Accepted.{accepted, made_on}
use Rattle.session_known.specs.Lawful.{AreLawful, MayReply, IsClockFrom, IsLawful, IsLawfulAgain, IsLawfulReply, IsTrueOf, required}
use Rattle.session_known.specs.Script.{IsValidScript, MayStand}
use Rattle.session_known.specs.Session.{Client, State, after, own_count, puts_by, puts_from, shown_to}
use Rattle.session_known.specs.declared.report.Answer.{Answer}
use Rattle.session_known.specs.declared.report.Answer.TheVariants as answers
use Rattle.session_known.specs.declared.report.Report.{Report}
use Rattle.session_known.specs.declared.script.Level.{Level}
use Rattle.session_known.specs.declared.script.Level.TheVariants.{Causal, Committed, Eventual}
use Rattle.session_known.specs.declared.script.Line.{Line}
use Rattle.session_known.specs.declared.script.Line.TheVariants as lines
use Rattle.session_known.specs.declared.script.Script.{Script}
use Rattle.session_known.proofs.NumberedLemmas.{made_on-append, number_at}
use Rattle.session_proxy.specs.Lines.{MayRun, most_asks}
use Rattle.session_proxy.specs.Local.{key_asked, order_asked, worker_asked}
use Rattle.session_proxy.specs.Run.{IsReplied, answer_shown}
use Rattle.session_proxy.specs.Share.{IsAsked}
use Rattle.session_proxy.proofs.AfterLemmas.{last_is}
use Rattle.session_proxy.proofs.RunLemmas.{again_is_causal}
use Rattle.store_msg.specs.Reply.{answer_of, is_found}
use Rattle.store_msg.specs.declared.reply.Answered.{Answered}
use Rattle.store_msg.specs.declared.reply.Answered.TheVariants.{Again, Found}
use Rattle.run_ledger.specs.Came.{Came}
use Rattle.run_ledger.specs.Ledger.{Ledger}
use Rattle.legal_runs.proofs.AcceptedLemmas.{are}
use Rattle.legal_runs.proofs.AnsweredLemmas.{IsAbove}
use Rattle.legal_runs.proofs.AskedLemmas.{key_known, may_reply}
use Rattle.legal_runs.proofs.EarlierLemmas.{as_many_asks, lacked, last_asked_is, shown_clock_is}
use Rattle.legal_runs.proofs.LinesLemmas.{MomentOf, answered_is, cell, cell_sound, count_before, covers_earlier, own_at_home, replied, worker, worker_is_replica}
use Rattle.legal_runs.proofs.MadePutsLemmas.{some_of}
use Rattle.legal_runs.proofs.MomentsLemmas.{AllLines, at_each_line, lawful_lines, zipped_lines}
use Rattle.legal_runs.proofs.PutsInScriptLemmas.{session_is_valid}
use Rattle.session_proxy.proofs.ReplicasLemmas.{key_has_replicas, key_in_table}
use Rattle.legal_runs.proofs.RepliesLemmas.{its}
use Rattle.legal_runs.proofs.SessionsLemmas.{IsSession, answers_at, client_at, lines_at, origin_at, own_made, start_at}
use Rattle.legal_runs.proofs.ShownLemmas.{IsOfAccepted, IsOfSound, ShowsSound, shows_true}

-- what a session is shown of a cell has the cell's top
shown_top_is : (level : Level) (of_key : PlainCell) → (shown_to level of_key).top ≡ of_key.top
shown_top_is Causal of_key = refl
shown_top_is Eventual of_key = refl
shown_top_is Committed of_key = refl

-- a line that asks makes no puts
asks_make_none : (client : Client) (state : State) (line : Line) (answer : Answer) → IsAsked line → puts_by client state line answer ≡ []
asks_make_none client state (lines.Get key named) answer asked = refl
asks_make_none client state (lines.Await key session count) answer asked = refl
asks_make_none client state line answer asked = absurd asked

-- once it is shown a cell, its top is no more than the Lamport number that is known
top_known : (client : Client) (state : State) (line : Line) (level : Level) (worker : ℕ) (cell : PlainCell) → IsAsked line
    → cell.top ≤ (after client state line (answers.Got worker (shown_to level cell))).knows.lamport
top_known client state (lines.Get key named) level worker cell asked = omega (arith, shown_top_is level cell)
top_known client state (lines.Await key session count) level worker cell asked = omega (arith, shown_top_is level cell)
top_known client state line level worker cell asked = absurd asked

-- a line that may stand may run
may_run : (script : Script) (table : List (List ℕ)) (valid : IsValidScript script table) (level : Level) (line : Line) → MayStand script table level line → IsAsked line → MayRun table level line
may_run script table valid level (lines.Get key named) may asked = (key_in_table script table key valid may.0, may.1)
may_run script table valid level (lines.Await key session count) may asked = (key_in_table script table key valid may.0, may.2)
may_run script table valid level line may asked = absurd asked

-- a line that does not ask has the answers that it may have whatever was answered before
lawful_alone : (table : List (List ℕ)) (client : Client) (state : State) (earlier : List (Line × Answer)) (line : Line) (answer : Answer) → (IsAsked line → ⊥)
    → IsLawful table client state [] line answer → IsLawful table client state earlier line answer
lawful_alone table client state earlier (lines.Get key named) answer no_ask lawful = absurd (no_ask tt)
lawful_alone table client state earlier (lines.Await key session count) answer no_ask lawful = absurd (no_ask tt)
lawful_alone table client state earlier (lines.Put key payload) (answers.Put number lamport) no_ask lawful = lawful
lawful_alone table client state earlier (lines.Put key payload) answers.Held no_ask lawful = lawful
lawful_alone table client state earlier (lines.Put key payload) answers.Worn no_ask lawful = lawful
lawful_alone table client state earlier lines.Begin answers.Begun no_ask lawful = lawful
lawful_alone table client state earlier lines.Commit (answers.Committed puts lamport) no_ask lawful = lawful
lawful_alone table client state earlier lines.Commit answers.Worn no_ask lawful = lawful
lawful_alone table client state earlier lines.Abort (answers.Aborted puts) no_ask lawful = lawful
lawful_alone table client state earlier line answer no_ask lawful = absurd lawful

module _ (script : Script) (table : List (List ℕ)) (report : Report) (ledger : Ledger) (valid : IsValidScript script table) (came : Came script table report ledger)
    (session : ℕ) (within : IsSession script session) where
  abbrev client : Client
  client = client_at script session

  abbrev level : Level
  level = client.level

  -- what is to hold of each line
  abbrev IsGood : List (Line × Answer) → State → Line → Answer → Type 0
  IsGood earlier state line answer = IsLawful table client state earlier line answer × ShowsSound script.kinds (accepted script report) level line answer

  -- a line of the session in its place
  abbrev MomentAt : List (Line × Answer) → State → Line → Answer → Type 0
  MomentAt = MomentOf script table report ledger valid came session within

  -- what the session made on a key
  abbrev puts_there : ℕ → List Put
  puts_there key = made_on session key (accepted script report)

  module _ {earlier : List (Line × Answer)} {state : State} {line : Line} {answer : Answer} (moment : MomentAt earlier state line answer) (asked : IsAsked line) (may : MayStand script table level line) where
    abbrev key : ℕ
    key = key_asked line

    abbrev its_worker : ℕ
    its_worker = worker script table report ledger valid came session within moment asked may

    abbrev its_cell : PlainCell
    its_cell = cell script table report ledger valid came session within moment asked may

    abbrev its_what : List (ℕ × ℕ)
    its_what = required client state.knows line

    abbrev its_replied : IsReplied client (order_asked table client line) moment.first key its_what (most_asks table level key) answer moment.its
    its_replied = replied script table report ledger valid came session within moment asked may

    -- the puts on the key that the session makes after the line
    abbrev then_made : List Put
    then_made = made_on session key moment.later_made

    split_there : puts_there key ≡ made_on session key (puts_from client (start_at script report session) (lines_at script session) moment.given) ++ then_made
    split_there =
        (are script table report ledger valid came).made session key within ∙ sym (own_made client (start_at script report session) session key (lines_at script session) (answers_at report session) refl)
        ∙ ap (made_on session key) (moment.made_is ∙ ap (λ now. puts_from client (start_at script report session) (lines_at script session) moment.given ++ now ++ moment.later_made) (asks_make_none client state line answer asked)
        ∙ ap (λ before. before ++ moment.later_made) (append-nil (puts_from client (start_at script report session) (lines_at script session) moment.given)))
        ∙ made_on-append session key (puts_from client (start_at script report session) (lines_at script session) moment.given) moment.later_made

    -- each of these is above the Lamport number that is known once the line is answered
    then_above : All (λ put. (after client state line answer).knows.lamport < put.lamport) then_made
    then_above =
        let known : ℕ = (after client state line answer).knows.lamport in
        All-filter (λ (put : Put). session == put.session) (λ put. known < put.lamport) (puts_on key moment.later_made)
        (All-map (λ put. known < put.lamport) (λ (entry : ℕ × Put). entry.1) (filter (λ (entry : ℕ × Put). entry.0 == key) moment.later_made)
        (All-filter (λ (entry : ℕ × Put). entry.0 == key) (IsAbove known) moment.later_made moment.later_above))

    -- a put that the cell counts is not above its top
    counted_below : (put : Put) → Contains (puts_on key (accepted script report)) put → put.number ≤ count_of put.session its_cell.clock → put.lamport ≤ its_cell.top
    counted_below put has_it low =
        let sound = (cell_sound script table report ledger valid came session within moment asked may).sound in
        sound.shown.top_is.0 put.lamport (contains_map (λ (p : Put). p.lamport) (counted (puts_on key (accepted script report)) its_cell.clock) put
        (contains_filter (is_counted its_cell.clock) (puts_on key (accepted script report)) put has_it (le-leb put.number (count_of put.session its_cell.clock) low)))

    -- So the cell counts no later put of the session: that put would be above the cell's top, which the session knows.
    no_later_put : its_cell.top ≤ (after client state line answer).knows.lamport → count_of session its_cell.clock ≤ own_count state.knows key
    no_later_put known =
        let own : ℕ = own_count state.knows key in
        let count : ℕ = count_of session its_cell.clock in
        elim (cases_lt own count) [
          | inl more ↦ absurd (later_is_counted more known)
          | inr few ↦ omega (arith, few)
        ]
      where
        later_is_counted : own_count state.knows key < count_of session its_cell.clock → its_cell.top ≤ (after client state line answer).knows.lamport → ⊥
        later_is_counted more known =
            let own : ℕ = own_count state.knows key in
            let before : List Put = made_on session key (puts_from client (start_at script report session) (lines_at script session) moment.given) in
            let long : length before ≡ own = count_before script table report ledger valid came session within moment asked may in
            let whole : length (puts_there key) ≡ length before + length then_made = ap length split_there ∙ length-append before then_made in
            let most = (cell_sound script table report ledger valid came session within moment asked may).sound.shown.counts session in
            let some : 0 < length then_made = omega (arith, more, most, long, whole) in
            let none : Put = (some_of then_made some).0 in
            let put : Put = slice_index_or then_made 0 none in
            let there : Contains then_made put = Contains-get_or then_made 0 none some in
            let place : length before - length before ≡ 0 = omega arith in
            let at : slice_index_or (puts_there key) (length before) none ≡ put =
            ap (λ puts. slice_index_or puts (length before) none) split_there ∙ get_or-append_right before then_made (length before) (length before) none refl (omega arith)
            ∙ ap (λ i. slice_index_or then_made i none) place
            in
            let inside : length before < length (puts_there key) = omega (arith, whole, some) in
            let among : Contains (puts_there key) put = subst (Contains (puts_there key)) at (Contains-get_or (puts_there key) (length before) none inside) in
            let from = contains_filtered (λ (p : Put). session == p.session) (puts_on key (accepted script report)) put among in
            let number = number_at 0 (puts_there key) ((are script table report ledger valid came).next session key) (length before) none inside in
            let numbered : put.number ≡ own + 1 = ap (λ (p : Put). p.number) (sym at) ∙ number ∙ omega (arith, long) in
            let low : put.number ≤ count_of put.session its_cell.clock = subst (λ s. put.number ≤ count_of s its_cell.clock) (eqb-true session put.session from.1) (omega (arith, numbered, more)) in
            let above = All-contains (λ p. (after client state line answer).knows.lamport < p.lamport) then_made put then_above there in
            omega (arith, above, known, counted_below put from.0 low)

    -- the answer, by the cell of its worker
    abbrev Answers : Answered → Type 0
    Answers answered = answer ≡ answer_shown level (length moment.its) its_worker answered

    answers_by : Answers (answer_of its_cell its_what)
    answers_by =
        its_replied.answer_is
        ∙ (λ j. answer_shown level (length moment.its) ((last_asked_is its_replied).1 j) (answered_is script table report ledger valid came session within moment asked may j))

    -- a clock of the cell's worker, as far as earlier answers and the session's own puts go
    clock_from : IsClockFrom table client state.knows earlier key its_worker its_cell.clock
    clock_from = record {
      covers_earlier = covers_earlier script table report ledger valid came session within moment asked may;
      own_at_home = own_at_home script table report ledger valid came session within moment asked may;
    }

    -- What its lawful reply is, where the cell covers what is required.
    got_lawful : (named : Option ℕ) → MayReply level table session key named its_worker → covers its_cell.clock its_what ≡ true → Answers (Found its_cell)
        → IsLawfulReply table client state.knows earlier line key named its_worker (shown_to level its_cell).clock
    got_lawful named replies covered is =
        subst (IsLawfulReply table client state.knows earlier line key named its_worker) (sym (shown_clock_is level its_cell)) (record {
          worker_is = replies;
          clock_is = clock_from;
          no_later_put = no_later_put (subst (λ given. its_cell.top ≤ (after client state line given).knows.lamport) (sym is) (top_known client state line level its_worker its_cell asked));
          covers_required = covered;
        })

    -- And what its lawful end of asking is, where it does not.
    again_lawful : level ≡ Causal → covers its_cell.clock its_what ≡ false → IsLawfulAgain table client state.knows earlier line key (length moment.its) its_worker its_cell.clock
    again_lawful causal lacks =
        let are = key_has_replicas script table key valid (key_known script table valid level line may asked) in
        let n : ℕ = length (replicas_of table key) in
        let asks : length moment.its ≡ 8 * n = elim its_replied.ends [
          | inl found ↦ absurd (true≢false (sym found ∙ ap is_found (answered_is script table report ledger valid came session within moment asked may) ∙ ap (λ t. is_found (if t then Found its_cell else Again its_cell.clock)) lacks))
          | inr most ↦ most ∙ ap (λ l. most_asks table l key) causal
        ] in
        let place : lacked its_replied ≡ 8 * n - 1 = omega (arith, asks, as_many_asks its_replied) in
        record {
          causal = causal;
          asks_are = asks;
          worker_is = ap (worker_asked table client line) place ∙ last_is script.config.workers table client line are causal asked (may_run script table valid level line may asked) within.0;
          clock_is = clock_from;
          lacks_required = lacks;
        }

    -- what is shown of it is sound
    shown_sound : IsOfSound (kind_at script.kinds key) (puts_on key (accepted script report)) level (shown_to level its_cell)
    shown_sound = record { cell = its_cell; is = refl; sound = cell_sound script table report ledger valid came session within moment asked may }

    clock_sound : IsOfAccepted (accepted script report) key its_cell.clock
    clock_sound =
        let sound = cell_sound script table report ledger valid came session within moment asked may in
        record { is_clock = sound.of_kind.is_cell.clock_is; counts = sound.sound.shown.counts }

    -- So is a line's answer, by whether the cell covers what is required.
    by_answer : (Good : Answer → Type 0) → (covers its_cell.clock its_what ≡ true → Answers (Found its_cell) → Good (answers.Got its_worker (shown_to level its_cell)))
        → (covers its_cell.clock its_what ≡ false → Good (answers.Again (length moment.its) its_worker its_cell.clock)) → Good answer
    by_answer Good got again = cases (covers its_cell.clock its_what) refl
      where
        cases : (covered : Bool) → covers its_cell.clock its_what ≡ covered → Good answer
        cases true is =
            let found : Answers (Found its_cell) = answers_by ∙ ap (λ t. answer_shown level (length moment.its) its_worker (if t then Found its_cell else Again its_cell.clock)) is in
            subst Good (sym found) (got is found)
        cases false is =
            let lacks : Answers (Again its_cell.clock) = answers_by ∙ ap (λ t. answer_shown level (length moment.its) its_worker (if t then Found its_cell else Again its_cell.clock)) is in
            subst Good (sym lacks) (again is)

  -- each line is good
  good_line : (earlier : List (Line × Answer)) (state : State) (line : Line) (answer : Answer) → MomentAt earlier state line answer → MayStand script table level line → IsGood earlier state line answer
  good_line earlier state (lines.Get key named) answer moment may =
      by_answer moment tt may (IsGood earlier state (lines.Get key named))
      (λ covered is. (
        got_lawful moment tt may named (may_reply script table valid session key may.0 level named (lacked (its_replied moment tt may)) may.1) covered is,
        shown_sound moment tt may,
      ))
      (λ lacks. (again_lawful moment tt may (again_is_causal level state.knows key (its_cell moment tt may).clock (sym lacks)) lacks, clock_sound moment tt may))
  good_line earlier state (lines.Await key other count) answer moment may =
      by_answer moment tt may (IsGood earlier state (lines.Await key other count))
      (λ covered is. (
        got_lawful moment tt may None (subst (λ l. MayReply l table session key None (its_worker moment tt may)) (sym may.2) (worker_is_replica script table report ledger valid came session within moment tt may)) covered is,
        shown_sound moment tt may,
      ))
      (λ lacks. (again_lawful moment tt may may.2 lacks, clock_sound moment tt may))
  good_line earlier state line answer moment may = (lawful_alone table client state earlier line answer (λ asked. asked) moment.is.0, tt)

  -- so are all lines of the session
  good_lines : AllLines client IsGood (start_at script report session) [] (lines_at script session) (answers_at report session)
  good_lines =
      let its = its script table report ledger came session within in
      at_each_line table client (origin_at script report session) (lines_at script session) (answers_at report session) its.replies IsGood (λ earlier state line answer moment.
      good_line earlier state line answer moment
      (subst (MayStand script table level) (get_or_from_slice_get (lines_at script session) (length moment.given) line line moment.at)
      ((session_is_valid script table session valid within).lines (length moment.given) line (slice_get_within (lines_at script session) (length moment.given) line moment.at)))) its.answered its.whole

  pub session_lawful : AreLawful table client (start_at script report session) [] (lines_at script session) (answers_at report session)
  session_lawful = lawful_lines table client IsGood (λ earlier state line answer good. good.0) (start_at script report session) [] (lines_at script session) (answers_at report session) good_lines

  pub session_shows : AllZip (ShowsSound script.kinds (accepted script report) level) (lines_at script session) (answers_at report session)
  session_shows = zipped_lines client IsGood (ShowsSound script.kinds (accepted script report) level) (λ earlier state line answer good. good.1) (start_at script report session) [] (lines_at script session) (answers_at report session) good_lines

  -- so what its answers say of the accepted puts is true
  pub session_true : AllZip (IsTrueOf script.kinds (accepted script report)) (lines_at script session) (answers_at report session)
  session_true = zipped_lines client IsGood (IsTrueOf script.kinds (accepted script report)) (λ earlier state line answer good. shows_true script.kinds (accepted script report) level line answer good.1)
      (start_at script report session) [] (lines_at script session) (answers_at report session) good_lines
