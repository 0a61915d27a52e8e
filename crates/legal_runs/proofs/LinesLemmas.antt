-- A get or an await of a session and the reply that answered it: what the reply was made from, and so which puts its clock counts.
use Rattle.std.specs.Prelude.{◌≡◌, ℕ, ◌+◌, true, false, cond, if◌then◌else◌, IsTrue, List, [], ◌∷◌, ◌++◌, All, AllPairs, Contains, flat_map, length, map}
use Rattle.std.specs.List.{AllZip}
use Rattle.std.proofs.Common.{◌∙◌, refl, sym, ap, subst, append-nil, length-append, arith}
use Rattle.std.proofs.lemmas.Bool.{eq-eqb}
use Rattle.std.proofs.lemmas.List.{append_assoc, length-map}
use Rattle.std.proofs.lemmas.List.Elements.{All-weaker, Contains-append_left}
use Rattle.lattice_laws.proofs.MembersLemmas.{contains_first}
use Rattle.mail_contract.proofs.WovenLemmas.{from_sender_here}
use Rattle.clock_lattice.specs.Clock.{count_of, covers}
use Rattle.composed_value.specs.Cell.{PlainCell}
use Rattle.composed_value.specs.Keyed.{kind_at, puts_on}
use Rattle.composed_value.specs.declared.put.Put.{Put}
use Rattle.placement.specs.Asked.{home_at, replicas_of}
use Rattle.placement.specs.Config.{IsOneOf}
use Rattle.session_known.specs.Accepted.{ends_of, made_on}
use Rattle.session_known.specs.Lawful.{earlier_from, required}
use Rattle.session_known.specs.Requests.{Sent, SentAsk, asks_sent, requests_of}
use Rattle.session_known.specs.Script.{IsValidScript, MayStand}
use Rattle.session_known.specs.Session.{Client, State, own_count, puts_from}
use Rattle.session_known.specs.declared.report.Answer.{Answer}
use Rattle.session_known.specs.declared.report.Report.{Report}
use Rattle.session_known.specs.declared.script.Line.{Line}
use Rattle.session_known.specs.declared.script.Script.{Script}
use Rattle.session_known.proofs.NumberedLemmas.{AreNumberedLines, next_of_lines, none_at_start}
use Rattle.session_proxy.specs.Lines.{most_asks}
use Rattle.session_proxy.specs.Local.{key_asked, order_asked}
use Rattle.session_proxy.specs.Run.{IsReplied}
use Rattle.session_proxy.specs.Share.{IsAsked, request_of, to_worker}
use Rattle.session_proxy.proofs.RunLemmas.{sent_by_replies}
use Rattle.session_proxy.proofs.SentLemmas.{to_worker-append}
use Rattle.store_msg.specs.Reply.{PlainReply, answer_of, shown_clock}
use Rattle.store_msg.specs.declared.reply.Answered.TheVariants.{Again, Found}
use Rattle.store_msg.specs.declared.request.Request.TheVariants as requests
use Rattle.worker_core.specs.Share.{CoversEarlier, IsAnswerCell, IsMadeFrom, IsReplyBy, entries_in, put_in, puts_in}
use Rattle.run_ledger.specs.Came.{Came}
use Rattle.run_ledger.specs.Ledger.{Ledger}
use Rattle.legal_runs.proofs.AcceptedLemmas.{are}
use Rattle.legal_runs.proofs.AnsweredLemmas.{as_many, lines_have, numbered}
use Rattle.legal_runs.proofs.AskedLemmas.{asked_is_replica, holds_key, key_known}
use Rattle.legal_runs.proofs.EarlierLemmas.{HasShown, asked_last, asks_are, earlier_shown, lacked, lacking_asked, last_asked_is, replied_as}
use Rattle.legal_runs.proofs.FrontsLemmas.{own_in_front}
use Rattle.run_ledger.proofs.ByWorkerLemmas.{from_worker, from_worker-append, in_all}
use Rattle.run_ledger.proofs.GetsLemmas.{IsMadeFor, as_many_replied, gets_in, gets_to-append, lines_as_many, made_for}
use Rattle.legal_runs.proofs.MomentsLemmas.{Moment, pairs, sent_for}
use Rattle.legal_runs.proofs.RepliersLemmas.{replica_is_worker}
use Rattle.legal_runs.proofs.RepliesLemmas.{its, pairs_across, replies_at, rising_at}
use Rattle.legal_runs.proofs.RequestsLemmas.{no_puts_asked, of_lines, puts_there-append}
use Rattle.legal_runs.proofs.SessionsLemmas.{IsSession, answers_at, client_at, lines_at, origin_at, own_made, plan_at, start_at}
use Rattle.legal_runs.proofs.SoundLemmas.{IsSoundAt, home_counts, made_at, received_by}
use Rattle.run_ledger.proofs.WorkersLemmas.{IsWorker, worker_came}
use Rattle.legal_runs.proofs.CameHereLemmas.{came_here, came_to}

-- a list is split at an item inside its middle part
at_the_last : {X : Type 0} (before front : List X) (x : X) (after : List X) → before ++ (front ++ x ∷ []) ++ after ≡ before ++ front ++ x ∷ after
at_the_last before front x after =
    append_assoc before (front ++ x ∷ []) after ∙ ap (λ rest. before ++ rest) (append_assoc front (x ∷ []) after) ∙ sym (append_assoc before front (x ∷ after))

-- an answer that a cell gives shows the cell's clock
pub shows_clock : (cell : PlainCell) (clock : List (ℕ × ℕ)) → shown_clock (answer_of cell clock) ≡ cell.clock
shows_clock cell clock = elim (covers cell.clock clock) as (λ covered. shown_clock (if covered then Found cell else Again cell.clock) ≡ cell.clock) [
  | true ↦ refl
  | false ↦ refl
]

module _ (script : Script) (table : List (List ℕ)) (report : Report) (ledger : Ledger) (valid : IsValidScript script table) (came : Came script table report ledger)
    (session : ℕ) (within : IsSession script session) where
  abbrev client : Client
  client = client_at script session

  abbrev all_lines : List Line
  all_lines = lines_at script session

  -- the replies to the session, line by line
  abbrev all_replies : List (List PlainReply)
  all_replies = (its script table report ledger came session within).replies

  -- a line of the session with its answer, in its place
  abbrev pub MomentOf : List (Line × Answer) → State → Line → Answer → Type 0
  MomentOf = Moment table client (origin_at script report session) all_lines (answers_at report session) all_replies

  module _ {earlier : List (Line × Answer)} {state : State} {line : Line} {answer : Answer} (moment : MomentOf earlier state line answer) (asked : IsAsked line)
      (may : MayStand script table client.level line) where
    abbrev pub key : ℕ
    key = key_asked line

    abbrev pub what : List (ℕ × ℕ)
    what = required client state.knows line

    -- how the line was answered
    pub replied : IsReplied client (order_asked table client line) moment.first key what (most_asks table client.level key) answer moment.its
    replied = replied_as table client state moment.first line answer moment.its asked moment.is

    -- the worker whose reply it shows
    abbrev pub worker : ℕ
    worker = asked_last replied

    pub worker_is_replica : Contains (replicas_of table key) worker
    worker_is_replica = asked_is_replica script table valid client line (lacked replied) may asked

    key_is : IsOneOf (length script.config.keys) key
    key_is = key_known script table valid client.level line may asked

    pub is_a_worker : IsWorker script worker
    is_a_worker = replica_is_worker script table valid key worker key_is worker_is_replica

    -- what was sent before its last ask
    abbrev sent_first : List (ℕ × Sent)
    sent_first = sent_for table client (origin_at script report session) all_lines (answers_at report session) all_replies moment.given moment.replied

    abbrev asked_first : List (ℕ × Sent)
    asked_first = asks_sent (order_asked table client line) moment.first key what (lacked replied)

    abbrev ask : ℕ
    ask = moment.first + lacked replied

    sent_split : requests_of table client (origin_at script report session) (map length all_replies) all_lines (answers_at report session) ≡ sent_first ++ asked_first ++ (worker, SentAsk ask key what) ∷ moment.later_sent
    sent_split =
        moment.sent_is
        ∙ ap (λ sent. sent_first ++ sent ++ moment.later_sent) (sent_by_replies table client state moment.first line answer moment.its asked moment.is ∙ asks_are replied)
        ∙ at_the_last sent_first asked_first (worker, SentAsk ask key what) moment.later_sent

    -- so of what went to the worker
    to_it : to_worker worker (requests_of table client (origin_at script report session) (map length all_replies) all_lines (answers_at report session))
        ≡ to_worker worker (sent_first ++ asked_first) ++ requests.Get ask key what ∷ to_worker worker moment.later_sent
    to_it =
        ap (to_worker worker) sent_split ∙ to_worker-append worker (sent_first ++ asked_first) ((worker, SentAsk ask key what) ∷ moment.later_sent)
        ∙ ap (λ those. to_worker worker (sent_first ++ asked_first) ++ map request_of those)
        (from_sender_here worker (worker, SentAsk ask key what) moment.later_sent refl)

    -- what was heard before its last reply
    abbrev heard_first : List PlainReply
    heard_first = in_all moment.replied ++ replied.lacking

    heard_split : in_all all_replies ≡ heard_first ++ replied.last ∷ moment.later_heard
    heard_split =
        moment.heard_is ∙ ap (λ those. in_all moment.replied ++ those ++ moment.later_heard) replied.replies_are
        ∙ at_the_last (in_all moment.replied) replied.lacking replied.last moment.later_heard

    from_it : from_worker worker (in_all all_replies) ≡ from_worker worker heard_first ++ replied.last ∷ from_worker worker moment.later_heard
    from_it =
        ap (from_worker worker) heard_split ∙ from_worker-append worker heard_first (replied.last ∷ moment.later_heard)
        ∙ ap (λ those. from_worker worker heard_first ++ those) (from_sender_here worker (replied.last.worker, replied.last) _ (last_asked_is replied).1)

    -- as many replies came of the worker before as asks went there
    as_many_before : length (gets_in (to_worker worker (sent_first ++ asked_first))) ≡ length (from_worker worker heard_first)
    as_many_before =
        gets_to-append worker sent_first asked_first
        ∙ (λ j. lines_as_many worker table client (start_at script report session) 1 all_lines moment.given moment.replied moment.before j + as_many_replied worker asked_first replied.lacking (lacking_asked replied) j)
        ∙ sym (ap length (from_worker-append worker (in_all moment.replied) replied.lacking) ∙ length-append (from_worker worker (in_all moment.replied)) (from_worker worker replied.lacking))

    -- what the worker joined of gossip
    abbrev entries : List (ℕ × PlainCell)
    entries = entries_in (worker_came script table report ledger came worker is_a_worker).holds.joined

    -- the last reply was made for the last ask
    pub made : IsMadeFor (IsReplyBy worker table script.kinds (worker_came script table report ledger came worker is_a_worker).holds.joined) session (received_by script table report ledger valid came worker)
        (to_worker worker (sent_first ++ asked_first)) ask key what replied.last
    made =
        made_for (IsReplyBy worker table script.kinds (worker_came script table report ledger came worker is_a_worker).holds.joined) session (received_by script table report ledger valid came worker)
        (to_worker worker (sent_first ++ asked_first)) (to_worker worker moment.later_sent) ask key what (from_worker worker heard_first) (from_worker worker moment.later_heard) replied.last
        (subst (AllZip _ _) from_it (replies_at script table report ledger came session within worker is_a_worker))
        (came_to script table report ledger came worker is_a_worker session within ∙ to_it) as_many_before

    -- the cell that it shows
    abbrev pub cell : PlainCell
    cell = made.replies.cell

    -- it shows the cell, or the cell's clock
    pub answered_is : replied.last.answered ≡ answer_of cell what
    answered_is = ap (λ (reply : PlainReply). reply.answered) made.replies.is

    pub shows : shown_clock replied.last.answered ≡ cell.clock
    shows = ap shown_clock answered_is ∙ shows_clock cell what

    made_from : IsMadeFrom (kind_at script.kinds key) key made.before entries cell
    made_from = subst (λ held. IsAnswerCell held (kind_at script.kinds key) key made.before entries cell) (holds_key table key worker key_is.0 worker_is_replica) made.replies.made

    -- which is sound
    pub cell_sound : IsSoundAt script table report ledger valid came key cell
    cell_sound = made_at script table report ledger valid came worker is_a_worker key made.before made.after cell made.received_is made_from

    -- what the session had made before on the key
    abbrev made_before : List (ℕ × Put)
    made_before = puts_from client (start_at script report session) all_lines moment.given

    numbered_before : AreNumberedLines client (start_at script report session) all_lines moment.given
    numbered_before = numbered client table (start_at script report session) 1 all_lines moment.given moment.replied moment.before

    -- it has made as many as its count says
    pub count_before : length (made_on session key made_before) ≡ own_count state.knows key
    count_before =
        let next = next_of_lines client (start_at script report session) all_lines moment.given key numbered_before in
        let none = none_at_start (ends_of script report) (plan_at script session).after key in
        sym (next.last_is ∙ omega (arith, none)) ∙ ap (λ (s : State). own_count s.knows key) moment.state_is

    -- at its home all of these came before the get, and no others
    pub own_at_home : worker ≡ home_at table session key → count_of session cell.clock ≡ own_count state.knows key
    own_at_home home =
        home_counts script table report ledger valid came worker is_a_worker session within key (sym home) made.before made.after cell made.received_is made_from
        ∙ ap length came_before ∙ count_before
      where
        came_before : made_on session key (puts_in made.before) ≡ made_on session key made_before
        came_before =
            own_in_front script table report (are script table report ledger valid came) worker (received_by script table report ledger valid came worker) (came_here script table report ledger came worker is_a_worker) session key made.before made.after made.received_is
            ∙ ap (λ messages. puts_on key (flat_map put_in messages)) made.front_is
            ∙ puts_there-append table client worker key sent_first asked_first
            ∙ (λ j. of_lines table client worker key (start_at script report session) 1 (map length moment.replied) all_lines moment.given
            (length-map moment.replied length ∙ as_many client table (start_at script report session) 1 all_lines moment.given moment.replied moment.before) (lines_have client (start_at script report session) all_lines moment.given numbered_before) j
            ++ no_puts_asked table client worker key (order_asked table client line) moment.first key what (lacked replied) j)
            ∙ ap (λ there. cond there (puts_on key made_before) [] ++ cond there [] []) (eq-eqb (home_at table session key) worker (sym home))
            ∙ append-nil (puts_on key made_before) ∙ sym (own_made client (start_at script report session) session key all_lines moment.given refl)

    -- and it covers what the session had of the worker before
    pub covers_earlier : All (λ before. IsTrue (covers cell.clock before)) (earlier_from key worker earlier)
    covers_earlier =
        let all_earlier = earlier_shown key worker table client (start_at script report session) 1 all_lines moment.given moment.replied moment.before in
        subst (λ answered. All (λ before. IsTrue (covers cell.clock before)) (earlier_from key worker answered)) moment.earlier_is
        (All-weaker (HasShown key worker (in_all moment.replied)) (λ before. IsTrue (covers cell.clock before)) (λ before shown.
        subst (λ clock. IsTrue (covers clock before)) shows
        (subst (λ clock. IsTrue (covers (shown_clock replied.last.answered) clock)) shown.3
        (pairs_across CoversEarlier (from_worker worker heard_first) (replied.last ∷ from_worker worker moment.later_heard) shown.0 replied.last
        (subst (AllPairs CoversEarlier) from_it (rising_at script table report ledger came session within worker is_a_worker))
        (subst (λ those. Contains those shown.0) (sym (from_worker-append worker (in_all moment.replied) replied.lacking))
        (Contains-append_left (from_worker worker (in_all moment.replied)) (from_worker worker replied.lacking) shown.0 shown.1))
        (contains_first replied.last (from_worker worker moment.later_heard))
        ((last_asked_is replied).2 ∙ sym shown.2)))) (earlier_from key worker (pairs all_lines moment.given)) all_earlier)
