-- Causality: the needs of each accepted put are closed below its own Lamport number. By the Lamport numbers, and line by line in each session.
use Rattle.std.specs.Prelude.{◌≡◌, ℕ, zero, suc, ◌+◌, ◌<◌, ◌≤◌, max, List, [], ◌∷◌, All, Contains, length, slice_index_or}
use Rattle.std.specs.List.{AllZip}
use Rattle.std.proofs.Common.{refl, sym, subst, arith}
use Rattle.std.proofs.lemmas.List.Elements.{All-append, All-cons, All-contains, All-contains_itself, All-head, All-nil, All-tail, All-weaker}
use Rattle.lattice_laws.proofs.ListLemmas.{All-back, All-front}
use Rattle.placement.specs.Config.{IsOneOf}
use Rattle.composed_value.specs.Keyed.{kind_at, puts_on}
use Rattle.composed_value.specs.Put.{IsPut}
use Rattle.composed_value.specs.declared.payload.Payload.{Payload}
use Rattle.composed_value.specs.declared.put.Put.{Put}
use Rattle.session_known.specs.Accepted.{AreNext, accepted, ends_of, made_on}
use Rattle.session_known.specs.Script.{IsValidScript, IsValidSession, MayStand}
use Rattle.session_known.specs.Session.{Client, Knowledge, State, after, held_puts, knows_put, knows_shown, own_count, needs_by, put_made, puts_by, puts_committed, puts_from, start, state_after}
use Rattle.session_known.specs.declared.report.Answer.{Answer}
use Rattle.session_known.specs.declared.report.Answer.TheVariants as answers
use Rattle.session_known.specs.declared.report.Report.{Report}
use Rattle.session_known.specs.declared.report.Shown.{Shown}
use Rattle.session_known.specs.declared.script.Level.{Level}
use Rattle.session_known.specs.declared.script.Level.TheVariants.{Causal, Committed, Eventual}
use Rattle.session_known.specs.declared.script.Line.{Line}
use Rattle.session_known.specs.declared.script.Line.TheVariants as lines
use Rattle.session_known.specs.declared.script.Script.{Script}
use Rattle.session_known.proofs.NumberedLemmas.{none_at_start}
use Rattle.session_proxy.specs.Run.{AreAnswered, IsAnswered}
use Rattle.store_msg.specs.Reply.{PlainReply}
use Rattle.run_ledger.specs.Causality.{AreCausal, AreClosedBelow}
use Rattle.legal_runs.proofs.ClosedKnowledgeLemmas.{IsClosed, IsClosedPart, causal_client, nothing_closed, put_closed, shown_closed}
use Rattle.legal_runs.proofs.ClosedNeedsLemmas.{ArePuts, closed_of_part, part_of_none}
use Rattle.legal_runs.proofs.AnsweredLemmas.{line_rises}
use Rattle.legal_runs.proofs.MadePutsLemmas.{All-made_by}
use Rattle.legal_runs.proofs.PutsInScriptLemmas.{session_is_valid}
use Rattle.legal_runs.proofs.OnKeyLemmas.{held_on_key, on_key}
use Rattle.legal_runs.proofs.OriginsLemmas.{known_at_end, of_origins}
use Rattle.legal_runs.proofs.SessionsLemmas.{AreSessions, IsSession, answers_at, lines_at, made_by, origin_at, plan_at}
use Rattle.legal_runs.proofs.ShownLemmas.{AllShowSound, IsOfSound, ShowsSound}

module _ (client : Client) (none_needed : (knows : Knowledge) → needs_by client.level knows ≡ []) where
  -- a put without needs
  abbrev NeedsNothing : ℕ × Put → Type 0
  NeedsNothing entry = entry.1.needs ≡ []

  -- so are those of a commit in a session that is not causal
  committed_need_nothing : (knows : Knowledge) (lamport place : ℕ) (held : List (ℕ × Payload)) → All NeedsNothing (puts_committed client knows lamport place held)
  committed_need_nothing knows lamport place [] = All-nil NeedsNothing
  committed_need_nothing knows lamport place (held ∷ others) =
      let number : ℕ = own_count knows held.0 + 1 in
      let reached : Knowledge = knows_put client knows held.0 number lamport in
      All-cons NeedsNothing (held.0, put_made client knows held.0 held.1 number lamport place) (puts_committed client reached lamport (place + 1) others) (none_needed knows)
      (committed_need_nothing reached lamport (place + 1) others)

  -- of a line
  line_needs_nothing : (state : State) (line : Line) (answer : Answer) → All NeedsNothing (puts_by client state line answer)
  line_needs_nothing state (lines.Put key payload) (answers.Put number lamport) =
      All-cons NeedsNothing (key, put_made client state.knows key payload number lamport 0) [] (none_needed state.knows) (All-nil NeedsNothing)
  line_needs_nothing state lines.Commit (answers.Committed puts lamport) = committed_need_nothing state.knows lamport 0 (held_puts state)
  line_needs_nothing state line answer = All-nil NeedsNothing

  -- and of all its lines
  lines_need_nothing : (state : State) (lines : List Line) (answers : List Answer) → All NeedsNothing (puts_from client state lines answers)
  lines_need_nothing state (line ∷ lines) (answer ∷ answers) =
      let reached : State = after client state line answer in
      All-append NeedsNothing (puts_by client state line answer) (puts_from client reached lines answers) (line_needs_nothing state line answer) (lines_need_nothing reached lines answers)
  lines_need_nothing state lines answers = All-nil NeedsNothing

-- a causal session has no transactions
not_committed : Causal ≡ Committed → ⊥
not_committed same = cc

-- where its Lamport number is smaller than this, the needs of a put are closed below it
abbrev IsCausalBefore : List (ℕ × Put) → ℕ → ℕ × Put → Type 0
IsCausalBefore puts bound entry = entry.1.lamport < bound → AreClosedBelow puts entry.1.lamport entry.1.needs

-- an entry is an accepted put on its key
abbrev IsAccepted : List (ℕ × Put) → ℕ × Put → Type 0
IsAccepted puts entry = Contains (puts_on entry.0 puts) entry.1

module _ (script : Script) (table : List (List ℕ)) (puts : List (ℕ × Put)) (few_keys : length script.config.keys ≤ 128) (are : ArePuts puts)
    (next : (session key : ℕ) → AreNext 0 (made_on session key puts)) where
  module _ (bound : ℕ) (before : All (IsCausalBefore puts bound) puts) (session : ℕ) where
    -- the session
    abbrev client : Client
    client = causal_client session

    -- all puts on a key with smaller numbers are causal
    causal_up_to : (top : ℕ) → top < bound → (key : ℕ) (put : Put) → Contains (puts_on key puts) put → put.lamport ≤ top → AreClosedBelow puts put.lamport put.needs
    causal_up_to top low key put has_it at_most =
        held_on_key (λ p. p.lamport < bound → AreClosedBelow puts p.lamport p.needs) key puts before put has_it (omega (arith, low, at_most))

    -- what is known stays closed when a reply shows a cell
    closed_once_shown : (knows : Knowledge) (key : ℕ) (shown : Shown) → IsOneOf (length script.config.keys) key → IsOfSound (kind_at script.kinds key) (puts_on key puts) Causal shown
        → max knows.lamport shown.top < bound → IsClosed puts session knows → IsClosed puts session (knows_shown client knows key shown)
    closed_once_shown knows key shown of_keys of low closed =
        let known_key = of_keys.1 in
        shown_closed puts are session key (omega (arith, known_key, few_keys)) knows closed (kind_at script.kinds key) shown of (causal_up_to shown.top (omega (arith, low)) key)

    -- what is known stays closed at each line, as long as its Lamport number is smaller
    stays_closed : (state : State) (first : ℕ) (line : Line) (answer : Answer) (replies : List PlainReply) → IsAnswered table client state first line answer replies → MayStand script table Causal line
        → ShowsSound script.kinds puts Causal line answer → All (IsAccepted puts) (puts_by client state line answer) → (after client state line answer).knows.lamport < bound
        → IsClosed puts session state.knows → IsClosed puts session (after client state line answer).knows
    stays_closed state first (lines.Put key payload) (answers.Put number lamport) replies answered stands shows made low closed =
        let known_key = stands.0.1 in
        put_closed puts are session key (omega (arith, known_key, few_keys)) state.knows closed (next session key) payload number lamport
        answered.0.number_is answered.0.lamport_is (All-head (IsAccepted puts) (key, put_made client state.knows key payload number lamport 0) [] made)
    stays_closed state first (lines.Get key named) (answers.Got worker shown) replies answered stands shows made low closed = closed_once_shown state.knows key shown stands.0 shows low closed
    stays_closed state first (lines.Await key of_session count) (answers.Got worker shown) replies answered stands shows made low closed = closed_once_shown state.knows key shown stands.0 shows low closed
    stays_closed state first lines.Begin answers.Begun replies answered stands shows made low closed = closed
    stays_closed state first lines.Commit (answers.Committed many lamport) replies answered stands shows made low closed = absurd (not_committed stands)
    stays_closed state first lines.Abort (answers.Aborted many) replies answered stands shows made low closed = closed
    stays_closed state first line answer replies answered stands shows made low closed = closed

    -- the puts of a line are causal one number further
    of_line : (state : State) (first : ℕ) (line : Line) (answer : Answer) (replies : List PlainReply) → IsAnswered table client state first line answer replies → MayStand script table Causal line
        → (state.knows.lamport < bound → IsClosed puts session state.knows) → All (IsCausalBefore puts (bound + 1)) (puts_by client state line answer)
    of_line state first (lines.Put key payload) (answers.Put number lamport) replies answered stands closed =
        let later : lamport ≡ state.knows.lamport + 1 = answered.0.lamport_is in
        All-cons (IsCausalBefore puts (bound + 1)) (key, put_made client state.knows key payload number lamport 0) []
        (λ low. subst (λ its. AreClosedBelow puts its state.knows.clocks) (sym later)
        (closed_of_part puts (state.knows.lamport + 1) state.knows.clocks (closed (omega (arith, low, later))).below)) (All-nil (IsCausalBefore puts (bound + 1)))
    of_line state first lines.Commit (answers.Committed many lamport) replies answered stands closed = absurd (not_committed stands)
    of_line state first line answer replies answered stands closed = All-nil (IsCausalBefore puts (bound + 1))

    -- so are those of all lines
    of_lines : (state : State) (first : ℕ) (lines : List Line) (answers : List Answer) (replies : List (List PlainReply)) → AreAnswered table client state first lines answers replies
        → All (MayStand script table Causal) lines → AllZip (ShowsSound script.kinds puts Causal) lines answers → All (IsAccepted puts) (puts_from client state lines answers)
        → (state.knows.lamport < bound → IsClosed puts session state.knows) → All (IsCausalBefore puts (bound + 1)) (puts_from client state lines answers)
    of_lines state first (line ∷ lines) (answer ∷ answers) (its ∷ replies) answered stand show made closed =
        let reached : State = after client state line answer in
        let now : List (ℕ × Put) = puts_by client state line answer in
        let later : List (ℕ × Put) = puts_from client reached lines answers in
        let stands : MayStand script table Causal line = All-head (MayStand script table Causal) line lines stand in
        let grows = (line_rises client table state first line answer its answered.0).rises in
        All-append (IsCausalBefore puts (bound + 1)) now later (of_line state first line answer its answered.0 stands closed)
        (of_lines reached (first + length its) lines answers replies answered.1 (All-tail (MayStand script table Causal) line lines stand) show.1 (All-back (IsAccepted puts) now later made)
        (λ low. stays_closed state first line answer its answered.0 stands show.0 (All-front (IsAccepted puts) now later made) low (closed (omega (arith, low, grows)))))
    of_lines state first (line ∷ lines) (answer ∷ answers) [] answered stand show made closed = absurd answered
    of_lines state first lines answers replies answered stand show made closed = All-nil (IsCausalBefore puts (bound + 1))

    -- and what is known stays closed at all of them
    end_closed : (state : State) (first : ℕ) (lines : List Line) (answers : List Answer) (replies : List (List PlainReply)) → AreAnswered table client state first lines answers replies
        → All (MayStand script table Causal) lines → AllZip (ShowsSound script.kinds puts Causal) lines answers → All (IsAccepted puts) (puts_from client state lines answers)
        → (state.knows.lamport < bound → IsClosed puts session state.knows)
        → (state_after client state lines answers).knows.lamport < bound → IsClosed puts session (state_after client state lines answers).knows
    end_closed state first (line ∷ lines) (answer ∷ answers) (its ∷ replies) answered stand show made closed =
        let reached : State = after client state line answer in
        let now : List (ℕ × Put) = puts_by client state line answer in
        let later : List (ℕ × Put) = puts_from client reached lines answers in
        let stands : MayStand script table Causal line = All-head (MayStand script table Causal) line lines stand in
        let grows = (line_rises client table state first line answer its answered.0).rises in
        end_closed reached (first + length its) lines answers replies answered.1 (All-tail (MayStand script table Causal) line lines stand) show.1 (All-back (IsAccepted puts) now later made)
        (λ low. stays_closed state first line answer its answered.0 stands show.0 (All-front (IsAccepted puts) now later made) low (closed (omega (arith, low, grows))))
    end_closed state first (line ∷ lines) (answer ∷ answers) [] answered stand show made closed = absurd answered
    end_closed state first [] answers replies answered stand show made closed = closed
    end_closed state first (line ∷ lines) [] replies answered stand show made closed = closed

    -- puts without needs are causal
    causal_without_needs : (made : List (ℕ × Put)) → All (λ entry. entry.1.needs ≡ []) made → All (IsCausalBefore puts (bound + 1)) made
    causal_without_needs made none = All-weaker (λ entry. entry.1.needs ≡ []) (IsCausalBefore puts (bound + 1))
        (λ entry is low. subst (AreClosedBelow puts entry.1.lamport) (sym is) (closed_of_part puts entry.1.lamport [] (part_of_none puts are entry.1.lamport []))) made none

    -- and so are those of a session of any level
    of_level : (level : Level) (origin : Knowledge) (lines : List Line) (answers : List Answer) (replies : List (List PlainReply)) → AreAnswered table (record { session = session; level = level }) (start origin) 1 lines answers replies
        → All (MayStand script table level) lines → AllZip (ShowsSound script.kinds puts level) lines answers → All (IsAccepted puts) (puts_from (record { session = session; level = level }) (start origin) lines answers)
        → (origin.lamport < bound → IsClosed puts session origin) → All (IsCausalBefore puts (bound + 1)) (puts_from (record { session = session; level = level }) (start origin) lines answers)
    of_level Causal origin lines answers replies answered stand show made closed = of_lines (start origin) 1 lines answers replies answered stand show made closed
    of_level Committed origin lines answers replies answered stand show made closed =
        let its : Client = record { session = session; level = Committed } in
        causal_without_needs (puts_from its (start origin) lines answers) (lines_need_nothing its (λ knows. refl) (start origin) lines answers)
    of_level Eventual origin lines answers replies answered stand show made closed =
        let its : Client = record { session = session; level = Eventual } in
        causal_without_needs (puts_from its (start origin) lines answers) (lines_need_nothing its (λ knows. refl) (start origin) lines answers)

    -- what a causal session knows at its end is closed where what it knows at its start is
    end_of_level : (level : Level) (origin : Knowledge) (lines : List Line) (answers : List Answer) (replies : List (List PlainReply)) → level ≡ Causal → AreAnswered table (record { session = session; level = level }) (start origin) 1 lines answers replies
        → All (MayStand script table level) lines → AllZip (ShowsSound script.kinds puts level) lines answers → All (IsAccepted puts) (puts_from (record { session = session; level = level }) (start origin) lines answers)
        → (origin.lamport < bound → IsClosed puts session origin)
        → (state_after (record { session = session; level = level }) (start origin) lines answers).knows.lamport < bound → IsClosed puts session (state_after (record { session = session; level = level }) (start origin) lines answers).knows
    end_of_level Causal origin lines answers replies causal answered stand show made closed = end_closed (start origin) 1 lines answers replies answered stand show made closed
    end_of_level Committed origin lines answers replies causal answered stand show made closed = absurd (cc)
    end_of_level Eventual origin lines answers replies causal answered stand show made closed = absurd (cc)

module _ (script : Script) (table : List (List ℕ)) (report : Report) (valid : IsValidScript script table) (sessions : AreSessions script table report) (shows : AllShowSound script report)
    (puts_are : All (λ entry. IsOneOf (length script.config.keys) entry.0 × IsPut entry.1) (accepted script report)) where
  -- the accepted puts
  abbrev all : List (ℕ × Put)
  all = accepted script report

  -- the accepted puts are puts that there can be
  are_puts : ArePuts all
  are_puts key = held_on_key IsPut key all (All-weaker (λ entry. IsOneOf (length script.config.keys) entry.0 × IsPut entry.1) (λ entry. IsPut entry.1) (λ entry both. both.1) all puts_are)

  -- each put that a session made is accepted on its key
  made_are_accepted : (session : ℕ) → IsSession script session → All (IsAccepted all) (made_by script report session)
  made_are_accepted = All-made_by script table report sessions (IsAccepted all)
      (All-weaker (Contains all) (IsAccepted all) (λ entry has_it. on_key all entry has_it) all (All-contains_itself all))

  -- what is known is closed, whoever knows it, where its Lamport number is smaller than this
  abbrev ClosedBefore : ℕ → Knowledge → Type 0
  ClosedBefore bound knows = knows.lamport < bound → IsClosedPart all knows

  -- where all puts below a Lamport number are causal, what each session knows at its start is closed
  origin_closed : (bound : ℕ) → All (IsCausalBefore all bound) all → (session : ℕ) → IsSession script session
      → (origin_at script report session).lamport < bound → IsClosed all session (origin_at script report session)
  origin_closed bound before session is low = closed_at session (of_origins script table report valid sessions.as_many (ClosedBefore bound) (λ low. nothing_closed all are_puts) (λ knows closed low. let part = closed low in record { needs_are = part.needs_are; below = part.below }) goes session is) low
    where
      closed_at : (session : ℕ) → ClosedBefore bound (origin_at script report session) → (origin_at script report session).lamport < bound → IsClosed all session (origin_at script report session)
      closed_at session closed low =
          let part = closed low in
          let none = λ (key : ℕ). none_at_start (ends_of script report) (plan_at script session).after key in
          record { needs_are = part.needs_are; below = part.below; own = λ key. let zero_made = none key in omega (arith, zero_made) }

      goes : (session : ℕ) → IsSession script session → (plan_at script session).level ≡ Causal → ClosedBefore bound (origin_at script report session) → ClosedBefore bound (known_at_end script table report valid sessions.as_many session)
      goes session is causal closed low =
          let its : IsValidSession script table (plan_at script session) = session_is_valid script table session valid is in
          let answered = sessions.answered session is in
          let whole = end_of_level script table all valid.config.keys_most are_puts sessions.next bound before session (plan_at script session).level (origin_at script report session) (lines_at script session) (answers_at report session) answered.0
          causal answered.1 its.lines (shows session is) (made_are_accepted session is) (closed_at session closed) low in
          record { needs_are = whole.needs_are; below = whole.below }

  -- where all puts below a Lamport number are causal, those of a session are one number further
  of_session : (bound : ℕ) → All (IsCausalBefore all bound) all → (session : ℕ) → IsSession script session
      → All (IsCausalBefore all (bound + 1)) (made_by script report session)
  of_session bound before session is =
      let its : IsValidSession script table (plan_at script session) = session_is_valid script table session valid is in
      let answered = sessions.answered session is in
      of_level script table all valid.config.keys_most are_puts sessions.next bound before session (plan_at script session).level (origin_at script report session) (lines_at script session) (answers_at report session) answered.0 answered.1
      its.lines (shows session is) (made_are_accepted session is) (origin_closed bound before session is)

  -- so are all, by induction over the Lamport numbers
  up_to : (bound : ℕ) → All (IsCausalBefore all bound) all
  up_to zero = λ k d low none. absurd (omega (arith, none))
  up_to (suc bound) = λ k d low is_low.
      let from = sessions.of_one k d low in
      All-contains (IsCausalBefore all (bound + 1)) (made_by script report from.0) (slice_index_or all k d)
      (of_session bound (up_to bound) from.0 from.1) from.2 (omega (arith, is_low))

-- The needs of each accepted put are closed below its Lamport number.
pub are_causal : (script : Script) (table : List (List ℕ)) (report : Report) → IsValidScript script table → AreSessions script table report → AllShowSound script report
    → All (λ entry. IsOneOf (length script.config.keys) entry.0 × IsPut entry.1) (accepted script report) → AreCausal (accepted script report)
are_causal script table report valid sessions shows puts_are = λ k d low.
    up_to script table report valid sessions shows puts_are ((slice_index_or (accepted script report) k d).1.lamport + 1) k d low (omega arith)
