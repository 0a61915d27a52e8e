-- What a session of a script knows, and so what each put has seen, names sessions of the script alone.
use Rattle.std.specs.Prelude.{ℕ, zero, suc, ◌+◌, List, [], ◌∷◌, All, length, Option, Some, None, unwrap_or, ⊤}
use Rattle.std.specs.Cmp.{nat_cmp_total}
use Rattle.std.specs.FinMap.{find, nat_cmp-IsAntisymmetric}
use Rattle.std.specs.List.{AllZip}
use Rattle.std.specs.Ordering.{nat_cmp}
use Rattle.std.proofs.Common.{refl, sym, subst}
use Rattle.std.proofs.lemmas.List.Elements.{All-append, All-cons, All-nil}
use Rattle.lattice_laws.specs.Entries.{IsEntry, IsMap}
use Rattle.lattice_laws.specs.EntriesLaws.{found_is_value, map_laws}
use Rattle.lattice_laws.specs.GreatestLaws.{max_laws}
use Rattle.lattice_laws.specs.Lattice.{LatticeLaws}
use Rattle.lattice_laws.specs.Maybe.{IsValue}
use Rattle.clock_lattice.specs.Clock.{joined_clocks, one_count}
use Rattle.clock_lattice.specs.Needs.{clock_at, joined_needs, one_need}
use Rattle.placement.specs.Config.{IsOneOf}
use Rattle.composed_value.specs.Cell.{PlainCell}
use Rattle.composed_value.specs.Keyed.{kind_at, puts_on}
use Rattle.composed_value.specs.declared.kind.Kind.{Kind}
use Rattle.composed_value.specs.declared.payload.Payload.{Payload}
use Rattle.composed_value.specs.declared.put.Put.{Put}
use Rattle.session_known.specs.Accepted.{accepted}
use Rattle.session_known.specs.Form.{AreNeedsIn, IsClockIn, NamesSessions}
use Rattle.session_known.specs.Script.{IsValidScript}
use Rattle.session_known.specs.Session.{Client, Knowledge, State, after, held_puts, known_raised, knows_committed, knows_put, knows_shown, needs_learned, own_count, put_made, puts_by, puts_committed, puts_from, shown_to, state_after}
use Rattle.session_known.specs.declared.report.Answer.{Answer}
use Rattle.session_known.specs.declared.report.Answer.TheVariants as answers
use Rattle.session_known.specs.declared.report.Report.{Report}
use Rattle.session_known.specs.declared.report.Shown.{Shown}
use Rattle.session_known.specs.declared.script.Level.{Level}
use Rattle.session_known.specs.declared.script.Level.TheVariants.{Causal}
use Rattle.session_known.specs.declared.script.Line.{Line}
use Rattle.session_known.specs.declared.script.Line.TheVariants as lines
use Rattle.session_known.specs.declared.script.Script.{Script}
use Rattle.run_ledger.specs.Causality.{AreCausal}
use Rattle.legal_runs.proofs.MadePutsLemmas.{All-accepted, AreOfSessions}
use Rattle.legal_runs.proofs.NamedSessionsLemmas.{accepted_clock_in, sound_needs_in}
use Rattle.legal_runs.proofs.OriginsLemmas.{of_origins}
use Rattle.legal_runs.proofs.SessionsLemmas.{AreSessions, IsSession, answers_at, client_at, lines_at, origin_at, start_at}
use Rattle.legal_runs.proofs.ShownLemmas.{AllShowSound, IsOfSound, ShowsSound}

module _ (sessions : ℕ) where
  -- a clock of so many sessions
  abbrev IsClockOf : List (ℕ × ℕ) → Type 0
  IsClockOf clock = IsMap nat_cmp (IsOneOf sessions) (λ count. ⊤) clock

  -- clocks of such by their keys
  abbrev AreClocksOf : List (ℕ × List (ℕ × ℕ)) → Type 0
  AreClocksOf needs = IsMap nat_cmp (λ key. ⊤) IsClockOf needs

  -- such clocks are a lattice
  clock_of_laws : LatticeLaws IsClockOf (λ _ _. ⊤) joined_clocks
  clock_of_laws = map_laws nat_cmp_total nat_cmp-IsAntisymmetric (IsOneOf sessions) (max_laws (λ count. ⊤)) (λ _ _. tt)

  -- and so are they by their keys
  clocks_of_laws : LatticeLaws AreClocksOf (λ _ _. ⊤) joined_needs
  clocks_of_laws = map_laws nat_cmp_total nat_cmp-IsAntisymmetric (λ key. ⊤) clock_of_laws (λ _ _. tt)

  -- the empty clock
  none_of : IsClockOf []
  none_of = record { ascending = refl; are_entries = All-nil (IsEntry (IsOneOf sessions) (λ count. ⊤)) }

  -- no clocks
  no_clocks_of : AreClocksOf []
  no_clocks_of = record { ascending = refl; are_entries = All-nil (IsEntry (λ key. ⊤) IsClockOf) }

  -- a count of one of the sessions
  one_count_of : (session count : ℕ) → IsOneOf sessions session → IsClockOf (one_count session count)
  one_count_of session zero within = none_of
  one_count_of session (suc n) within = record {
    ascending = refl;
    are_entries = All-cons (IsEntry (IsOneOf sessions) (λ count. ⊤)) (session, suc n) [] (within, tt) (All-nil (IsEntry (IsOneOf sessions) (λ count. ⊤)));
  }

  -- such a clock at one key
  one_need_of : (key : ℕ) (clock : List (ℕ × ℕ)) → IsClockOf clock → AreClocksOf (one_need key clock)
  one_need_of key [] is = no_clocks_of
  one_need_of key (entry ∷ clock) is = record {
    ascending = refl;
    are_entries = All-cons (IsEntry (λ key. ⊤) IsClockOf) (key, entry ∷ clock) [] (tt, is) (All-nil (IsEntry (λ key. ⊤) IsClockOf));
  }

  -- what stands at a key
  clock_at_of : (key : ℕ) (known : List (ℕ × List (ℕ × ℕ))) → AreClocksOf known → IsClockOf (clock_at key known)
  clock_at_of key known are = found_of (find nat_cmp key known) (found_is_value nat_cmp (λ key. ⊤) IsClockOf key known are.are_entries)
    where
      found_of : (found : Option (List (ℕ × ℕ))) → IsValue IsClockOf found → IsClockOf (unwrap_or found [])
      found_of None is = none_of
      found_of (Some clock) is = is

  -- what is known, with a clock that is learned of a key
  learned_of : (known : List (ℕ × List (ℕ × ℕ))) (key : ℕ) (clock : List (ℕ × ℕ)) → AreClocksOf known → IsClockOf clock → AreClocksOf (joined_needs known (one_need key clock))
  learned_of known key clock are is = (clocks_of_laws.closed known (one_need key clock) are (one_need_of key clock is) tt).0

  -- what is known of a key, raised at one of the sessions
  raised_of : (knows : Knowledge) (key session number : ℕ) → AreClocksOf knows.clocks → IsOneOf sessions session
      → IsClockOf (known_raised knows key session number)
  raised_of knows key session number are within =
      (clock_of_laws.closed (clock_at key knows.clocks) (one_count session number) (clock_at_of key knows.clocks are) (one_count_of session number within) tt).0

  -- what is known once one of the sessions has put
  put_of : (client : Client) (knows : Knowledge) (key number lamport : ℕ) → IsOneOf sessions client.session → AreClocksOf knows.clocks
      → AreClocksOf (knows_put client knows key number lamport).clocks
  put_of client knows key number lamport within are =
      learned_of knows.clocks key (one_count client.session number) are (one_count_of client.session number within)

  -- and once it has committed
  commit_of : (client : Client) (knows : Knowledge) (lamport : ℕ) (held : List (ℕ × Payload)) → IsOneOf sessions client.session
      → AreClocksOf knows.clocks → AreClocksOf (knows_committed client knows lamport held).clocks
  commit_of client knows lamport [] within are = are
  commit_of client knows lamport (held ∷ others) within are =
      let number : ℕ = own_count knows held.0 + 1 in
      commit_of client (knows_put client knows held.0 number lamport) lamport others within (put_of client knows held.0 number lamport within are)

  -- what is known once a cell with such a clock and such needs was shown
  shown_of : (level : Level) (known : List (ℕ × List (ℕ × ℕ))) (key : ℕ) (cell : PlainCell) → AreClocksOf known → IsClockOf cell.clock
      → AreClocksOf cell.needs
      → AreClocksOf (joined_needs (joined_needs known (one_need key (shown_to level cell).clock)) (needs_learned level (shown_to level cell).needs))
  shown_of Causal known key cell are is needs =
      (clocks_of_laws.closed (joined_needs known (one_need key cell.clock)) cell.needs (learned_of known key cell.clock are is) needs tt).0
  shown_of level known key cell are is needs = learned_of known key cell.clock are is

module _ (script : Script) where
  -- a clock in form is of the script's sessions
  named_clock : (clock : List (ℕ × ℕ)) → IsClockIn script clock → IsClockOf (length script.sessions) clock
  named_clock clock is = record { ascending = is.is_clock.ascending; are_entries = λ k d low. (is.sessions k d low, tt) }

  -- and so are needs in form
  named_needs : (needs : List (ℕ × List (ℕ × ℕ))) → AreNeedsIn script needs → AreClocksOf (length script.sessions) needs
  named_needs needs are = record {
    ascending = are.are_needs.ascending;
    are_entries = λ k d low. (tt, named_clock _ (record { is_clock = (are.are_needs.are_entries k d low).1.0; sessions = are.sessions k d low }));
  }

  -- what is known names sessions of the script alone
  abbrev KnowsSessions : Knowledge → Type 0
  KnowsSessions knows = AreClocksOf (length script.sessions) knows.clocks

  -- so does what a put has seen
  abbrev pub HasSeen : ℕ × Put → Type 0
  HasSeen entry = NamesSessions script entry.1.seen

module _ (script : Script) (client : Client) (within : IsSession script client.session) where
  -- a session that knows sessions of the script alone makes a put that has seen such alone
  put_seen : (knows : Knowledge) (key : ℕ) (payload : Payload) (number lamport place : ℕ) → KnowsSessions script knows
      → HasSeen script (key, put_made client knows key payload number lamport place)
  put_seen knows key payload number lamport place are = λ k d low. ((raised_of (length script.sessions) knows key client.session number are within).are_entries k d low).0

  -- so it does at a commit
  committed_seen : (knows : Knowledge) (lamport place : ℕ) (held : List (ℕ × Payload)) → KnowsSessions script knows
      → All (HasSeen script) (puts_committed client knows lamport place held)
  committed_seen knows lamport place [] are = All-nil (HasSeen script)
  committed_seen knows lamport place (held ∷ others) are =
      let number : ℕ = own_count knows held.0 + 1 in
      let reached : Knowledge = knows_put client knows held.0 number lamport in
      All-cons (HasSeen script) (held.0, put_made client knows held.0 held.1 number lamport place) (puts_committed client reached lamport (place + 1) others)
      (put_seen knows held.0 held.1 number lamport place are)
      (committed_seen reached lamport (place + 1) others (put_of (length script.sessions) client knows held.0 number lamport within are))

  -- and at each line
  line_seen : (state : State) (line : Line) (answer : Answer) → KnowsSessions script state.knows → All (HasSeen script) (puts_by client state line answer)
  line_seen state (lines.Put key payload) (answers.Put number lamport) are =
      All-cons (HasSeen script) (key, put_made client state.knows key payload number lamport 0) [] (put_seen state.knows key payload number lamport 0 are)
      (All-nil (HasSeen script))
  line_seen state lines.Commit (answers.Committed committed lamport) are = committed_seen state.knows lamport 0 (held_puts state) are
  line_seen state line answer are = All-nil (HasSeen script)

  module _ (puts : List (ℕ × Put)) (known : AreOfSessions script puts) (causal : AreCausal puts) where
    -- a sound cell tells of sessions of the script alone
    knows_after_shown : (state : State) (key : ℕ) (kind : Kind) (shown : Shown) → IsOfSound kind (puts_on key puts) client.level shown
        → KnowsSessions script state.knows → KnowsSessions script (knows_shown client state.knows key shown)
    knows_after_shown state key kind shown of are =
        let cell : PlainCell = of.cell in
        let clock = accepted_clock_in script puts known key cell.clock of.sound.of_kind.is_cell.clock_is of.sound.sound.shown.counts in
        let needs = sound_needs_in script puts known causal key cell.clock cell.needs of.sound.of_kind.is_cell.needs_are of.sound.sound.needs in
        subst (λ s. KnowsSessions script (knows_shown client state.knows key s)) (sym of.is)
        (shown_of (length script.sessions) client.level state.knows.clocks key cell are (named_clock script cell.clock clock) (named_needs script cell.needs needs))

    -- so does each line
    knows_after : (state : State) (line : Line) (answer : Answer) → ShowsSound script.kinds puts client.level line answer
        → KnowsSessions script state.knows → KnowsSessions script (after client state line answer).knows
    knows_after state (lines.Put key payload) (answers.Put number lamport) shows are = put_of (length script.sessions) client state.knows key number lamport within are
    knows_after state (lines.Get key named) (answers.Got worker shown) shows are = knows_after_shown state key (kind_at script.kinds key) shown shows are
    knows_after state (lines.Await key session count) (answers.Got worker shown) shows are = knows_after_shown state key (kind_at script.kinds key) shown shows are
    knows_after state lines.Begin answers.Begun shows are = are
    knows_after state lines.Commit (answers.Committed committed lamport) shows are =
        commit_of (length script.sessions) client state.knows lamport (held_puts state) within are
    knows_after state lines.Abort (answers.Aborted aborted) shows are = are
    knows_after state line answer shows are = are

    -- so all puts of its lines have seen sessions of the script alone
    lines_seen : (state : State) (lines : List Line) (answers : List Answer) → AllZip (ShowsSound script.kinds puts client.level) lines answers
        → KnowsSessions script state.knows → All (HasSeen script) (puts_from client state lines answers)
    lines_seen state (line ∷ lines) (answer ∷ answers) show are =
        let reached : State = after client state line answer in
        All-append (HasSeen script) (puts_by client state line answer) (puts_from client reached lines answers) (line_seen state line answer are)
        (lines_seen reached lines answers show.1 (knows_after state line answer show.0 are))
    lines_seen state lines answers show are = All-nil (HasSeen script)

    -- and it knows such alone after all of them
    end_knows : (state : State) (lines : List Line) (answers : List Answer) → AllZip (ShowsSound script.kinds puts client.level) lines answers
        → KnowsSessions script state.knows → KnowsSessions script (state_after client state lines answers).knows
    end_knows state (line ∷ lines) (answer ∷ answers) show are = end_knows (after client state line answer) lines answers show.1 (knows_after state line answer show.0 are)
    end_knows state lines answers show are = are

-- The accepted puts of a report that shows sound cells have seen sessions of the script alone.
pub accepted_have_seen : (script : Script) (table : List (List ℕ)) (report : Report) → IsValidScript script table → AreSessions script table report → AllShowSound script report
    → AreOfSessions script (accepted script report) → AreCausal (accepted script report) → All (HasSeen script) (accepted script report)
accepted_have_seen script table report valid are show known causal =
    All-accepted script table report are (HasSeen script) (λ session within.
    lines_seen script (client_at script session) within (accepted script report) known causal (start_at script report session) (lines_at script session) (answers_at report session)
    (show session within) (origin_knows session within))
  where
    origin_knows : (session : ℕ) → IsSession script session → KnowsSessions script (origin_at script report session)
    origin_knows = of_origins script table report valid are.as_many (KnowsSessions script) (no_clocks_of (length script.sessions)) (λ knows known. known)
        (λ session within is_causal known_before. end_knows script (client_at script session) within (accepted script report) known causal (start_at script report session) (lines_at script session) (answers_at report session) (show session within) known_before)
