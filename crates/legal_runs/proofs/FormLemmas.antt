-- The answers of a report that shows sound cells fit their lines, and final cells that are sound are in form.
use Rattle.std.specs.Prelude.{◌≡◌, ℕ, ◌+◌, ◌-◌, ◌<◌, ◌≤◌, ◌^◌, List, [], ◌∷◌, ◌++◌, All, length, None, IsSome}
use Rattle.std.specs.List.{AllZip}
use Rattle.std.proofs.Common.{◌∙◌, sym, ap, subst, arith}
use Rattle.std.proofs.lemmas.Bool.{false≢true}
use Rattle.std.proofs.lemmas.List.Elements.{All-head, All-tail}
use Rattle.std.proofs.lemmas.List.Sums.{get_or-le-sum_by}
use Rattle.lattice_laws.proofs.ListLemmas.{All-back, All-front}
use Rattle.placement.specs.Config.{IsOneOf}
use Rattle.merge_world.specs.declared.private_map.KeyCells.{KeyCells}
use Rattle.composed_value.specs.Keyed.{kind_at, puts_on}
use Rattle.composed_value.specs.Put.{IsPut}
use Rattle.composed_value.specs.declared.payload.Payload.{Payload}
use Rattle.composed_value.specs.declared.put.Put.{Put}
use Rattle.session_known.proofs.AcceptedLemmas.{line_accepts}
use Rattle.session_known.specs.Accepted.{accepted}
use Rattle.session_known.specs.Form.{Fits, IsAgainIn, IsFinalIn}
use Rattle.session_known.specs.Lawful.{AreLawful, IsLawful, IsLawfulAgain, IsLawfulCommit, lamport_of_commit}
use Rattle.session_known.specs.Script.{IsValidScript, MayStand}
use Rattle.session_known.specs.Session.{Client, Knowledge, State, after, held_puts, knows_put, own_count, put_made, puts_by, puts_committed, puts_from}
use Rattle.session_known.specs.declared.report.Answer.{Answer}
use Rattle.session_known.specs.declared.report.Answer.TheVariants as answers
use Rattle.session_known.specs.declared.report.Report.{Report}
use Rattle.session_known.specs.declared.script.Level.TheVariants.{Committed}
use Rattle.session_known.specs.declared.script.Line.{Line}
use Rattle.session_known.specs.declared.script.Line.TheVariants as lines
use Rattle.session_known.specs.declared.script.Script.{Script}
use Rattle.run_ledger.specs.Came.{final_of}
use Rattle.run_ledger.specs.Causality.{AreCausal}
use Rattle.legal_runs.proofs.AcceptedLemmas.{IsPutIn}
use Rattle.legal_runs.proofs.CellsInFormLemmas.{AreFewOfKinds, shown_in, sound_final_in}
use Rattle.legal_runs.proofs.JoinedSoundLemmas.{IsSoundOf}
use Rattle.legal_runs.proofs.MadePutsLemmas.{All-made_by, AreOfSessions, accepted_of_sessions}
use Rattle.legal_runs.proofs.NamedSessionsLemmas.{accepted_clock_in}
use Rattle.legal_runs.proofs.PutsInScriptLemmas.{session_is_valid}
use Rattle.legal_runs.proofs.RepliersLemmas.{few_asks, last_is_worker, replier_is_worker}
use Rattle.legal_runs.proofs.SeenSessionsLemmas.{HasSeen, accepted_have_seen}
use Rattle.legal_runs.proofs.SessionsLemmas.{AreSessions, IsSession, answers_at, client_at, lines_at, no_plan, plan_at, start_at}
use Rattle.legal_runs.proofs.ShownLemmas.{AllShowSound, IsOfAccepted, ShowsSound}

-- the put of an entry is one that there can be
abbrev HoldsPut : ℕ × Put → Type 0
HoldsPut entry = IsPut entry.1

-- the Lamport number of a commit fits, since the first of its puts bears it
commit_lamport_fits : (client : Client) (knows : Knowledge) (puts lamport : ℕ) (held : List (ℕ × Payload)) → puts ≡ length held
    → lamport ≡ lamport_of_commit knows puts → All HoldsPut (puts_committed client knows lamport 0 held) → lamport < 2 ^ 64
commit_lamport_fits client knows puts lamport [] many is all = let none : lamport ≡ 0 = is ∙ ap (lamport_of_commit knows) many in omega (arith, none)
commit_lamport_fits client knows puts lamport (held ∷ others) many is all =
    let number : ℕ = own_count knows held.0 + 1 in
    let later : List (ℕ × Put) = puts_committed client (knows_put client knows held.0 number lamport) lamport 1 others in
    (All-head HoldsPut (held.0, put_made client knows held.0 held.1 number lamport 0) later all).lamport_fits

-- so its answer fits
commit_fits : (client : Client) (state : State) (puts lamport : ℕ) → IsLawfulCommit state puts lamport → length (held_puts state) < 2 ^ 32
    → All HoldsPut (puts_committed client state.knows lamport 0 (held_puts state)) → (puts < 2 ^ 32) × (lamport < 2 ^ 64) × (puts ≡ 0 → lamport ≡ 0)
commit_fits client state puts lamport lawful few all = (
  omega (arith, few, lawful.puts_are),
  commit_lamport_fits client state.knows puts lamport (held_puts state) lawful.puts_are lawful.lamport_is all,
  λ none. lawful.lamport_is ∙ ap (lamport_of_commit state.knows) none,
)

-- only a committed session has begun a transaction
abbrev BeginsWhereCommitted : Client → State → Type 0
BeginsWhereCommitted client state = IsSome state.held → client.level ≡ Committed

-- so it stays after a line that may stand
begins_after : (script : Script) (table : List (List ℕ)) (client : Client) (state : State) (earlier : List (Line × Answer)) (line : Line) (answer : Answer)
    → MayStand script table client.level line → IsLawful table client state earlier line answer
    → BeginsWhereCommitted client state → BeginsWhereCommitted client (after client state line answer)
begins_after script table client state earlier (lines.Put key payload) (answers.Put number lamport) stands lawful begins = begins
begins_after script table client state earlier (lines.Put key payload) answers.Held stands lawful begins = λ some. begins lawful
begins_after script table client state earlier lines.Begin answers.Begun stands lawful begins = λ some. stands
begins_after script table client state earlier lines.Commit (answers.Committed committed lamport) stands lawful begins = λ some. stands
begins_after script table client state earlier lines.Commit answers.Worn stands lawful begins = λ some. stands
begins_after script table client state earlier lines.Abort (answers.Aborted aborted) stands lawful begins = λ some. stands
begins_after script table client state earlier (lines.Get key named) (answers.Got worker shown) stands lawful begins = begins
begins_after script table client state earlier (lines.Await key session count) (answers.Got worker shown) stands lawful begins = begins
begins_after script table client state earlier line answer stands lawful begins = begins

module _ (script : Script) (table : List (List ℕ)) (valid : IsValidScript script table) (puts : List (ℕ × Put)) (known : AreOfSessions script puts)
    (seen : All (HasSeen script) puts) (of_kinds : AreFewOfKinds script puts) (causal : AreCausal puts) (client : Client) (some : 1 ≤ client.session)
  where
    -- a lawful end of asking fits
    again_fits : (state : State) (earlier : List (Line × Answer)) (line : Line) (key asks worker : ℕ) (clock : List (ℕ × ℕ))
        → IsLawfulAgain table client state.knows earlier line key asks worker clock → IsOneOf (length script.config.keys) key → IsOfAccepted puts key clock
        → IsAgainIn script client.level asks worker clock
    again_fits state earlier line key asks worker clock lawful there of = record {
      causal = lawful.causal;
      asks_fit = omega (arith, lawful.asks_are, few_asks script table valid key there);
      worker_is = subst (IsOneOf script.config.workers) (sym lawful.worker_is) (last_is_worker script table valid client.session key there some);
      clock_is = accepted_clock_in script puts known key clock of.is_clock of.counts;
    }

    -- a lawful answer of a line that may stand fits it
    line_fits : (state : State) (earlier : List (Line × Answer)) (line : Line) (answer : Answer) → IsLawful table client state earlier line answer
        → MayStand script table client.level line → ShowsSound script.kinds puts client.level line answer → All HoldsPut (puts_by client state line answer)
        → BeginsWhereCommitted client state → length (held_puts state) < 2 ^ 32 → Fits script client.level line answer
    line_fits state earlier (lines.Put key payload) (answers.Put number lamport) lawful stands shows all begins few =
        let put : Put = put_made client state.knows key payload number lamport 0 in
        let its : IsPut put = All-head HoldsPut (key, put) [] all in
        (its.number_fits, its.lamport_fits)
    line_fits state earlier (lines.Put key payload) answers.Worn lawful stands shows all begins few = tt
    line_fits state earlier (lines.Put key payload) answers.Held lawful stands shows all begins few = begins lawful
    line_fits state earlier (lines.Get key named) (answers.Got worker shown) lawful stands shows all begins few =
        shown_in script puts known seen of_kinds causal client.level key worker shown
        (replier_is_worker script table valid client.level client.session key named worker stands.0 some stands.1 lawful.worker_is) shows
    line_fits state earlier (lines.Get key named) (answers.Again asks worker clock) lawful stands shows all begins few =
        again_fits state earlier (lines.Get key named) key asks worker clock lawful stands.0 shows
    line_fits state earlier (lines.Await key session count) (answers.Got worker shown) lawful stands shows all begins few =
        shown_in script puts known seen of_kinds causal client.level key worker shown
        (replier_is_worker script table valid client.level client.session key None worker stands.0 some tt lawful.worker_is) shows
    line_fits state earlier (lines.Await key session count) (answers.Again asks worker clock) lawful stands shows all begins few =
        again_fits state earlier (lines.Await key session count) key asks worker clock lawful stands.0 shows
    line_fits state earlier lines.Begin answers.Begun lawful stands shows all begins few = tt
    line_fits state earlier lines.Commit (answers.Committed committed lamport) lawful stands shows all begins few =
        commit_fits client state committed lamport lawful few all
    line_fits state earlier lines.Commit answers.Worn lawful stands shows all begins few = tt
    line_fits state earlier lines.Abort (answers.Aborted aborted) lawful stands shows all begins few = omega (arith, lawful.1, few)
    line_fits state earlier line answer lawful stands shows all begins few = absurd lawful

    -- so all lawful answers fit, where with the held puts there are at most 4096 lines
    lines_fit : (state : State) (earlier : List (Line × Answer)) (lines : List Line) (answers : List Answer) → AreLawful table client state earlier lines answers
        → All (MayStand script table client.level) lines → AllZip (ShowsSound script.kinds puts client.level) lines answers
        → All HoldsPut (puts_from client state lines answers) → BeginsWhereCommitted client state → length (held_puts state) + length lines ≤ 4096
        → AllZip (Fits script client.level) lines answers
    lines_fit state earlier [] [] lawful stand show all begins few = tt
    lines_fit state earlier (line ∷ lines) (answer ∷ answers) lawful stand show all begins few =
        let reached : State = after client state line answer in
        let its : List (ℕ × Put) = puts_by client state line answer in
        let later : List (ℕ × Put) = puts_from client reached lines answers in
        let may : Line → Type 0 = MayStand script table client.level in
        let stands : MayStand script table client.level line = All-head may line lines stand in (
          line_fits state earlier line answer lawful.0 stands show.0 (All-front HoldsPut its later all) begins (omega (arith, few)),
          lines_fit reached (earlier ++ (line, answer) ∷ []) lines answers lawful.1 (All-tail may line lines stand) show.1 (All-back HoldsPut its later all)
              (begins_after script table client state earlier line answer stands lawful.0 begins) (omega (arith, few, line_accepts client state line answer)),
        )
    lines_fit state earlier [] (answer ∷ answers) lawful stand show all begins few = absurd lawful
    lines_fit state earlier (line ∷ lines) [] lawful stand show all begins few = absurd lawful

-- the accepted puts are on keys and of sessions of the script
known_of : (script : Script) (table : List (List ℕ)) (report : Report) → AreSessions script table report → All (IsPutIn script) (accepted script report)
    → AreOfSessions script (accepted script report)
known_of script table report are puts_in = λ k d low. ((puts_in k d low).0, accepted_of_sessions script table report are k d low)

-- The lawful answers of each session fit its lines.
pub answers_fit : (script : Script) (table : List (List ℕ)) (report : Report) → IsValidScript script table → AreSessions script table report
    → AllShowSound script report → All (IsPutIn script) (accepted script report) → AreFewOfKinds script (accepted script report) → AreCausal (accepted script report)
    → (session : ℕ) → IsSession script session
    → AreLawful table (client_at script session) (start_at script report session) [] (lines_at script session) (answers_at report session)
    → AllZip (Fits script (plan_at script session).level) (lines_at script session) (answers_at report session)
answers_fit script table report valid are show puts_in of_kinds causal session within lawful =
    let all : List (ℕ × Put) = accepted script report in
    let known : AreOfSessions script all = known_of script table report are puts_in in
    let puts_are = All-made_by script table report are HoldsPut (λ k d low. (puts_in k d low).1.is_put) session within in
    let few = get_or-le-sum_by (λ plan. length plan.lines) script.sessions (session - 1) no_plan (omega (arith, within.0, within.1)) in
    lines_fit script table valid all known (accepted_have_seen script table report valid are show known causal) of_kinds causal (client_at script session) within.0
    (start_at script report session) [] (lines_at script session) (answers_at report session) lawful (session_is_valid script table session valid within).lines (show session within)
    puts_are (λ begun. absurd (false≢true begun)) (omega (arith, few, valid.few_lines))

-- And final cells of sound cells are in form.
pub final_fits : (script : Script) (table : List (List ℕ)) (report : Report) → IsValidScript script table → AreSessions script table report → All (IsPutIn script) (accepted script report)
    → AreFewOfKinds script (accepted script report) → AllShowSound script report → AreCausal (accepted script report) → (key worker : ℕ) (cells : KeyCells)
    → IsSoundOf (kind_at script.kinds key) (puts_on key (accepted script report)) cells.whole → IsFinalIn script (final_of key worker cells)
final_fits script table report valid are puts_in of_kinds show causal key worker cells sound =
    let known : AreOfSessions script (accepted script report) = known_of script table report are puts_in in
    sound_final_in script (accepted script report) known (accepted_have_seen script table report valid are show known causal) of_kinds key worker cells sound
