-- The requests of a session go to its workers.
use Rattle.std.specs.Prelude.{◌≡◌, ℕ, zero, suc, ◌+◌, ◌<◌, List, [], ◌∷◌, All, length, slice_get, slice_index_or, option_map, unwrap_or, Option, Some, None}
use Rattle.std.proofs.Common.{◌∙◌, refl, sym, ap, subst, arith}
use Rattle.std.proofs.lemmas.List.{length-map}
use Rattle.std.proofs.lemmas.List.Elements.{All-head, All-get_or, All-nil, All-push, All-tail}
use Rattle.std.proofs.lemmas.Option.{get_or_from_slice_get, none-some, same_Some, slice_get_within}
use Rattle.placement.specs.Asked.{home_at}
use Rattle.placement.specs.Config.{IsOneOf}
use Rattle.session_known.specs.Lawful.{required}
use Rattle.session_known.specs.Requests.{Sent, asks_sent, puts_sent}
use Rattle.session_known.specs.Session.{Client, State, after, held_puts, puts_committed, state_after}
use Rattle.session_known.specs.declared.report.Answer.{Answer}
use Rattle.session_known.specs.declared.report.Answer.TheVariants as answers
use Rattle.session_known.specs.declared.script.Level.{Level}
use Rattle.session_known.specs.declared.script.Level.TheVariants.{Causal}
use Rattle.session_known.specs.declared.script.Line.{Line}
use Rattle.session_known.specs.declared.script.Line.TheVariants as lines
use Rattle.session_proxy.proofs.AfterLemmas.{puts_by_due}
use Rattle.session_proxy.proofs.AskLemmas.{ask_there, asked_is_worker, asks_length, home_is_worker, most_of_asked}
use Rattle.session_proxy.proofs.ClosingLemmas.{due_known}
use Rattle.session_proxy.proofs.KeepsLemmas.{open_most_is}
use Rattle.session_proxy.proofs.PutsLemmas.{committed_length, most_of_puts, put_there}
use Rattle.session_proxy.specs.Kept.{IsOn}
use Rattle.session_proxy.specs.Lines.{AreReplicas, MayRun, most_asks, most_sent, puts_due}
use Rattle.session_proxy.specs.Local.{key_asked, order_asked, worker_asked}
use Rattle.session_proxy.specs.Share.{IsAsked, open_most}
use Rattle.session_proxy.specs.State.{Lists, open_line, starting, state_now}
use Rattle.run_measure.specs.Laws.{IsPlaced}

-- the puts that a session holds after some lines are on keys of its table
held_after : (table : List (List ℕ)) (client : Client) (state : State) (line : Line) (answer : Answer) → MayRun table client.level line
    → All (IsOn table) (held_puts state) → All (IsOn table) (held_puts (after client state line answer))
held_after table client state (lines.Put key payload) (answers.Put number lamport) may held = held
held_after table client state (lines.Put key payload) answers.Held may held = All-push (IsOn table) (held_puts state) (key, payload) held may
held_after table client state lines.Begin answers.Begun may held = All-nil (IsOn table)
held_after table client state lines.Commit (answers.Committed puts lamport) may held = All-nil (IsOn table)
held_after table client state lines.Commit answers.Worn may held = All-nil (IsOn table)
held_after table client state lines.Abort (answers.Aborted puts) may held = All-nil (IsOn table)
held_after table client state (lines.Get key named) (answers.Got worker shown) may held = held
held_after table client state (lines.Await key session count) (answers.Got worker shown) may held = held
held_after table client state line answer may held = held

held_on : (table : List (List ℕ)) (client : Client) (state : State) (lines : List Line) (given : List Answer) → All (MayRun table client.level) lines
    → All (IsOn table) (held_puts state) → All (IsOn table) (held_puts (state_after client state lines given))
held_on table client state (line ∷ lines) (answer ∷ given) may held =
    held_on table client (after client state line answer) lines given (All-tail (MayRun table client.level) line lines may)
    (held_after table client state line answer (All-head (MayRun table client.level) line lines may) held)
held_on table client state lines given may held = held

-- a list with a place has an item
some_of : {X : Type 0} (items : List X) (place : ℕ) → place < length items → X
some_of [] place within = absurd (omega (arith, within))
some_of (first ∷ rest) place within = first

module _ (workers : ℕ) (table : List (List ℕ)) (placed : All (AreReplicas workers) table) where
  -- a session's home of a key is a worker, of whichever number the session is
  home_goes : (session key : ℕ) → IsOneOf (length table) key → IsOneOf workers (home_at table session key)
  home_goes zero key known = home_is_worker workers table 1 key placed known (omega arith)
  home_goes (suc session) key known = home_is_worker workers table (suc session) key placed known (omega arith)

  -- and so is whom an ask goes to
  ask_goes : (session : ℕ) (level : Level) (line : Line) (place : ℕ) → MayRun table level line → IsAsked line
      → IsOneOf workers (worker_asked table (record { session = session; level = level }) line place)
  ask_goes (suc session) level line place may asked =
      asked_is_worker workers table (record { session = suc session; level = level }) line place placed may asked (omega arith)
  ask_goes zero Causal (lines.Get key named) place may asked =
      asked_is_worker workers table (record { session = 1; level = Causal }) (lines.Get key named) place placed may tt (omega arith)
  ask_goes zero level (lines.Get key named) place may asked =
      asked_is_worker workers table (record { session = 1; level = level }) (lines.Get key named) place placed may tt (omega arith)
  ask_goes zero level (lines.Await key session count) place may asked =
      asked_is_worker workers table (record { session = 1; level = level }) (lines.Await key session count) place placed may tt (omega arith)
  ask_goes zero level line place may asked = absurd asked

  module _ (client : Client) (state : State) (first : ℕ) (held : All (IsOn table) (held_puts state)) (place worker : ℕ) (item : Sent) where
    -- the request at the place, among those of a line
    abbrev IsAt : Line → Type 0
    IsAt line = slice_get (most_sent table client state first line) place ≡ Some (worker, item)

    -- it goes to a worker where the line asks
    of_asks : (line : Line) → MayRun table client.level line → IsAsked line → IsAt line → IsOneOf workers worker
    of_asks line may asked there =
        let order : List ℕ = order_asked table client line in
        let key : ℕ = key_asked line in
        let clock : List (ℕ × ℕ) = required client state.knows line in
        let most : ℕ = most_asks table client.level key in
        let there_now : slice_get (asks_sent order first key clock most) place ≡ Some (worker, item) =
        sym (ap (λ list. slice_get list place) (most_of_asked table client state first line asked)) ∙ there
        in
        let low = slice_get_within (asks_sent order first key clock most) place (worker, item) there_now in
        let is = same_Some _ _ (sym (ask_there order first key clock place most (omega (arith, low, asks_length order first key clock most))) ∙ there_now) in
        subst (IsOneOf workers) (ap (λ (entry : ℕ × Sent). entry.0) is) (ask_goes client.session client.level line place may asked)

    -- and where it makes puts
    of_puts : (line : Line) → MayRun table client.level line → (IsAsked line → ⊥) → IsAt line → IsOneOf workers worker
    of_puts line may no_ask there =
        let due = puts_due state line in
        let most : most_sent table client state first line ≡ puts_sent table client (puts_committed client state.knows (state.knows.lamport + 1) 0 due) =
        most_of_puts table client state first line no_ask ∙ ap (puts_sent table client) (puts_by_due client state line no_ask)
        in
        let long : length (most_sent table client state first line) ≡ length due =
        ap length most ∙ length-map _ _ ∙ committed_length client state.knows (state.knows.lamport + 1) 0 due
        in
        let low : place < length due = omega (arith, slice_get_within _ place (worker, item) there, long) in
        let some = some_of due place low in
        let put = put_there table client state.knows (state.knows.lamport + 1) 0 due place some low in
        let is = same_Some _ _ (sym put.1 ∙ sym (ap (λ list. slice_get list place) most) ∙ there) in
        subst (IsOneOf workers) (ap (λ (entry : ℕ × Sent). entry.0) is)
        (home_goes client.session (slice_index_or due place some).0
        (All-get_or (IsOn table) due place some low (due_known table client.level state line may held)))

    of_line : (line : Line) → MayRun table client.level line → IsAt line → IsOneOf workers worker
    of_line (lines.Get key named) may there = of_asks (lines.Get key named) may tt there
    of_line (lines.Await key session count) may there = of_asks (lines.Await key session count) may tt there
    of_line (lines.Put key payload) may there = of_puts (lines.Put key payload) may (λ asked. asked) there
    of_line lines.Begin may there = of_puts lines.Begin may (λ asked. asked) there
    of_line lines.Commit may there = of_puts lines.Commit may (λ asked. asked) there
    of_line lines.Abort may there = of_puts lines.Abort may (λ asked. asked) there

-- the requests of the open line go to workers
pub goes_to_worker : (lists : Lists) → IsPlaced lists → (place worker : ℕ) (item : Sent) → slice_get (open_most lists.course) place ≡ Some (worker, item)
    → IsOneOf (length lists.sent) worker
goes_to_worker lists is place worker item there = by_line (open_line lists.course) refl
  where
    by_line : (option : Option Line) → open_line lists.course ≡ option → IsOneOf (length lists.sent) worker
    by_line None none =
        let empty : open_most lists.course ≡ [] =
        ap (λ option. unwrap_or (option_map (most_sent lists.course.table lists.course.client (state_now lists.course) (lists.course.asks + 1)) option) []) none
        in
        absurd (none-some (worker, item) (sym (ap (λ list. slice_get list place) empty) ∙ there))
    by_line (Some line) at =
        let low = slice_get_within lists.course.lines (length lists.course.answers) line at in
        let may : MayRun lists.course.table lists.course.client.level line =
        subst (MayRun lists.course.table lists.course.client.level) (get_or_from_slice_get lists.course.lines (length lists.course.answers) line line at)
        (is.lines (length lists.course.answers) line low)
        in
        of_line (length lists.sent) lists.course.table is.replicas lists.course.client (state_now lists.course) (lists.course.asks + 1)
        (held_on lists.course.table lists.course.client (starting lists.course) lists.course.lines lists.course.answers is.lines (All-nil (IsOn lists.course.table)))
        place worker item line may (sym (ap (λ list. slice_get list place) (open_most_is lists.course line at)) ∙ there)
