-- The puts that a session makes are on keys of the script, with payloads of the kinds of their keys.
use Rattle.std.specs.Prelude.{◌≡◌, ℕ, ◌+◌, ◌-◌, List, [], ◌∷◌, All, length}
use Rattle.std.proofs.Common.{arith}
use Rattle.std.proofs.lemmas.List.Elements.{All-append, All-cons, All-get_or, All-head, All-nil, All-push, All-tail}
use Rattle.placement.specs.Config.{IsOneOf}
use Rattle.composed_value.specs.Keyed.{kind_at}
use Rattle.composed_value.specs.Kind.{kind_of}
use Rattle.composed_value.specs.declared.payload.Payload.{Payload}
use Rattle.composed_value.specs.declared.put.Put.{Put}
use Rattle.session_known.specs.Script.{IsValidScript, IsValidSession, MayStand}
use Rattle.session_known.specs.Session.{Client, Knowledge, State, after, held_puts, knows_put, own_count, put_made, puts_by, puts_committed, puts_from}
use Rattle.session_known.specs.declared.report.Answer.{Answer}
use Rattle.session_known.specs.declared.report.Answer.TheVariants as answers
use Rattle.session_known.specs.declared.report.Report.{Report}
use Rattle.session_known.specs.declared.script.Line.{Line}
use Rattle.session_known.specs.declared.script.Line.TheVariants as lines
use Rattle.session_known.specs.declared.script.Script.{Script}
use Rattle.legal_runs.proofs.SessionsLemmas.{IsSession, answers_at, client_at, lines_at, made_by, no_plan, plan_at, start_at}

-- the session of a number has lines that may stand there
pub session_is_valid : (script : Script) (table : List (List ℕ)) (session : ℕ) → IsValidScript script table → IsSession script session → IsValidSession script table (plan_at script session)
session_is_valid script table session valid known = All-get_or (IsValidSession script table) script.sessions (session - 1) no_plan (omega (arith, known.0, known.1)) valid.sessions

-- a payload that a line of the script may put on a key
abbrev pub MayBePut : Script → ℕ → Payload → Type 0
MayBePut script key payload = IsOneOf (length script.config.keys) key × (kind_of payload ≡ kind_at script.kinds key)

-- a held put of the script
abbrev pub MayBeHeld : Script → ℕ × Payload → Type 0
MayBeHeld script held = MayBePut script held.0 held.1

-- an accepted put of the script
abbrev pub MayBeMade : Script → ℕ × Put → Type 0
MayBeMade script entry = MayBePut script entry.0 entry.1.payload

module _ (script : Script) (table : List (List ℕ)) (client : Client) where
  -- a commit makes puts of the script where such are held
  committed_in_script : (knows : Knowledge) (lamport place : ℕ) (held : List (ℕ × Payload)) → All (MayBeHeld script) held → All (MayBeMade script) (puts_committed client knows lamport place held)
  committed_in_script knows lamport place [] may = All-nil (MayBeMade script)
  committed_in_script knows lamport place (held ∷ others) may =
      let number : ℕ = own_count knows held.0 + 1 in
      let reached : Knowledge = knows_put client knows held.0 number lamport in
      All-cons (MayBeMade script) (held.0, put_made client knows held.0 held.1 number lamport place) (puts_committed client reached lamport (place + 1) others)
      (All-head (MayBeHeld script) held others may) (committed_in_script reached lamport (place + 1) others (All-tail (MayBeHeld script) held others may))

  -- so does a line that may stand
  line_in_script : (state : State) (line : Line) (answer : Answer) → MayStand script table client.level line → All (MayBeHeld script) (held_puts state) → All (MayBeMade script) (puts_by client state line answer)
  line_in_script state (lines.Put key payload) (answers.Put number lamport) stands may =
      All-cons (MayBeMade script) (key, put_made client state.knows key payload number lamport 0) [] (stands.0, stands.2) (All-nil (MayBeMade script))
  line_in_script state lines.Commit (answers.Committed committed lamport) stands may = committed_in_script state.knows lamport 0 (held_puts state) may
  line_in_script state line answer stands may = All-nil (MayBeMade script)

  -- and after it such are held
  held_in_script : (state : State) (line : Line) (answer : Answer) → MayStand script table client.level line → All (MayBeHeld script) (held_puts state) → All (MayBeHeld script) (held_puts (after client state line answer))
  held_in_script state (lines.Put key payload) (answers.Put number lamport) stands may = may
  held_in_script state (lines.Put key payload) answers.Held stands may = All-push (MayBeHeld script) (held_puts state) (key, payload) may (stands.0, stands.2)
  held_in_script state lines.Begin answers.Begun stands may = All-nil (MayBeHeld script)
  held_in_script state lines.Commit (answers.Committed committed lamport) stands may = All-nil (MayBeHeld script)
  held_in_script state lines.Commit answers.Worn stands may = All-nil (MayBeHeld script)
  held_in_script state lines.Abort (answers.Aborted aborted) stands may = All-nil (MayBeHeld script)
  held_in_script state (lines.Get key named) (answers.Got worker shown) stands may = may
  held_in_script state (lines.Await key session count) (answers.Got worker shown) stands may = may
  held_in_script state line answer stands may = may

  -- so all lines that may stand make puts of the script
  pub lines_in_script : (state : State) (lines : List Line) (answers : List Answer) → All (MayStand script table client.level) lines → All (MayBeHeld script) (held_puts state) → All (MayBeMade script) (puts_from client state lines answers)
  lines_in_script state (line ∷ lines) (answer ∷ answers) stand may =
      let reached : State = after client state line answer in
      let stands : MayStand script table client.level line = All-head (MayStand script table client.level) line lines stand in
      All-append (MayBeMade script) (puts_by client state line answer) (puts_from client reached lines answers) (line_in_script state line answer stands may)
      (lines_in_script reached lines answers (All-tail (MayStand script table client.level) line lines stand) (held_in_script state line answer stands may))
  lines_in_script state lines answers stand may = All-nil (MayBeMade script)

-- The puts of each session of a valid script are on its keys, with payloads of their kinds.
pub puts_in_script : (script : Script) (table : List (List ℕ)) (report : Report) → IsValidScript script table → (session : ℕ) → IsSession script session
    → All (λ entry. IsOneOf (length script.config.keys) entry.0 × (kind_of entry.1.payload ≡ kind_at script.kinds entry.0)) (made_by script report session)
puts_in_script script table report valid session known =
    lines_in_script script table (client_at script session) (start_at script report session) (lines_at script session) (answers_at report session) (session_is_valid script table session valid known).lines
    (All-nil (MayBeHeld script))
