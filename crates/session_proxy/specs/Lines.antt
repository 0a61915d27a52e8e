-- What a line of a session asks of the workers.
use Rattle.std.specs.Prelude.{◌≡◌, ℕ, ◌+◌, ◌*◌, ◌≤◌, ◌==◌, ◌||◌, Bool, if◌then◌else◌, is_some, List, [], ◌∷◌, All, length}
use Rattle.composed_value.specs.declared.payload.Payload.{Payload}
use Rattle.placement.specs.Asked.{ask_order, replicas_of}
use Rattle.placement.specs.Config.{AreDifferent, IsOneOf}
use Rattle.session_known.specs.Lawful.{lamport_of_commit, last_lamport, required}
use Rattle.session_known.specs.Requests.{Sent, asked_by, asks_sent, puts_sent}
use Rattle.session_known.specs.Script.{MayName}
use Rattle.session_known.specs.Session.{Client, State, held_puts, own_count, puts_by}
use Rattle.session_known.specs.declared.report.Answer.{Answer}
use Rattle.session_known.specs.declared.report.Answer.TheVariants as answers
use Rattle.session_known.specs.declared.script.Level.{Level}
use Rattle.session_known.specs.declared.script.Level.TheVariants.{Causal, Committed}
use Rattle.session_known.specs.declared.script.Line.{Line}
use Rattle.session_known.specs.declared.script.Line.TheVariants as lines

-- A line that a session of the level may have: its key is there, it names a replica or nothing, only a causal session awaits, and only a
-- committed one begins, commits and aborts.
abbrev pub MayRun : List (List ℕ) → Level → Line → Type 0
MayRun table level (lines.Put key payload) = IsOneOf (length table) key
MayRun table level (lines.Get key named) = IsOneOf (length table) key × MayName level (replicas_of table key) named
MayRun table level (lines.Await key session count) = IsOneOf (length table) key × (level ≡ Causal)
MayRun table level line = level ≡ Committed

-- the replicas of a key, among so many workers
pub record AreReplicas (workers : ℕ) (replicas : List ℕ) : Type 0 where
  pub some : 1 ≤ length replicas
  pub are_workers : All (IsOneOf workers) replicas
  pub different : AreDifferent replicas

-- the session's Lamport numbers are used up
abbrev pub is_worn : State → Bool
is_worn state = state.knows.lamport == last_lamport

-- The puts that a line makes, each with its key: its own, where no transaction is begun, or those that its commit accepts; none where no
-- Lamport number is left.
abbrev pub puts_due : State → Line → List (ℕ × Payload)
puts_due state (lines.Put key payload) = if is_some state.held || is_worn state then [] else (key, payload) ∷ []
puts_due state lines.Commit = if is_worn state then [] else held_puts state
puts_due state line = []

-- the answer of a line that is no get and no await
abbrev pub answer_at : State → Line → Answer
answer_at state (lines.Put key payload) =
    if is_some state.held then answers.Held else (if is_worn state then answers.Worn else answers.Put (own_count state.knows key + 1) (state.knows.lamport + 1))
answer_at state lines.Commit =
    if is_worn state then answers.Worn else answers.Committed (length (held_puts state)) (lamport_of_commit state.knows (length (held_puts state)))
answer_at state lines.Abort = answers.Aborted (length (held_puts state))
answer_at state line = answers.Begun

-- how many asks a get or an await sends at most: in a causal session 8 for each replica, else one
abbrev pub most_asks : List (List ℕ) → Level → ℕ → ℕ
most_asks table Causal key = 8 * length (replicas_of table key)
most_asks table level key = 1

-- the requests that a line sends at most, its asks numbered from `first` on
abbrev pub most_sent : List (List ℕ) → Client → State → ℕ → Line → List (ℕ × Sent)
most_sent table client state first (lines.Get key named) =
    asks_sent (asked_by client.level table client.session key named) first key (required client state.knows (lines.Get key named)) (most_asks table client.level key)
most_sent table client state first (lines.Await key session count) =
    asks_sent (ask_order table client.session key) first key (required client state.knows (lines.Await key session count)) (most_asks table client.level key)
most_sent table client state first line = puts_sent table client (puts_by client state line (answer_at state line))

-- how many requests a line sends at most; that of a held put, which goes out at the commit, counts at its own line
abbrev pub most_of_line : List (List ℕ) → Level → Line → ℕ
most_of_line table level (lines.Put key payload) = 1
most_of_line table level (lines.Get key named) = most_asks table level key
most_of_line table level (lines.Await key session count) = most_asks table level key
most_of_line table level line = 0
