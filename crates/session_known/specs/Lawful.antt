-- Which answers a session may get: what is decided inside the session, and what speaks of all accepted puts.
use Rattle.std.specs.Prelude.{◌≡◌, ◌≢◌, ℕ, ◌+◌, ◌-◌, ◌*◌, ◌^◌, ◌≤◌, zero, suc, ◌==◌, cond, ◌&&◌, IsTrue, IsFalse, List, [], ◌∷◌, ◌++◌, length, filter_map, Option, Some, None, IsSome, MatchOption, All, Contains, ⊤}
use Rattle.clock_lattice.specs.Clock.{count_of, joined_clocks, one_count, covers}
use Rattle.clock_lattice.specs.Needs.{clock_at}
use Rattle.placement.specs.Asked.{replicas_of, home_at, last_asked}
use Rattle.composed_value.specs.PlainValue.{puts_of_session}
use Rattle.composed_value.specs.Sound.{IsSound, AreSoundNeeds}
use Rattle.composed_value.specs.declared.kind.Kind.{Kind}
use Rattle.composed_value.specs.declared.put.Put as puts
use Rattle.composed_value.specs.Keyed.{puts_on, kind_at}
use Rattle.session_known.specs.Session.{Client, Knowledge, State, own_count, held_puts, after}
use Rattle.session_known.specs.declared.report.Answer.{Answer}
use Rattle.session_known.specs.declared.report.Answer.TheVariants as answers
use Rattle.session_known.specs.declared.report.Shown.{Shown}
use Rattle.session_known.specs.declared.script.Level.{Level}
use Rattle.session_known.specs.declared.script.Level.TheVariants.{Causal}
use Rattle.session_known.specs.declared.script.Line.{Line}
use Rattle.session_known.specs.declared.script.Line.TheVariants as lines

-- the greatest Lamport number that there is
abbrev pub last_lamport : ℕ
last_lamport = 2 ^ 64 - 1

-- the Lamport number of a session's next put, and nothing where the last is seen or used
abbrev pub IsNextLamport : Knowledge → Option ℕ → Type 0
IsNextLamport knows next = MatchOption next (knows.lamport ≡ last_lamport) (λ number. number ≡ knows.lamport + 1)

-- what a get must cover: in a causal session what is known of the key
abbrev pub required_by_get : Level → Knowledge → ℕ → List (ℕ × ℕ)
required_by_get Causal knows key = clock_at key knows.clocks
required_by_get level knows key = []

-- what a reply to the line must cover; at an await what is known of the key, raised to the awaited count
abbrev pub required : Client → Knowledge → Line → List (ℕ × ℕ)
required client knows (lines.Get key named) = required_by_get client.level knows key
required client knows (lines.Await key session count) = joined_clocks (clock_at key knows.clocks) (one_count session count)
required client knows line = []

-- which worker may reply to a get: in a causal session any replica, else the named one or the home
abbrev pub MayReply : Level → List (List ℕ) → ℕ → ℕ → Option ℕ → ℕ → Type 0
MayReply Causal table session key named worker = Contains (replicas_of table key) worker
MayReply level table session key (Some named) worker = worker ≡ named
MayReply level table session key None worker = worker ≡ home_at table session key

-- the clock of the key that a line's answer had from a worker, if it had one
abbrev pub had_from : ℕ → ℕ → Line × Answer → Option (List (ℕ × ℕ))
had_from key worker (lines.Get its_key named, answers.Got by shown) = cond ((its_key == key) && (by == worker)) (Some shown.clock) None
had_from key worker (lines.Await its_key session count, answers.Got by shown) = cond ((its_key == key) && (by == worker)) (Some shown.clock) None
had_from key worker (lines.Get its_key named, answers.Again asks by clock) = cond ((its_key == key) && (by == worker)) (Some clock) None
had_from key worker (lines.Await its_key session count, answers.Again asks by clock) = cond ((its_key == key) && (by == worker)) (Some clock) None
had_from key worker answered = None

-- the clocks of the key that the session's earlier answers had from the worker
abbrev pub earlier_from : ℕ → ℕ → List (Line × Answer) → List (List (ℕ × ℕ))
earlier_from key worker earlier = filter_map (had_from key worker) earlier

-- the key of a line that was answered with a cell, and the clock of the cell
pub data ShowsAt : Line → Answer → ℕ → List (ℕ × ℕ) → Type 0 where
  by_get : (key : ℕ) (named : Option ℕ) (worker : ℕ) (shown : Shown) → ShowsAt (lines.Get key named) (answers.Got worker shown) key shown.clock
  by_await : (key session count worker : ℕ) (shown : Shown) → ShowsAt (lines.Await key session count) (answers.Got worker shown) key shown.clock

-- A clock of the key from a worker: it covers those that the session had from the worker before, and at the session's home it counts
-- all puts that the session has made on the key.
pub record IsClockFrom (table : List (List ℕ)) (client : Client) (knows : Knowledge) (earlier : List (Line × Answer)) (key worker : ℕ) (clock : List (ℕ × ℕ)) : Type 0 where
  pub covers_earlier : All (λ before. IsTrue (covers clock before)) (earlier_from key worker earlier)
  pub own_at_home : worker ≡ home_at table client.session key → count_of client.session clock ≡ own_count knows key

-- A lawful reply, as far as it is decided inside the session: it counts no later put of the session, and covers what is required.
pub record IsLawfulReply (table : List (List ℕ)) (client : Client) (knows : Knowledge) (earlier : List (Line × Answer)) (line : Line) (key : ℕ) (named : Option ℕ) (worker : ℕ) (clock : List (ℕ × ℕ)) : Type 0 where
  pub worker_is : MayReply client.level table client.session key named worker
  pub clock_is : IsClockFrom table client knows earlier key worker clock
  pub no_later_put : count_of client.session clock ≤ own_count knows key
  pub covers_required : IsTrue (covers clock (required client knows line))

-- A lawful end of asking, as far as it is decided inside the session: each replica was asked 8 times, and the last still lacked something.
pub record IsLawfulAgain (table : List (List ℕ)) (client : Client) (knows : Knowledge) (earlier : List (Line × Answer)) (line : Line) (key asks worker : ℕ) (clock : List (ℕ × ℕ)) : Type 0 where
  pub causal : client.level ≡ Causal
  pub asks_are : asks ≡ 8 * length (replicas_of table key)
  pub worker_is : worker ≡ last_asked table client.session key
  pub clock_is : IsClockFrom table client knows earlier key worker clock
  pub lacks_required : IsFalse (covers clock (required client knows line))

-- a put is accepted outside a transaction, as the session's next on the key, at its next Lamport number
pub record IsLawfulPut (state : State) (key number lamport : ℕ) : Type 0 where
  pub not_begun : state.held ≡ None
  pub number_is : number ≡ own_count state.knows key + 1
  pub not_worn : state.knows.lamport ≢ last_lamport
  pub lamport_is : lamport ≡ state.knows.lamport + 1

-- the Lamport number of a commit: the session's next, and 0 where it has no puts
abbrev pub lamport_of_commit : Knowledge → ℕ → ℕ
lamport_of_commit knows zero = 0
lamport_of_commit knows (suc puts) = knows.lamport + 1

-- a commit accepts the held puts
pub record IsLawfulCommit (state : State) (puts lamport : ℕ) : Type 0 where
  pub begun : IsSome state.held
  pub puts_are : puts ≡ length (held_puts state)
  pub not_worn : state.knows.lamport ≢ last_lamport
  pub lamport_is : lamport ≡ lamport_of_commit state.knows puts

-- Whether the line may get the answer in this state and after these answers, as far as it is decided inside the session.
abbrev pub IsLawful : List (List ℕ) → Client → State → List (Line × Answer) → Line → Answer → Type 0
IsLawful table client state earlier (lines.Put key payload) (answers.Put number lamport) = IsLawfulPut state key number lamport
IsLawful table client state earlier (lines.Put key payload) answers.Held = IsSome state.held
IsLawful table client state earlier (lines.Put key payload) answers.Worn = (state.held ≡ None) × (state.knows.lamport ≡ last_lamport)
IsLawful table client state earlier lines.Begin answers.Begun = state.held ≡ None
IsLawful table client state earlier lines.Commit (answers.Committed puts lamport) = IsLawfulCommit state puts lamport
IsLawful table client state earlier lines.Commit answers.Worn = IsSome state.held × (state.knows.lamport ≡ last_lamport)
IsLawful table client state earlier lines.Abort (answers.Aborted puts) = IsSome state.held × (puts ≡ length (held_puts state))
IsLawful table client state earlier (lines.Get key named) (answers.Got worker shown) = IsLawfulReply table client state.knows earlier (lines.Get key named) key named worker shown.clock
IsLawful table client state earlier (lines.Await key session count) (answers.Got worker shown) = IsLawfulReply table client state.knows earlier (lines.Await key session count) key None worker shown.clock
IsLawful table client state earlier (lines.Get key named) (answers.Again asks worker clock) = IsLawfulAgain table client state.knows earlier (lines.Get key named) key asks worker clock
IsLawful table client state earlier (lines.Await key session count) (answers.Again asks worker clock) = IsLawfulAgain table client state.knows earlier (lines.Await key session count) key asks worker clock
IsLawful table client state earlier line answer = ⊥

-- each line of a session has a lawful answer, from a state and the answers before it on
abbrev pub AreLawful : List (List ℕ) → Client → State → List (Line × Answer) → List Line → List Answer → Type 0
AreLawful table client state earlier [] [] = ⊤
AreLawful table client state earlier (line ∷ lines) (answer ∷ answers) =
    IsLawful table client state earlier line answer × AreLawful table client (after client state line answer) (earlier ++ (line, answer) ∷ []) lines answers
AreLawful table client state earlier lines answers = ⊥

-- the needs of a reply are sound where they are shown
abbrev pub AreSoundWhereShown : List puts.Put → List (ℕ × ℕ) → Option (List (ℕ × List (ℕ × ℕ))) → Type 0
AreSoundWhereShown on_key clock None = ⊤
AreSoundWhereShown on_key clock (Some needs) = AreSoundNeeds on_key clock needs

-- a reply holds exactly the accepted puts that its clock counts
pub record IsSoundReply (kinds : List Kind) (accepted : List (ℕ × puts.Put)) (key : ℕ) (shown : Shown) : Type 0 where
  pub sound : IsSound (kind_at kinds key) (puts_on key accepted) shown.clock shown.top shown.value
  pub needs : AreSoundWhereShown (puts_on key accepted) shown.clock shown.needs

-- a clock counts no more puts of a session on the key than were accepted
abbrev pub CountsAccepted : List (ℕ × puts.Put) → ℕ → List (ℕ × ℕ) → Type 0
CountsAccepted accepted key clock = (session : ℕ) → count_of session clock ≤ length (puts_of_session session (puts_on key accepted))

-- What the answer of a line says of the accepted puts of the whole report is true.
abbrev pub IsTrueOf : List Kind → List (ℕ × puts.Put) → Line → Answer → Type 0
IsTrueOf kinds accepted (lines.Get key named) (answers.Got worker shown) = IsSoundReply kinds accepted key shown
IsTrueOf kinds accepted (lines.Await key session count) (answers.Got worker shown) = IsSoundReply kinds accepted key shown
IsTrueOf kinds accepted (lines.Get key named) (answers.Again asks worker clock) = CountsAccepted accepted key clock
IsTrueOf kinds accepted (lines.Await key session count) (answers.Again asks worker clock) = CountsAccepted accepted key clock
IsTrueOf kinds accepted line answer = ⊤
