-- A session as it is judged, line by line.
use Rattle.std.specs.Prelude.{◌≡◌, ℕ, ◌+◌, ◌<◌, ◌≤◌, ◌^◌, List, [], ◌∷◌, length, All, Option, None, Result, IfOk, IfNone, MatchOption, ⊤}
use Rattle.std.specs.List.{AllZip}
use Rattle.lattice_laws.specs.declared.lattice.NoMemory.{NoMemory}
use Rattle.composed_value.specs.declared.kind.Kind.{Kind}
use Rattle.composed_value.specs.declared.payload.Payload.{Payload}
use Rattle.composed_value.specs.declared.put.Put.{Put}
use Rattle.session_known.specs.Accepted.{ends_from}
use Rattle.session_known.specs.Form.{Fits}
use Rattle.session_known.specs.Lawful.{IsLawful, AreLawful}
use Rattle.session_known.specs.Legal.{AreLawfulFrom}
use Rattle.placement.specs.Config.{IsOneOf}
use Rattle.session_known.specs.Session.{State, InState, Knows, knows_put, known_of, own_count, held_puts, next_put, puts_committed, knows_committed, Knowledge, after, puts_by, puts_from, state_after}
use Rattle.session_known.specs.declared.report.Answer.{Answer}
use Rattle.session_known.specs.declared.report.Answer.TheVariants as answers
use Rattle.session_known.specs.declared.script.Line.{Line}
use Rattle.session_known.specs.declared.script.Line.TheVariants as lines
use Rattle.session_known.specs.declared.script.Level.TheVariants.{Causal}
use Rattle.session_known.specs.declared.script.Script.{Script}
use Rattle.session_known.specs.declared.script.SessionPlan.{SessionPlan}
use Rattle.anna_check.specs.ByKey.{MayBePut}
use Rattle.anna_check.specs.Unlawful.{IsFirstUnlawful, IsFirstUnlawfulFrom}

-- the key of the line, if it has one, is one of so many
abbrev pub NamesKey : ℕ → Line → Type 0
NamesKey keys (lines.Put key payload) = IsOneOf keys key
NamesKey keys (lines.Get key named) = IsOneOf keys key
NamesKey keys (lines.Await key session count) = IsOneOf keys key
NamesKey keys line = ⊤

-- the worker of the answer, if it has one, is one of so many
abbrev pub NamesWorker : ℕ → Answer → Type 0
NamesWorker workers (answers.Got worker shown) = IsOneOf workers worker
NamesWorker workers (answers.Again asks worker clock) = IsOneOf workers worker
NamesWorker workers answer = ⊤

-- the payload of the line, if it has one, may be put to its key
abbrev pub MayTake : List Kind → Line → Type 0
MayTake kinds (lines.Put key payload) = MayBePut kinds key payload
MayTake kinds line = ⊤

-- lines of a session and their answers that can be judged, where there are keys of these kinds and so many workers
pub record CanBeJudged (kinds : List Kind) (workers : ℕ) (of_session : List Line) (answered : List Answer) : Type 0 where
  pub few : length of_session ≤ 4096
  pub each : length answered ≡ length of_session
  pub keys : All (NamesKey (length kinds)) of_session
  pub payloads : All (MayTake kinds) of_session
  pub workers_named : All (NamesWorker workers) answered

-- the answers are ones that the lines of their sessions may have
abbrev pub AnswersFit : Script → List (List Answer) → Type 0
AnswersFit script answered = AllZip (λ plan answers. AllZip (Fits script plan.level) plan.lines answers) script.sessions answered

-- puts that are held may be put to their keys
abbrev pub MayAllBePut : List Kind → List (ℕ × Payload) → Type 0
MayAllBePut kinds held = All (λ held. MayBePut kinds held.0 held.1) held

-- the answer is lawful for the line after some answers, at some placement
abbrev pub IsLawfulSomewhere : InState → Line → Answer → Type 0
IsLawfulSomewhere session line answer = (table : List (List ℕ)) × (earlier : List (Line × Answer)) × IsLawful table session.client session.state earlier line answer

-- no key has so many puts of the session, made or held, that one more does not fit
abbrev pub HasRoom : InState → Type 0
HasRoom session = (key : ℕ) → own_count session.state.knows key + length (held_puts session.state) + 1 < 2 ^ 32

-- ---- the puts that a session makes, each with its key

-- its next on a key
abbrev pub one_made : InState → ℕ → Payload → ℕ → ℕ → List (ℕ × Put)
one_made session key payload lamport place = (key, next_put (known_of session) key payload lamport place) ∷ []

-- what it knows once that is made at a Lamport number that is not below those that it knows
abbrev pub knows_one : InState → ℕ → ℕ → Knowledge
knows_one session key lamport = knows_put session.client session.state.knows key (own_count session.state.knows key + 1) lamport

-- those of a commit of what was held, and what it knows then
abbrev pub all_made : InState → ℕ → List (ℕ × Payload) → List (ℕ × Put)
all_made session lamport held = puts_committed session.client session.state.knows lamport 0 held

abbrev pub knows_all : InState → ℕ → List (ℕ × Payload) → Knowledge
knows_all session lamport held = knows_committed session.client session.state.knows lamport held

-- those of a line's answer
abbrev pub made_by : InState → Line → Answer → List (ℕ × Put)
made_by session line answer = puts_by session.client session.state line answer

-- its state then
abbrev pub state_then : InState → Line → Answer → State
state_then session line answer = after session.client session.state line answer

-- those of all its lines
abbrev pub made_by_all : InState → List Line → List Answer → List (ℕ × Put)
made_by_all session of_session answered = puts_from session.client session.state of_session answered

-- ---- what is found

-- a session at its start has made no puts and holds none
pub record IsAtStart (session : InState) : Type 0 where
  pub none_made : (key : ℕ) → own_count session.state.knows key ≡ 0
  pub none_held : session.state.held ≡ None

-- a session comes after one of these, and is causal, if it comes after one
abbrev pub MayBegin : List Knows → SessionPlan → Type 0
MayBegin ends plan = MatchOption plan.after ⊤ (λ after. IsOneOf (length ends) after × (plan.level ≡ Causal))

-- the first command of a session whose answer is not lawful there, and nothing where all are
abbrev pub FindsUnlawful : List (List ℕ) → InState → List Line → List Answer → Result (Option ℕ) NoMemory → Type 0
FindsUnlawful table session of_session answered result =
    IfOk result (λ found. MatchOption found (AreLawful table session.client session.state [] of_session answered) (IsFirstUnlawful table session.client session.state [] of_session answered))

-- the session is in the state after its lines where all are
abbrev pub IsAfterAll : InState → List Line → List Answer → InState → Result (Option ℕ) NoMemory → Type 0
IsAfterAll session of_session answered now result = IfOk result (λ found. IfNone found (now.state ≡ state_after session.client session.state of_session answered))

-- and of all sessions
abbrev pub FindsUnlawfulFrom : List (List ℕ) → List SessionPlan → List (List Answer) → Result (Option (ℕ × ℕ)) NoMemory → Type 0
FindsUnlawfulFrom table sessions answered result =
    let ends : List Knowledge = ends_from [] 1 sessions answered in
    IfOk result (λ found. MatchOption found (AreLawfulFrom table ends 1 sessions answered) (λ place. IsFirstUnlawfulFrom table ends 1 sessions answered place.0 place.1))
