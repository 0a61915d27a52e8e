-- What is known of the parties of a run in a sweep.
use Rattle.std.specs.Prelude.{◌≡◌, ◌⊎◌, ℕ, ◌+◌, ◌-◌, ◌≤◌, Bool, false, IsTrue, List, [], All, length, slice_get, slice_index_or, Option, Some, None}
use Rattle.mail_contract.specs.Parts.{Parts}
use Rattle.mail_contract.specs.Takes.{from_sender}
use Rattle.placement.specs.Config.{IsOneOf}
use Rattle.session_proxy.specs.State as sessions
use Rattle.worker_core.specs.State as workers
use Rattle.run_measure.specs.Steps.{done}
use Rattle.run_waiting.specs.Waiting.{AreSigned, AreToAsks, AwaitsMissing}
use Rattle.parties.specs.declared.stepping.Polled.{Polled}

-- A box shows its senders and tells all that they had sent, and a sender whose messages were all taken finds a place;
pub record ShowsAll (keeps : Parts) : Type 0 where
  pub shows : IsTrue keeps.shows
  pub complete : IsTrue keeps.complete
  pub freed : IsTrue keeps.freed

-- and so do the boxes of requests and of replies.
abbrev pub FreeBoth : Parts → Parts → Type 0
FreeBoth requests replies = ShowsAll requests × ShowsAll replies

-- A worker took all that a session had sent to it and holds no reply, by the numbers of both.
pub record HasServedAll (session : ℕ) (its : sessions.Lists) (number : ℕ) (worker : workers.Lists) : Type 0 where
  pub requests : from_sender session worker.received ≡ slice_index_or its.sent (number - 1) []
  pub none_held : worker.state.held ≡ None

-- so the worker at a place, from 0, of all sessions,
abbrev pub HasServedEach : ℕ → List workers.Lists → List sessions.Lists → Type 0
HasServedEach place all those =
    (at : ℕ) (worker : workers.Lists) (its : sessions.Lists) → slice_get all place ≡ Some worker → slice_get those at ≡ Some its → HasServedAll (at + 1) its (place + 1) worker

-- and so all workers
abbrev pub AllServed : List workers.Lists → List sessions.Lists → Type 0
AllServed all those = (place : ℕ) → HasServedEach place all those

-- Each worker has served a session, by its place from 0, and what it waits for it did not take.
abbrev pub AreServed : ℕ → List workers.Lists → List sessions.Lists → Type 0
AreServed at all those =
    (its : sessions.Lists) → slice_get those at ≡ Some its
    → AwaitsMissing its × ((place : ℕ) (worker : workers.Lists) → slice_get all place ≡ Some worker → HasServedAll (at + 1) its (place + 1) worker)

-- what holds where boxes show all, and each worker that has served the session at a place is beside it
abbrev pub IfServedBeside : Parts → Parts → (ℕ → Type 0) → ℕ → List workers.Lists → List sessions.Lists → Type 0 → Type 0
IfServedBeside requests replies is_beside at all those holds = FreeBoth requests replies → ((place : ℕ) → is_beside place) → AreServed at all those → holds

-- it has begun, and every line of it is answered
abbrev pub IsAtEnd : sessions.Lists → Type 0
IsAtEnd its = IsTrue (sessions.has_begun its.course) × (length its.course.answers ≡ length its.course.lines)

-- so the session at a place,
abbrev pub HasEnded : List sessions.Lists → ℕ → Type 0
HasEnded those at = (its : sessions.Lists) → slice_get those at ≡ Some its → IsAtEnd its

-- and of all
abbrev pub AreAnswered : List sessions.Lists → Type 0
AreAnswered those = (at : ℕ) → HasEnded those at

-- the session at a place has begun
abbrev pub HasBegun : List sessions.Lists → ℕ → Type 0
HasBegun those at = (its : sessions.Lists) → slice_get those at ≡ Some its → IsTrue (sessions.has_begun its.course)

-- The session at a place has begun, or it waits for the end of another that has not ended.
abbrev pub WaitsForOther : List sessions.Lists → ℕ → Type 0
WaitsForOther those at =
    (its : sessions.Lists) (session : ℕ) → slice_get those at ≡ Some its → its.course.origin ≡ sessions.WaitsFor session
    → (other : sessions.Lists) → slice_get those (session - 1) ≡ Some other → IsAtEnd other → ⊥

-- and it waits for an earlier one
abbrev pub WaitsForEarlier : List sessions.Lists → ℕ → Type 0
WaitsForEarlier those at =
    (its : sessions.Lists) (session : ℕ) → slice_get those at ≡ Some its → its.course.origin ≡ sessions.WaitsFor session → IsOneOf at session

-- What each session waits for it did not take,
abbrev pub AllAwait : List sessions.Lists → Type 0
AllAwait those = All AwaitsMissing those

-- and each reply that it took was to an ask of it, of the worker that it was taken of.
abbrev pub AllToAsks : List sessions.Lists → Type 0
AllToAsks those = All (λ its. AreToAsks its × AreSigned its) those

-- an ask of a session came to nothing in the epoch
abbrev pub rested_of : Option Polled → Bool
rested_of None = false
rested_of (Some its) = its.rested

-- and so of the one at a place
abbrev pub rested_at : List Polled → ℕ → Bool
rested_at came at = rested_of (slice_get came at)

-- A session has moved on, or has ended.
abbrev pub MovesOrEnds : sessions.Lists → sessions.Lists → Type 0
MovesOrEnds before now = (done before + 1 ≤ done now) ⊎ IsAtEnd now

-- each session at a place of which something holds has
abbrev pub EachMoves : (ℕ → Type 0) → List sessions.Lists → List sessions.Lists → Type 0
EachMoves Of before now =
    (at : ℕ) (was is : sessions.Lists) → Of at → slice_get before at ≡ Some was → slice_get now at ≡ Some is → MovesOrEnds was is

-- and each at a place of which something holds has not changed
abbrev pub EachStays : (ℕ → Type 0) → List sessions.Lists → List sessions.Lists → Type 0
EachStays Of before now = (at : ℕ) → Of at → slice_get now at ≡ slice_get before at
