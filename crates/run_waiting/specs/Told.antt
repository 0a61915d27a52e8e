-- What was taken between a session and a worker, once they were held beside each other.
use Rattle.std.specs.Prelude.{◌≡◌, ℕ, ◌+◌, ◌-◌, List, [], slice_get, slice_index_or, Some}
use Rattle.mail_contract.specs.Takes.{IsFront, from_sender}
use Rattle.session_proxy.specs.State as sessions
use Rattle.worker_core.specs.State as workers

-- Between a session and a worker, by their numbers: what each took of the other is the front of what that one sent.
pub record IsTold (session : ℕ) (its : sessions.Lists) (number : ℕ) (worker : workers.Lists) : Type 0 where
  pub requests : IsFront (from_sender session worker.received) (slice_index_or its.sent (number - 1) [])
  pub replies : IsFront (from_sender number its.received) (slice_index_or worker.replied (session - 1) [])

-- and so between the worker at a place, from 0, and all sessions,
abbrev pub AreToldOf : ℕ → List workers.Lists → List sessions.Lists → Type 0
AreToldOf place all those =
    (at : ℕ) (worker : workers.Lists) (its : sessions.Lists) → slice_get all place ≡ Some worker → slice_get those at ≡ Some its → IsTold (at + 1) its (place + 1) worker

-- and between all of both
abbrev pub AreAllTold : List workers.Lists → List sessions.Lists → Type 0
AreAllTold all those = (place : ℕ) → AreToldOf place all those
