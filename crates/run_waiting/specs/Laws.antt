-- The laws of waiting.
use Rattle.std.specs.Prelude.{◌≡◌, ℕ, ◌+◌, ◌-◌, ◌≤◌, IsTrue, List, [], length, slice_get, slice_index_or, Some, None, Ok, ⊤}
use Rattle.mail_contract.specs.Takes.{IsFront, from_sender}
use Rattle.placement.specs.Config.{IsOneOf}
use Rattle.session_proxy.specs.Polls as polls
use Rattle.session_proxy.specs.Share as proxies
use Rattle.session_proxy.specs.State as sessions
use Rattle.session_proxy.specs.declared.progress.Progress.{Progress}
use Rattle.store_msg.specs.Reply.{PlainReply}
use Rattle.worker_core.specs.Share as serving
use Rattle.worker_core.specs.State as workers
use Rattle.run_measure.specs.Laws.{IsOfWorkers, IsPlaced}
use Rattle.run_measure.specs.Measure.{heard}
use Rattle.run_waiting.specs.Told.{IsTold}
use Rattle.run_waiting.specs.Waiting.{AreSigned, AreToAsks, AwaitsMissing, HasDropped}

-- What a poll leaves: what the session waits for is missing still, and what it took is to its asks if it dropped nothing.
pub record StaysAwaited (answer : Progress) (before now : sessions.Lists) : Type 0 where
  pub awaits : AwaitsMissing now
  pub to_asks : (HasDropped answer before now → ⊥) → AreToAsks now

-- A session that keeps its share is polled, of whose ends nothing is said, while what it took is to its asks.
abbrev pub PollsTakeWhatIsAwaited : Type 0
PollsTakeWhatIsAwaited =
    (answer : Progress) (before now : sessions.Lists) (counts counts_now : polls.Counts) → polls.Polls (Ok answer) before now counts counts_now (λ place. ⊤) ⊤
    → proxies.Share before → IsPlaced before → AwaitsMissing before → AreToAsks before → StaysAwaited answer before now

-- A worker of a run, by its number, that has a sender of replies for a session.
pub record IsWorkerOf (session number : ℕ) (worker : workers.Lists) : Type 0 where
  pub share : serving.Share worker
  pub me : worker.state.me ≡ number
  pub session_is : IsOneOf (length worker.replied) session
  pub none_kept : worker.state.kept ≡ None

-- A session is held beside all workers.
abbrev pub ToldRepliesAreToAsks : Type 0
ToldRepliesAreToAsks =
    (all : List workers.Lists) (session : ℕ) (its : sessions.Lists) → IsOfWorkers (length all) its
    → ((place : ℕ) (worker : workers.Lists) → slice_get all place ≡ Some worker → IsWorkerOf session (place + 1) worker × IsTold session its (place + 1) worker)
    → AreToAsks its × AreSigned its

-- A worker holds a reply for a session of which it took no more than was sent.
abbrev pub HeldRepliesFindPlaces : Type 0
HeldRepliesFindPlaces =
    (session number : ℕ) (its : sessions.Lists) (worker : workers.Lists) (reply : PlainReply) → proxies.Share its → AreSigned its → IsOneOf (length its.sent) number
    → serving.Share worker → IsFront (from_sender session worker.received) (slice_index_or its.sent (number - 1) []) → worker.state.held ≡ Some (session, reply)
    → length (slice_index_or worker.replied (session - 1) []) ≤ heard number its

-- A worker took all requests of a session and holds no reply, and the session took all its replies.
pub record HaveTakenAll (session : ℕ) (its : sessions.Lists) (number : ℕ) (worker : workers.Lists) : Type 0 where
  pub requests : from_sender session worker.received ≡ slice_index_or its.sent (number - 1) []
  pub none_held : worker.state.held ≡ None
  pub replies : from_sender number its.received ≡ slice_index_or worker.replied (session - 1) []

-- All workers and a session took all of each other.
abbrev pub NoSessionWaitsInVain : Type 0
NoSessionWaitsInVain =
    (all : List workers.Lists) (session : ℕ) (its : sessions.Lists) → IsOfWorkers (length all) its → IsPlaced its → AwaitsMissing its
    → ((place : ℕ) (worker : workers.Lists) → slice_get all place ≡ Some worker → IsWorkerOf session (place + 1) worker × HaveTakenAll session its (place + 1) worker)
    → IsTrue its.course.waits → ⊥
