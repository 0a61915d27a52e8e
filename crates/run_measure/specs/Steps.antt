-- What a step changes of how much a session still has to do.
use Rattle.std.specs.Prelude.{◌≡◌, ℕ, ◌+◌, ◌≤◌, List, length, slice_get, sum_by, Some, None}
use Rattle.mail_contract.specs.Takes.{IsFront}
use Rattle.placement.specs.Config.{IsOneOf}
use Rattle.session_known.specs.Session.{Knowledge}
use Rattle.session_proxy.specs.State as sessions
use Rattle.worker_core.specs.Share.{replies_to}
use Rattle.worker_core.specs.Showing.{ShowsMore}
use Rattle.worker_core.specs.State as workers
use Rattle.run_measure.specs.Measure.{asked_to, begun, heard_from, replied, taken, taken_of}

-- A worker has gone on: what it took of each session and what it replied to it goes on from what that was before, and no more was replied to one than
-- was taken of it.
pub record RepliesAsTaken (sessions : ℕ) (before now : workers.Lists) : Type 0 where
  pub taken_more : (session : ℕ) → IsOneOf sessions session → IsFront (taken_of session before) (taken_of session now)
  pub replied_more : (session : ℕ) → IsOneOf sessions session → IsFront (replies_to before session) (replies_to now session)
  pub as_taken : (session : ℕ) → IsOneOf sessions session → replied session now + taken session before ≤ replied session before + taken session now

-- A worker has served: it replied to each session no more than it took of it, took nothing back, shows no less, and keeps no message.
pub record HasServed (before now : workers.Lists) : Type 0 where
  pub replies : RepliesAsTaken (length before.replied) before now
  pub shows : ShowsMore before now
  pub kept : now.state.kept ≡ None

-- how much a session has done: it has begun, lines answered, requests sent, and replies taken
abbrev pub done : sessions.Lists → ℕ
done its = begun its + length its.course.answers + sum_by length its.sent + length its.received

-- A session has gone on: once it has begun, what it knew at its start stays; and what it answered, what it sent to each
-- worker and what it took of each goes on from what that was before.
pub record HasDone (before now : sessions.Lists) : Type 0 where
  pub client : now.course.client ≡ before.course.client
  pub table : now.course.table ≡ before.course.table
  pub lines : now.course.lines ≡ before.course.lines
  pub origin : (known : Knowledge) → before.course.origin ≡ sessions.Knew known → now.course.origin ≡ sessions.Knew known
  pub workers : length now.sent ≡ length before.sent
  pub answered : IsFront before.course.answers now.course.answers
  pub asked_more : (worker : ℕ) → IsOneOf (length before.sent) worker → IsFront (asked_to worker before) (asked_to worker now)
  pub heard_more : (worker : ℕ) → IsFront (heard_from worker before) (heard_from worker now)

-- All workers and sessions of a run have gone on, in whatever order of steps.
pub record HaveAllGoneOn (all all_now : List workers.Lists) (those those_now : List sessions.Lists) : Type 0 where
  pub workers_long : length all_now ≡ length all
  pub sessions_long : length those_now ≡ length those
  pub served : (place : ℕ) (before now : workers.Lists) → slice_get all place ≡ Some before → slice_get all_now place ≡ Some now → RepliesAsTaken (length those) before now
  pub done_more : (at : ℕ) (before now : sessions.Lists) → slice_get those at ≡ Some before → slice_get those_now at ≡ Some now → HasDone before now

-- Each worker of a run has told its mates more or as much, and shows no less.
abbrev pub HaveAllShown : List workers.Lists → List workers.Lists → Type 0
HaveAllShown all all_now =
    (place : ℕ) (before now : workers.Lists) → slice_get all place ≡ Some before → slice_get all_now place ≡ Some now → ShowsMore before now
