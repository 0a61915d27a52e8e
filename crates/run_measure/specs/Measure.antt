-- How much a session of a run still has to do.
use Rattle.std.specs.Prelude.{◌≡◌, ℕ, ◌+◌, ◌-◌, ◌*◌, ◌≤◌, List, [], ◌∷◌, length, if◌then◌else◌, slice_get, slice_index_or, sum_by, Some}
use Rattle.mail_contract.specs.Takes.{from_sender}
use Rattle.session_proxy.specs.Share.{most_in_all}
use Rattle.session_proxy.specs.State as sessions
use Rattle.store_msg.specs.Reply.{PlainReply}
use Rattle.store_msg.specs.declared.request.Request.{Request}
use Rattle.worker_core.specs.Share.{replies_to}
use Rattle.worker_core.specs.State as workers

-- 1 where the session has begun, else 0
abbrev pub begun : sessions.Lists → ℕ
begun its = if sessions.has_begun its.course then 1 else 0

-- the lines of a session that are not answered
abbrev pub lines_left : sessions.Lists → ℕ
lines_left its = length its.course.lines - length its.course.answers

-- how many requests it may still send
abbrev pub may_send : sessions.Lists → ℕ
may_send its = most_in_all its.course - sum_by length its.sent

-- what it sent to a worker, and what the worker took of it, each by number, from 1
abbrev pub asked_to : ℕ → sessions.Lists → List Request
asked_to worker its = slice_index_or its.sent (worker - 1) []

abbrev pub asked : ℕ → sessions.Lists → ℕ
asked worker its = length (asked_to worker its)

abbrev pub taken_of : ℕ → workers.Lists → List Request
taken_of session worker = from_sender session worker.received

abbrev pub taken : ℕ → workers.Lists → ℕ
taken session worker = length (taken_of session worker)

-- what the worker replied to it, that which is held included, and what it took of these
abbrev pub replied : ℕ → workers.Lists → ℕ
replied session worker = length (replies_to worker session)

abbrev pub heard_from : ℕ → sessions.Lists → List PlainReply
heard_from worker its = from_sender worker its.received

abbrev pub heard : ℕ → sessions.Lists → ℕ
heard worker its = length (heard_from worker its)

-- what is on its way between a session and a worker, by their numbers: twice the requests that the worker has not taken, and the replies that the
-- session has not
abbrev pub between : ℕ → sessions.Lists → ℕ → workers.Lists → ℕ
between session its number worker = 2 * (asked number its - taken session worker) + (replied session worker - heard number its)

-- and so between it and all workers, from a number on
abbrev pub between_all : ℕ → sessions.Lists → ℕ → List workers.Lists → ℕ
between_all session its number [] = 0
between_all session its number (worker ∷ others) = between session its number worker + between_all session its (number + 1) others

-- The measure of a session: 1 where it has not begun, its lines that are not answered, three times the requests that
-- it may still send, twice those that no worker took, and the replies that it did not take.
abbrev pub measure : List workers.Lists → ℕ → sessions.Lists → ℕ
measure all session its = (1 - begun its) + lines_left its + 3 * may_send its + between_all session its 1 all

-- of all sessions from a number on
abbrev pub measure_of_all : List workers.Lists → ℕ → List sessions.Lists → ℕ
measure_of_all all session [] = 0
measure_of_all all session (its ∷ others) = measure all session its + measure_of_all all (session + 1) others

-- No more was taken than was sent, between a session and a worker.
pub record AreCounted (session : ℕ) (its : sessions.Lists) (number : ℕ) (worker : workers.Lists) : Type 0 where
  pub requests : taken session worker ≤ asked number its
  pub replies : heard number its ≤ replied session worker

-- and so between all sessions and all workers
abbrev pub AreAllCounted : List workers.Lists → List sessions.Lists → Type 0
AreAllCounted all those =
    (place at : ℕ) (worker : workers.Lists) (its : sessions.Lists) → slice_get all place ≡ Some worker → slice_get those at ≡ Some its → AreCounted (at + 1) its (place + 1) worker
