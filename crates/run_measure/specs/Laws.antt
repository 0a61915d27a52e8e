-- The laws of the measure: what a turn of a worker and a poll of a session are to it.
use Rattle.std.specs.Prelude.{◌≡◌, ℕ, ◌+◌, ◌≤◌, List, [], ◌∷◌, ◌++◌, All, length, slice_get, slice_set, sum_by, Some, None, Ok, ⊤}
use Rattle.lattice_laws.specs.declared.lattice.NoMemory.{NoMemory}
use Rattle.mail_contract.specs.Takes.{IsFront}
use Rattle.placement.specs.Config.{IsOneOf}
use Rattle.session_proxy.specs.Lines.{AreReplicas, MayRun}
use Rattle.session_proxy.specs.Polls as polls
use Rattle.session_proxy.specs.Share as proxies
use Rattle.session_proxy.specs.State as sessions
use Rattle.session_proxy.specs.declared.progress.Progress.{Progress}
use Rattle.session_proxy.specs.declared.progress.Progress.TheVariants as progress
use Rattle.store_msg.specs.declared.request.Request.{Request}
use Rattle.worker_core.specs.Share.{IsHeldFor}
use Rattle.worker_core.specs.State as workers
use Rattle.worker_core.specs.Turns as turns
use Rattle.worker_core.specs.declared.did.Did.{Did}
use Rattle.worker_core.specs.declared.did.Did.TheVariants as did
use Rattle.run_measure.specs.Measure.{AreAllCounted, asked, heard, measure, measure_of_all, replied, taken}
use Rattle.run_measure.specs.Pace.{IsPaced, rests_by}
use Rattle.run_measure.specs.Steps.{HasDone, HaveAllGoneOn, RepliesAsTaken, done}

-- A worker took one request.
pub record TakesOne (before now : workers.Lists) : Type 0 where
  pub session : ℕ
  pub request : Request
  pub received : now.received ≡ before.received ++ (session, request) ∷ []
  pub taken_one : taken session now ≡ taken session before + 1

-- What a turn comes to: replies follow requests, no message is kept, and where it did a request while no reply was held, it took one.
pub record HasTurned (its : Did) (before now : workers.Lists) : Type 0 where
  pub replies : RepliesAsTaken (length before.replied) before now
  pub kept : now.state.kept ≡ None
  pub takes : its ≡ did.Request → before.state.held ≡ None → TakesOne before now

-- A worker takes a turn, of whose room nothing is said, while it keeps no message, and holds a reply for one of its sessions if it holds any.
abbrev pub RepliesFollowRequests : Type 0
RepliesFollowRequests =
    (its : Did) (before now : workers.Lists) (count count_now : turns.Counts) → turns.Turns {E = NoMemory} (Ok its) before now count count_now (λ place tries. ⊤)
    → before.state.kept ≡ None → IsHeldFor (length before.replied) before.state.held → HasTurned its before now

-- Where a worker stays as it is, it has gone on, and one that goes on twice does.
abbrev pub WorkersStay : Type 0
WorkersStay = (many : ℕ) (lists : workers.Lists) → RepliesAsTaken many lists lists

abbrev pub WorkersGoOn : Type 0
WorkersGoOn =
    (many : ℕ) (first second third : workers.Lists) → RepliesAsTaken many first second → RepliesAsTaken many second third → RepliesAsTaken many first third

-- One worker goes on: the measure of a session is not raised, and falls by what was taken of it.
abbrev pub TurnsLowerTheMeasure : Type 0
TurnsLowerTheMeasure =
    (all : List workers.Lists) (place : ℕ) (before now : workers.Lists) (many session : ℕ) (its : sessions.Lists) → slice_get all place ≡ Some before
    → RepliesAsTaken many before now → IsOneOf many session → heard (place + 1) its ≤ replied session before → taken session now ≤ asked (place + 1) its
    → measure (slice_set all place now) session its + taken session now ≤ measure all session its + taken session before

-- The lines of a session are such as its level has, and the replicas of its table are workers to which it sends.
pub record IsPlaced (lists : sessions.Lists) : Type 0 where
  pub replicas : All (AreReplicas (length lists.sent)) lists.course.table
  pub lines : All (MayRun lists.course.table lists.course.client.level) lists.course.lines

-- what a poll comes to beside, by its answer
abbrev pub HasMoved : Progress → sessions.Lists → sessions.Lists → Type 0
HasMoved progress.Moved before now = IsPlaced before → done before + 1 ≤ done now
HasMoved progress.Rest before now = done before + 1 ≤ done now
HasMoved progress.NotYet before now = now ≡ before
HasMoved progress.Ended before now = now ≡ before

-- What a poll comes to: the session has gone on, and has done something where it answers so.
pub record HasPolled (answer : Progress) (before now : sessions.Lists) : Type 0 where
  pub goes_on : HasDone before now
  pub moved : HasMoved answer before now

-- A session that keeps its share is polled, of whose ends nothing is said.
abbrev pub SessionsGoOn : Type 0
SessionsGoOn =
    (answer : Progress) (before now : sessions.Lists) (counts counts_now : polls.Counts) → polls.Polls (Ok answer) before now counts counts_now (λ place. ⊤) ⊤
    → proxies.Share before → sessions.IsFixed before.course now.course → length now.sent ≡ length before.sent → HasPolled answer before now

-- In a poll that says that an ask came to nothing one did, and in every other none; and so where a session went on twice, and none did at first.
abbrev pub PollsArePaced : Type 0
PollsArePaced =
    (answer : Progress) (before now : sessions.Lists) (counts counts_now : polls.Counts) → polls.Polls (Ok answer) before now counts counts_now (λ place. ⊤) ⊤
    → proxies.Share before → IsPaced (rests_by answer) before.course now.course

abbrev pub PaceIsKept : Type 0
PaceIsKept =
    (rests : ℕ) (before between now : sessions.Course) → IsFront before.answers between.answers → IsFront between.answers now.answers
    → IsPaced 0 before between → IsPaced rests between now → IsPaced rests before now

-- Where a session stays as it is, it has gone on, and one that goes on twice does; and it has done no less.
abbrev pub SessionsStay : Type 0
SessionsStay = (lists : sessions.Lists) → HasDone lists lists

abbrev pub SessionsGoOnTwice : Type 0
SessionsGoOnTwice = (first second third : sessions.Lists) → HasDone first second → HasDone second third → HasDone first third

abbrev pub DoneRises : Type 0
DoneRises = (before now : sessions.Lists) → HasDone before now → done before ≤ done now

-- between a session that goes on and all workers, no more is taken than was sent before, and than is replied
abbrev pub NoMoreIsTaken : List workers.Lists → ℕ → sessions.Lists → sessions.Lists → Type 0
NoMoreIsTaken all session before now =
    (place : ℕ) (worker : workers.Lists) → slice_get all place ≡ Some worker
    → (taken session worker ≤ asked (place + 1) before) × (heard (place + 1) now ≤ replied session worker)

-- replies of its workers alone were taken
abbrev pub HearsWorkers : ℕ → sessions.Lists → Type 0
HearsWorkers many lists = All (λ message. IsOneOf many message.0) lists.received

-- A session goes on: its measure falls by what it has done.
abbrev pub PollsLowerTheMeasure : Type 0
PollsLowerTheMeasure =
    (all : List workers.Lists) (session : ℕ) (before now : sessions.Lists) → HasDone before now → proxies.Share before → proxies.Share now
    → HearsWorkers (length before.sent) before → HearsWorkers (length before.sent) now → length all ≡ length before.sent → NoMoreIsTaken all session before now
    → measure all session now + done now ≤ measure all session before + done before

-- A session keeps its share, took replies of its workers alone, and has a sender for each.
pub record IsOfWorkers (many : ℕ) (lists : sessions.Lists) : Type 0 where
  pub share : proxies.Share lists
  pub hears : HearsWorkers many lists
  pub senders : length lists.sent ≡ many

-- and so do all sessions
abbrev pub AreOfWorkers : ℕ → List sessions.Lists → Type 0
AreOfWorkers many those = (at : ℕ) (its : sessions.Lists) → slice_get those at ≡ Some its → IsOfWorkers many its

-- All workers and sessions of a run go on: the measure of all falls by what the sessions have done.
abbrev pub TogetherLowerTheMeasure : Type 0
TogetherLowerTheMeasure =
    (all all_now : List workers.Lists) (those those_now : List sessions.Lists) → HaveAllGoneOn all all_now those those_now
    → AreOfWorkers (length all) those → AreOfWorkers (length all) those_now → AreAllCounted all those → AreAllCounted all_now those_now
    → measure_of_all all_now 1 those_now + sum_by done those_now ≤ measure_of_all all 1 those + sum_by done those
