-- What a session's proxy does in a call, and why it answers what it answers.
use Rattle.std.specs.Prelude.{◌≡◌, ◌⊎◌, ℕ, ◌+◌, ◌-◌, ◌<◌, ◌≤◌, Bool, true, false, IsTrue, List, [], ◌∷◌, ◌++◌, length, map, slice_get, slice_index_or, slice_set, Some, None, Result, Ok, Err}
use Rattle.lattice_laws.specs.Counts.{Rose}
use Rattle.lattice_laws.specs.declared.lattice.NoMemory.{NoMemory}
use Rattle.mail_contract.specs.Takes.{Answers}
use Rattle.session_known.specs.Requests.{Sent, SentAsk, SentPut}
use Rattle.session_known.specs.declared.report.Answer.{Answer}
use Rattle.session_known.specs.declared.script.Line.{Line}
use Rattle.store_msg.specs.Reply.{PlainReply, is_found}
use Rattle.store_msg.specs.declared.ends.SessionEndsOver.{SessionEndsOver}
use Rattle.session_proxy.specs.Lines.{answer_at}
use Rattle.session_proxy.specs.Run.{answer_by}
use Rattle.session_proxy.specs.Share.{IsAsked, IsAwaited, open_most, request_of}
use Rattle.session_proxy.specs.State.{Course, Lists, PlainProxy, open_line, state_now}
use Rattle.session_proxy.specs.declared.progress.Progress.{Progress}
use Rattle.session_proxy.specs.declared.progress.Progress.TheVariants as progress

-- how often a session's ends refused: each sender's count of Fulls, and the answers of the box
pub record Counts : Type 0 where
  pub fulls : List ℕ
  pub answers : Answers

abbrev pub counts_at : {T R : Type 0} → (T → ℕ) → (R → Answers) → SessionEndsOver T R → Counts
counts_at fulls answers ends = record { fulls = map fulls ends.requests.items; answers = answers ends.replies }

abbrev pub counts_of : {T R : Type 0} → (T → ℕ) → (R → Answers) → PlainProxy T R → Counts
counts_of fulls answers proxy = counts_at fulls answers proxy.ends

-- a reply is worked on: it was kept, or is taken now
abbrev pub IsTaken : PlainReply → Lists → Lists → Type 0
IsTaken reply before now =
    ((before.course.kept ≡ Some reply) × (now.received ≡ before.received))
    ⊎ ((before.course.kept ≡ None) × (sender : ℕ) × (now.received ≡ before.received ++ (sender, reply) ∷ []))

-- Of the line that is open nothing was sent, and no reply is awaited or kept.
pub record IsUnbegun (course : Course) : Type 0 where
  pub out : course.out ≡ 0
  pub waits : course.waits ≡ false
  pub kept : course.kept ≡ None

-- The open line is no get and no await, and this is its answer, by what the session knows.
pub record IsOwnAnswer (course : Course) (answer : Answer) : Type 0 where
  pub line : Line
  pub line_is : open_line course ≡ Some line
  pub no_ask : IsAsked line → ⊥
  pub answer_is : answer ≡ answer_at (state_now course) line

-- One line is answered, and without a reply.
abbrev pub AnswersOne : Lists → Lists → Type 0
AnswersOne before now = (answer : Answer) × (now.course.answers ≡ before.course.answers ++ answer ∷ []) × IsOwnAnswer before.course answer

-- a request is an ask
abbrev pub is_ask : Sent → Bool
is_ask (SentAsk ask key required) = true
is_ask (SentPut key put) = false

-- The open line's next request goes out, while no reply is awaited; with the last of its puts the line is answered.
pub record Sends (before now : Lists) : Type 0 where
  pub waits : before.course.waits ≡ false
  pub worker : ℕ
  pub item : Sent
  pub next : slice_get (open_most before.course) before.course.out ≡ Some (worker, item)
  pub sent : now.sent ≡ slice_set before.sent (worker - 1) (slice_index_or before.sent (worker - 1) [] ++ request_of item ∷ [])
  pub received : now.received ≡ before.received
  pub course : (now.course ≡ record before.course { out = before.course.out + 1; waits = is_ask item })
      ⊎ (AnswersOne before now × (before.course.out + 1 ≡ length (open_most before.course)) × IsUnbegun now.course)

-- A line is answered without mail.
pub record AnswersAlone (before now : Lists) : Type 0 where
  pub answers : AnswersOne before now
  pub course : now.course ≡ record before.course { answers = now.course.answers }
  pub sent : now.sent ≡ before.sent
  pub received : now.received ≡ before.received
  pub unbegun : IsUnbegun now.course

-- A line is answered by the reply to its last ask: a cell is found, or as many asks were made as may be.
pub record AnswersBy (before now : Lists) : Type 0 where
  pub reply : PlainReply
  pub taken : IsTaken reply before now
  pub of_ask : IsAwaited before.course reply
  pub ends : IsTrue (is_found reply.answered) ⊎ (before.course.out ≡ length (open_most before.course))
  pub answers : now.course.answers ≡ before.course.answers ++ answer_by before.course.client.level before.course.out reply ∷ []
  pub unbegun : IsUnbegun now.course
  pub sent : now.sent ≡ before.sent

-- A reply that is not the one that is awaited is dropped.
pub record Drops (before now : Lists) : Type 0 where
  pub waits : IsTrue before.course.waits
  pub reply : PlainReply
  pub taken : IsTaken reply before now
  pub of_other : IsAwaited before.course reply → ⊥
  pub course : now.course ≡ before.course
  pub sent : now.sent ≡ before.sent

-- The awaited reply lacked something of what was required, and another ask may be made.
pub record Rests (before now : Lists) : Type 0 where
  pub reply : PlainReply
  pub taken : IsTaken reply before now
  pub of_ask : IsAwaited before.course reply
  pub lacks : is_found reply.answered ≡ false
  pub left : before.course.out < length (open_most before.course)
  pub course : now.course ≡ record before.course { waits = false }
  pub sent : now.sent ≡ before.sent

-- what a sender at a place tells of its room where it hands a request back for want of it
abbrev pub WantsRoom : {T : Type 0} → (T → Type 0) → Bool → (T → ℕ) → List T → ℕ → Type 0
WantsRoom {T} clear roomy unseen senders place =
    ((sender : T) → slice_get senders place ≡ Some sender → clear sender → ⊥) × (IsTrue roomy → 64 ≤ slice_index_or (map unseen senders) place 0)

-- The open line's next request was handed back for want of a place, by the sender to its worker.
pub record ComesBack (course : Course) (before now : Counts) (wants_room : ℕ → Type 0) : Type 0 where
  pub worker : ℕ
  pub item : Sent
  pub next : slice_get (open_most course) course.out ≡ Some (worker, item)
  pub rose : Rose (slice_index_or before.fulls (worker - 1) 0) (slice_index_or now.fulls (worker - 1) 0)
  pub no_room : wants_room (worker - 1)

-- No reply was there; the box tells so.
pub record HearsNothing (course : Course) (before now : Counts) (nothing : Type 0) : Type 0 where
  pub waits : IsTrue course.waits
  pub none_kept : course.kept ≡ None
  pub rose : Rose before.answers.nones now.answers.nones
  pub told : nothing

-- a reply that is awaited and shows a cell is taken and kept, or none is
abbrev pub KeepsOne : Lists → Lists → Type 0
KeepsOne before now =
    ((now.course.kept ≡ before.course.kept) × (now.received ≡ before.received))
    ⊎ ((sender : ℕ) × (reply : PlainReply) × (before.course.kept ≡ None) × (now.course.kept ≡ Some reply) × (now.received ≡ before.received ++ (sender, reply) ∷ []))

-- What a call does, by its answer. `wants_room` is what the sender at a place tells where it hands a request back for want of a place, and
-- `nothing` what the box tells where it has no reply.
abbrev pub Polls : Result Progress NoMemory → Lists → Lists → Counts → Counts → (ℕ → Type 0) → Type 0 → Type 0
Polls (Ok progress.Moved) before now counts counts_now wants_room nothing =
    ((Sends before now ⊎ AnswersAlone before now) × (counts_now ≡ counts)) ⊎ ((AnswersBy before now ⊎ Drops before now) × (counts_now.fulls ≡ counts.fulls))
Polls (Ok progress.NotYet) before now counts counts_now wants_room nothing =
    (now ≡ before) × (ComesBack before.course counts counts_now wants_room ⊎ HearsNothing before.course counts counts_now nothing)
Polls (Ok progress.Rest) before now counts counts_now wants_room nothing = Rests before now × (counts_now.fulls ≡ counts.fulls)
Polls (Ok progress.Ended) before now counts counts_now wants_room nothing = (now ≡ before) × (counts_now ≡ counts) × (length before.course.answers ≡ length before.course.lines)
Polls (Err want) before now counts counts_now wants_room nothing =
    (now.course ≡ record before.course { kept = now.course.kept }) × (now.sent ≡ before.sent) × KeepsOne before now

-- every line is answered exactly where a call says so
abbrev pub EndsWhereAnswered : Result Progress NoMemory → Course → Type 0
EndsWhereAnswered (Ok progress.Ended) before = length before.answers ≡ length before.lines
EndsWhereAnswered (Ok other) before = length before.answers < length before.lines
EndsWhereAnswered (Err want) before = length before.answers < length before.lines
