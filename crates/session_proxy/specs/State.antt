-- What contracts see of a session's proxy: how far it is, and what went through its ends.
use Rattle.std.specs.Prelude.{◌≡◌, ℕ, Bool, false, true, List, [], map, length, slice_get, Option, Some, None}
use Rattle.session_known.specs.Session.{Client, Knowledge, State, nothing_known, start, state_after}
use Rattle.session_known.specs.declared.report.Answer.{Answer}
use Rattle.session_known.specs.declared.script.Line.{Line}
use Rattle.store_msg.specs.Reply.{PlainReply}
use Rattle.store_msg.specs.declared.ends.SessionEndsOver.{SessionEndsOver}
use Rattle.store_msg.specs.declared.request.Request.{Request}

-- A session has begun, and knew this then; or it waits for the end of the session of this number.
pub data Origin : Type 0 where
  Knew : Knowledge → Origin
  WaitsFor : ℕ → Origin

-- How far a session is. Its first line that is not answered is open.
pub record Course : Type 0 where
  pub client : Client
  -- the replicas of each key
  pub table : List (List ℕ)
  pub lines : List Line
  pub origin : Origin
  pub answers : List Answer
  -- how many asks its answered lines sent
  pub asks : ℕ
  -- how many requests of the open line were sent
  pub out : ℕ
  -- the last of them is an ask, and no reply to it was worked on
  pub waits : Bool
  -- the reply to it that was taken and met want of memory
  pub kept : Option PlainReply

-- how far it is, and its ends: a sender of requests for each worker, and the box of replies
pub record PlainProxy (T R : Type 0) : Type 0 where
  pub course : Course
  pub ends : SessionEndsOver T R

-- how far it is, and what went through its ends
pub record Lists : Type 0 where
  pub course : Course
  -- for each worker the requests that were sent
  pub sent : List (List Request)
  -- the replies that were taken, each with its sender's number
  pub received : List (ℕ × PlainReply)

abbrev pub lists_of : {T R : Type 0} → (T → List Request) → (R → List (ℕ × PlainReply)) → PlainProxy T R → Lists
lists_of sent received proxy = record { course = proxy.course; sent = map sent proxy.ends.requests.items; received = received proxy.ends.replies }

-- at first one that comes after no other knows nothing, and one that comes after another waits for it
abbrev pub first_origin : Option ℕ → Origin
first_origin None = Knew nothing_known
first_origin (Some after) = WaitsFor after

-- what it knew at its start
abbrev pub known_at_start : Origin → Knowledge
known_at_start (Knew knows) = knows
known_at_start (WaitsFor session) = nothing_known

-- the state of the session then
abbrev pub starting : Course → State
starting course = start (known_at_start course.origin)

-- it has begun
abbrev pub begins : Origin → Bool
begins (Knew knows) = true
begins (WaitsFor session) = false

abbrev pub has_begun : Course → Bool
has_begun course = begins course.origin

-- its state after the lines that are answered
abbrev pub state_now : Course → State
state_now course = state_after course.client (starting course) course.lines course.answers

-- the line that is open, if any is
abbrev pub open_line : Course → Option Line
open_line course = slice_get course.lines (length course.answers)

-- before the first line
abbrev pub opening : Client → List (List ℕ) → List Line → Origin → Course
opening client table lines origin = record { client = client; table = table; lines = lines; origin = origin; answers = []; asks = 0; out = 0; waits = false; kept = None }

-- what no call changes
pub record IsFixed (before now : Course) : Type 0 where
  pub client : now.client ≡ before.client
  pub table : now.table ≡ before.table
  pub lines : now.lines ≡ before.lines
  pub origin : now.origin ≡ before.origin

-- the keys and numbers of the ends stay
pub record KeysStay {T R TK RK : Type 0} (requests : T → TK) (numbers : T → ℕ) (replies : R → RK) (before now : PlainProxy T R) : Type 0 where
  pub requests_keys : map requests now.ends.requests.items ≡ map requests before.ends.requests.items
  pub requests_numbers : map numbers now.ends.requests.items ≡ map numbers before.ends.requests.items
  pub replies_key : replies now.ends.replies ≡ replies before.ends.replies
