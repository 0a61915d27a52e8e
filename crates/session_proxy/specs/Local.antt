-- How far a session is, from what its proxy keeps, and how its parts change it.
use Rattle.std.specs.Prelude.{◌≡◌, ◌⊎◌, ℕ, ◌+◌, ◌-◌, ◌%◌, ◌^◌, ◌<◌, ◌≤◌, false, IsTrue, is_some, List, [], ◌∷◌, ◌++◌, length, map, slice_index_or, Option, Some, None, Result, Ok, Err, ⊤}
use Rattle.lattice_laws.specs.Counts.{Rose}
use Rattle.mail_contract.specs.Takes.{Answers}
use Rattle.composed_value.specs.declared.payload.Payload.{Payload}
use Rattle.composed_value.specs.declared.payload.Payload.TheVariants as payloads
use Rattle.placement.specs.Asked.{ask_order, replicas_of}
use Rattle.placement.specs.Config.{IsOneOf}
use Rattle.session_known.specs.Requests.{Sent, SentAsk, asked_by}
use Rattle.session_known.specs.Session.{Client, InState, known_of, next_put, own_count, shown_of, state_put, state_shown}
use Rattle.session_known.specs.declared.report.Answer.{Answer}
use Rattle.session_known.specs.declared.report.Answer.TheVariants as answers
use Rattle.session_known.specs.declared.script.Line.{Line}
use Rattle.session_known.specs.declared.script.Line.TheVariants as lines
use Rattle.store_msg.specs.Reply.{PlainReply}
use Rattle.store_msg.specs.declared.ends.SessionEndsOver.{SessionEndsOver}
use Rattle.store_msg.specs.declared.reply.Answered.{Answered}
use Rattle.store_msg.specs.declared.reply.Answered.TheVariants as answered
use Rattle.store_msg.specs.declared.request.Request.{Request}
use Rattle.store_msg.specs.declared.request.Request.TheVariants as requests
use Rattle.session_proxy.specs.Lines.{MayRun, most_asks}
use Rattle.session_proxy.specs.Run.{answer_by}
use Rattle.session_proxy.specs.Share.{IsAsked}
use Rattle.session_proxy.specs.State.{Course, Knew, Lists, open_line}
use Rattle.session_proxy.specs.declared.asks.Heard.{Heard}
use Rattle.session_proxy.specs.declared.asks.Heard.TheVariants as heard
use Rattle.session_proxy.specs.declared.local.Begun.{Begun}
use Rattle.session_proxy.specs.declared.local.Begun.TheVariants as ways
use Rattle.session_proxy.specs.declared.local.Local.{Local}
use Rattle.session_proxy.specs.declared.local.Puts.{Puts}
use Rattle.session_proxy.specs.declared.progress.Progress.{Progress}
use Rattle.session_proxy.specs.declared.progress.Progress.TheVariants as progress

abbrev pub course_of : Local → Course
course_of local = record {
  client = local.session.client;
  table = local.placement;
  lines = local.lines;
  origin = Knew local.origin.knows;
  answers = local.answers.items;
  asks = local.asks;
  out = local.out;
  waits = local.waits;
  kept = local.kept;
}

-- and what went through the ends
abbrev pub lists_at : {T R : Type 0} → (T → List Request) → (R → List (ℕ × PlainReply)) → Local → SessionEndsOver T R → Lists
lists_at sent received local ends = record { course = course_of local; sent = map sent ends.requests.items; received = received ends.replies }

-- a proxy keeps this
pub record KeepsAs (now : Local) (course : Course) (session : InState) (begun : Begun) (made : Option Request) : Type 0 where
  pub course_is : course_of now ≡ course
  pub session_is : now.session ≡ session
  pub begun_is : now.begun ≡ begun
  pub made_is : now.made ≡ made

-- as before
abbrev pub StaysAs : Local → Local → Type 0
StaysAs before now = KeepsAs now (course_of before) before.session before.begun before.made

-- puts were begun, and an ask was
abbrev pub ArePuts : Begun → Type 0
ArePuts (ways.Puts puts) = ⊤
ArePuts begun = ⊥

abbrev pub AreAsks : Begun → Type 0
AreAsks (ways.Asks clock) = ⊤
AreAsks begun = ⊥

-- the puts, and the clock that is required
abbrev pub puts_begun : Begun → List (ℕ × Payload)
puts_begun (ways.Puts puts) = puts.puts
puts_begun begun = []

abbrev pub clock_begun : Begun → List (ℕ × ℕ)
clock_begun (ways.Asks clock) = clock
clock_begun begun = []

-- the put at a place, with its key
abbrev pub put_at : Puts → ℕ → ℕ × Payload
put_at puts place = slice_index_or puts.puts place (0, payloads.On)

-- the next that goes out
abbrev pub next_of : Local → ℕ × Payload
next_of local = slice_index_or (puts_begun local.begun) local.out (0, payloads.On)

-- a put is made where none is
abbrev pub MakesNew : Puts → Option Request → InState → InState → ℕ → Type 0
MakesNew puts made session session_now place =
    let put = put_at puts place in
    (made ≡ Some (requests.Put put.0 (next_put (known_of session) put.0 put.1 puts.lamport place)))
    × (session_now ≡ record { client = session.client; state = state_put session put.0 puts.lamport })

abbrev pub Makes : {U E : Type 0} → Result U E → Puts → Option Request → Option Request → InState → InState → ℕ → Type 0
Makes (Ok done) puts made made_now session session_now place =
    (IsTrue (is_some made) × (made_now ≡ made) × (session_now ≡ session)) ⊎ ((made ≡ None) × MakesNew puts made_now session session_now place)
Makes (Err want) puts made made_now session session_now place = (made_now ≡ made) × (session_now ≡ session)

-- the next put can be made where it is not: there is one, and its number is drawn
abbrev pub CanMake : Begun → Option Request → InState → ℕ → Type 0
CanMake (ways.Puts puts) made session place = (place < length puts.puts) × (made ≡ None → own_count session.state.knows (put_at puts place).0 + 1 < 2 ^ 64)
CanMake begun made session place = ⊥

-- the next put is made, if it was not
abbrev pub PreparesOf : {U E : Type 0} → Result U E → Begun → Local → Local → Type 0
PreparesOf result (ways.Puts puts) before now =
    Makes result puts before.made now.made before.session now.session before.out × (course_of now ≡ course_of before) × (now.begun ≡ before.begun)
PreparesOf result begun before now = ⊥

abbrev pub Prepares : {U E : Type 0} → Result U E → Local → Local → Type 0
Prepares result before now = PreparesOf result before.begun before now

-- the answer of a line whose last put went out
abbrev pub answer_sent : Line → InState → Puts → Answer
answer_sent (lines.Put key payload) session puts = answers.Put (own_count session.state.knows key) puts.lamport
answer_sent line session puts = answers.Committed (length puts.puts) puts.lamport

-- a line is answered, and the next one open
abbrev pub answered_with : Course → Answer → Course
answered_with course answer = record { client = course.client; table = course.table; lines = course.lines; origin = course.origin; answers = course.answers ++ answer ∷ []; asks = course.asks; out = 0; waits = false; kept = None }

-- one more of a line's puts is sent, and the line answered with the last
abbrev pub SendsOf : Line → Begun → Local → Local → Type 0
SendsOf line (ways.Puts puts) before now =
    ((before.out + 1 < length puts.puts) × KeepsAs now (record (course_of before) { out = before.out + 1 }) before.session before.begun None)
    ⊎ ((before.out + 1 ≡ length puts.puts) × KeepsAs now (answered_with (course_of before) (answer_sent line before.session puts)) before.session ways.Nothing None)
SendsOf line begun before now = ⊥

abbrev pub SendsPut : Line → Local → Local → Type 0
SendsPut line before now = SendsOf line before.begun before now

-- the key of a get or an await, and whom it asks, one after another
abbrev pub key_asked : Line → ℕ
key_asked (lines.Get key named) = key
key_asked (lines.Await key session count) = key
key_asked line = 0

abbrev pub order_asked : List (List ℕ) → Client → Line → List ℕ
order_asked table client (lines.Get key named) = asked_by client.level table client.session key named
order_asked table client (lines.Await key session count) = ask_order table client.session key
order_asked table client line = []

-- the worker that an ask goes to, by its place from 0
abbrev pub worker_asked : List (List ℕ) → Client → Line → ℕ → ℕ
worker_asked table client line place = let order = order_asked table client line in slice_index_or order (place % length order) 0

-- what holds of the line that is open
abbrev pub OnOpen : Local → (Line → Type 0) → Type 0
OnOpen local holds = (line : Line) → open_line (course_of local) ≡ Some line → holds line

-- an ask at this place, from 0, may be made for a line
abbrev pub MayAskAt : Local → Line → ℕ → Type 0
MayAskAt local line place =
    MayRun local.placement local.session.client.level line × IsAsked line × (place < most_asks local.placement local.session.client.level (key_asked line))

-- the last ask that was sent for a line, and its worker
abbrev pub last_ask : Local → Line → ℕ × Sent
last_ask local line = (worker_asked local.placement local.session.client line (local.out - 1), SentAsk (local.asks + local.out) (key_asked line) (clock_begun local.begun))

-- a reply to the last ask can be told from others: the open line asks, and some of its asks were sent
pub record CanHear (local : Local) : Type 0 where
  pub asks : AreAsks local.begun
  pub left : length local.answers.items < length local.lines
  pub some : 1 ≤ local.out
  pub line : (line : Line) → open_line (course_of local) ≡ Some line
      → MayRun local.placement local.session.client.level line × IsAsked line × (local.out ≤ most_asks local.placement local.session.client.level (key_asked line))
  pub session : 1 ≤ local.session.client.session
  pub few : local.asks + local.out < 2 ^ 64

-- it can be worked on: it is on a key that is there, of few replicas, which was not asked for more often than may be, and none is kept
pub record CanWork (local : Local) (reply : PlainReply) : Type 0 where
  pub key : IsOneOf (length local.placement) reply.key
  pub few : length (replicas_of local.placement reply.key) < 2 ^ 16
  pub most : local.out ≤ most_asks local.placement local.session.client.level reply.key
  pub asks : local.asks + local.out < 2 ^ 64
  pub none_kept : local.kept ≡ None

-- what a reply to the ask that is awaited does
abbrev pub WorksOf : {E : Type 0} → Result Progress E → List (List ℕ) → Answered → PlainReply → Local → Local → Type 0
WorksOf (Ok progress.Moved) table (answered.Found cell) reply before now =
    KeepsAs now (record (answered_with (course_of before) (answer_by before.session.client.level before.out reply)) { asks = before.asks + before.out })
    (record { client = before.session.client; state = state_shown before.session reply.key (shown_of cell) }) ways.Nothing before.made
WorksOf (Ok progress.Moved) table (answered.Again clock) reply before now =
    (before.out ≡ most_asks table before.session.client.level reply.key)
    × KeepsAs now (record (answered_with (course_of before) (answer_by before.session.client.level before.out reply)) { asks = before.asks + before.out }) before.session ways.Nothing before.made
WorksOf (Ok progress.Rest) table (answered.Again clock) reply before now =
    (before.out < most_asks table before.session.client.level reply.key) × KeepsAs now (record (course_of before) { waits = false }) before.session before.begun before.made
WorksOf (Err want) table (answered.Found cell) reply before now = KeepsAs now (record (course_of before) { kept = Some reply }) before.session before.begun before.made
WorksOf result table answered reply before now = ⊥

abbrev pub Works : {E : Type 0} → Result Progress E → PlainReply → Local → Local → Type 0
Works result reply before now = WorksOf result before.placement reply.answered reply before now

-- a reply is taken, out of the box or where it was kept
abbrev pub Hears : {E : Type 0} → Result Heard E → Local → Local → List (ℕ × PlainReply) → List (ℕ × PlainReply) → (PlainReply → Type 0) → Type 0
Hears (Ok heard.Nothing) before now received received_now is_awaited = (before.kept ≡ None) × StaysAs before now × (received_now ≡ received)
Hears (Ok heard.Other) before now received received_now is_awaited =
    (before.kept ≡ None) × StaysAs before now × (sender : ℕ) × (reply : PlainReply) × (is_awaited reply → ⊥) × (received_now ≡ received ++ (sender, reply) ∷ [])
Hears (Ok (heard.Awaited reply)) before now received received_now is_awaited =
    ((before.kept ≡ Some reply) × KeepsAs now (record (course_of before) { kept = None }) before.session before.begun before.made × (received_now ≡ received))
    ⊎ ((before.kept ≡ None) × is_awaited reply × StaysAs before now × (sender : ℕ) × (received_now ≡ received ++ (sender, reply) ∷ []))
Hears (Err want) before now received received_now is_awaited = StaysAs before now × (received_now ≡ received)

-- what the box tells where it has no reply
abbrev pub TellsNothing : {E : Type 0} → Result Heard E → Answers → Answers → Type 0 → Type 0
TellsNothing (Ok heard.Nothing) before now nothing = Rose before.nones now.nones × nothing
TellsNothing result before now nothing = ⊤
