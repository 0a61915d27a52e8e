-- What a proxy keeps from call to call: the session's share, and beside it what the code rests on.
use Rattle.std.specs.Prelude.{◌≡◌, ℕ, ◌+◌, ◌*◌, ◌<◌, ◌≤◌, ◌^◌, false, is_some, List, All, drop, length, slice_get, Option, Some, None, option_map, IfSome}
use Rattle.composed_value.specs.declared.payload.Payload.{Payload}
use Rattle.placement.specs.Config.{IsOneOf}
use Rattle.session_known.specs.Lawful.{required}
use Rattle.session_known.specs.Script.{AreEnded}
use Rattle.session_known.specs.Session.{InState, State, held_puts, knows_committed, own_count, puts_committed}
use Rattle.session_known.specs.declared.script.Line.{Line}
use Rattle.store_msg.specs.Reply.{PlainReply}
use Rattle.store_msg.specs.declared.ends.SessionEndsOver.{SessionEndsOver}
use Rattle.store_msg.specs.declared.request.Request.{Request}
use Rattle.session_proxy.specs.Lines.{AreReplicas, MayRun, puts_due}
use Rattle.session_proxy.specs.Local.{lists_at}
use Rattle.session_proxy.specs.Share.{IsAsked, Share, open_most, request_of}
use Rattle.session_proxy.specs.State.{Course, Lists, open_line, state_now}
use Rattle.session_proxy.specs.declared.local.Begun.{Begun}
use Rattle.session_proxy.specs.declared.local.Begun.TheVariants as ways
use Rattle.session_proxy.specs.declared.local.Local.{Local}
use Rattle.session_proxy.specs.declared.local.Puts.{Puts}

-- how many puts are made and not sent
abbrev pub made_more : Option Request → ℕ
made_more None = 0
made_more (Some request) = 1

-- how many of the open line's puts are made
abbrev pub made_of : Course → Option Request → ℕ
made_of course made = course.out + made_more made

-- A session that makes a line's puts one after another: what is left to make, from what it knows, is what was left of all of them.
pub record ArePutting (course : Course) (line : Line) (state : State) (puts : Puts) (made : Option Request) : Type 0 where
  pub puts_are : puts.puts ≡ puts_due (state_now course) line
  pub lamport_is : puts.lamport ≡ (state_now course).knows.lamport + 1
  pub no_ask : IsAsked line → ⊥
  pub left : course.out < length puts.puts
  pub none_held : state.held ≡ None
  pub rest : drop (made_of course made) (puts_committed course.client (state_now course).knows puts.lamport 0 puts.puts)
      ≡ puts_committed course.client state.knows puts.lamport (made_of course made) (drop (made_of course made) puts.puts)
  pub knows : knows_committed course.client state.knows puts.lamport (drop (made_of course made) puts.puts)
      ≡ knows_committed course.client (state_now course).knows puts.lamport puts.puts
  pub low : state.knows.lamport ≤ puts.lamport
  pub counts : (key : ℕ) → own_count state.knows key + length (drop (made_of course made) puts.puts) ≤ length course.answers + 1
  pub made_is : IfSome made (λ request. option_map (λ entry. request_of entry.1) (slice_get (open_most course) course.out) ≡ Some request)

-- no reply is awaited
pub record AwaitsNone (course : Course) : Type 0 where
  pub waits : course.waits ≡ false
  pub kept : course.kept ≡ None

-- A session that asks: this clock is required, and another ask may be made where no reply is awaited.
pub record AreAsking (course : Course) (line : Line) (clock : List (ℕ × ℕ)) : Type 0 where
  pub asked : IsAsked line
  pub left : course.waits ≡ false → course.out < length (open_most course)
  pub required_is : clock ≡ required course.client (state_now course).knows line

-- what was begun for the open line, and the session's state then
abbrev pub Stands : Course → State → Begun → Option Request → Type 0
Stands course state ways.Nothing made = (state ≡ state_now course) × (course.out ≡ 0) × AwaitsNone course × (made ≡ None)
Stands course state (ways.Puts puts) made = AwaitsNone course × (line : Line) × (open_line course ≡ Some line) × ArePutting course line state puts made
Stands course state (ways.Asks clock) made = (state ≡ state_now course) × (line : Line) × (open_line course ≡ Some line) × AreAsking course line clock × (made ≡ None)

-- a put is on a key of the table
abbrev pub IsOn : List (List ℕ) → ℕ × Payload → Type 0
IsOn table entry = IsOneOf (length table) entry.0

pub record Keeps (lists : Lists) (session : InState) (begun : Begun) (made : Option Request) : Type 0 where
  pub share : Share lists
  pub client_is : session.client ≡ lists.course.client
  pub me : 1 ≤ lists.course.client.session
  pub few_lines : length lists.course.lines ≤ 4096
  pub valid : All (MayRun lists.course.table lists.course.client.level) lists.course.lines
  pub ended : AreEnded (is_some (state_now lists.course).held) (drop (length lists.course.answers) lists.course.lines)
  pub placed : All (AreReplicas (length lists.sent)) lists.course.table
  pub few_workers : length lists.sent < 2 ^ 16
  pub counts : (key : ℕ) → own_count (state_now lists.course).knows key + length (held_puts (state_now lists.course)) ≤ length lists.course.answers
  pub held : All (IsOn lists.course.table) (held_puts (state_now lists.course))
  pub few_asks : lists.course.asks ≤ length lists.course.answers * (8 * length lists.sent)
  pub stands : Stands lists.course session.state begun made

-- and so from what the proxy keeps, and its ends
abbrev pub KeepsAt : {T R : Type 0} → (T → List Request) → (R → List (ℕ × PlainReply)) → Local → SessionEndsOver T R → Type 0
KeepsAt sent received local ends = Keeps (lists_at sent received local ends) local.session local.begun local.made
