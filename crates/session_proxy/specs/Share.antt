-- What a session's own ends tell: its answers and its requests are those of its lines, for the replies that it took.
use Rattle.std.specs.Prelude.{◌≡◌, ℕ, ◌+◌, ◌-◌, ◌≤◌, Bool, true, false, IsTrue, if◌then◌else◌, List, [], ◌∷◌, ◌++◌, All, flat_map, length, map, slice_get, slice_index_or, sum_by, take, Option, Some, None, IfSome, option_map, unwrap_or, ⊤}
use Rattle.std.specs.List.{AllZip}
use Rattle.mail_contract.specs.Takes.{from_sender}
use Rattle.placement.specs.Config.{IsOneOf}
use Rattle.session_known.specs.Requests.{Sent, SentAsk, SentPut, sent_from}
use Rattle.session_known.specs.declared.script.Line.{Line}
use Rattle.session_known.specs.declared.script.Line.TheVariants as lines
use Rattle.store_msg.specs.Reply.{PlainReply, is_found}
use Rattle.store_msg.specs.declared.request.Request.{Request}
use Rattle.store_msg.specs.declared.request.Request.TheVariants as requests
use Rattle.session_proxy.specs.Lines.{most_of_line, most_sent}
use Rattle.session_proxy.specs.Run.{AreAnswered, IsPartOf, IsReplyTo, Lacks}
use Rattle.session_proxy.specs.State.{Course, Lists, open_line, starting, state_now}

-- a request as it is sent
abbrev pub request_of : Sent → Request
request_of (SentPut key put) = requests.Put key put
request_of (SentAsk ask key required) = requests.Get ask key required

-- what of a list of requests, each with its worker, goes to one worker
abbrev pub to_worker : ℕ → List (ℕ × Sent) → List Request
to_worker worker sent = map request_of (from_sender worker sent)

-- the requests that the open line sends at most
abbrev pub open_most : Course → List (ℕ × Sent)
open_most course = unwrap_or (option_map (most_sent course.table course.client (state_now course) (course.asks + 1)) (open_line course)) []

-- those of them that were sent
abbrev pub open_sent : Course → List (ℕ × Sent)
open_sent course = take course.out (open_most course)

-- the ask whose reply is awaited
abbrev pub awaited : Course → Option (ℕ × Sent)
awaited course = if course.waits then slice_get (open_most course) (course.out - 1) else None

-- the kept reply as a list
abbrev pub kept_reply : Option PlainReply → List PlainReply
kept_reply None = []
kept_reply (Some reply) = reply ∷ []

-- a get or an await
abbrev pub IsAsked : Line → Type 0
IsAsked (lines.Get key named) = ⊤
IsAsked (lines.Await key session count) = ⊤
IsAsked line = ⊥

-- how many of a line's asks were not replied to yet: one where a reply is awaited
abbrev pub lacks : Bool → ℕ
lacks true = 1
lacks false = 0

-- The replies to the asks of the open line so far, each of which lacked something of what was required.
pub record AreLacking (course : Course) (replies : List PlainReply) : Type 0 where
  pub asked : AllZip IsReplyTo (take (length replies) (open_most course)) replies
  pub lack : All Lacks replies
  pub out : IfSome (open_line course) (λ line. IsAsked line → length replies + lacks course.waits ≡ course.out)
  pub none : IfSome (open_line course) (λ line. (IsAsked line → ⊥) → replies ≡ [])

-- the reply is the one that is awaited
abbrev pub IsAwaited : Course → PlainReply → Type 0
IsAwaited course reply = (ask : ℕ × Sent) × (awaited course ≡ Some ask) × IsReplyTo ask reply

-- What holds of a session after every call, from its own ends alone: its answers follow from the replies that were taken and not
-- dropped, and what was sent to each worker is what its answered lines send to it, followed by the first requests of the open line.
pub record Share (lists : Lists) : Type 0 where
  -- the replies that answered its lines, line by line, and those to the open line's asks so far
  pub replies : List (List PlainReply)
  pub lacking : List PlainReply
  pub few : length lists.course.answers ≤ length lists.course.lines
  pub answered : AreAnswered lists.course.table lists.course.client (starting lists.course) 1 lists.course.lines lists.course.answers replies
  pub asks : lists.course.asks ≡ sum_by length replies
  pub lacking_are : AreLacking lists.course lacking
  pub out : lists.course.out ≤ length (open_most lists.course)
  pub kept : IfSome lists.course.kept (λ reply. IsAwaited lists.course reply × IsTrue (is_found reply.answered))
  pub sent : (worker : ℕ) → IsOneOf (length lists.sent) worker → slice_index_or lists.sent (worker - 1) []
      ≡ to_worker worker (sent_from lists.course.table lists.course.client (starting lists.course) 1 (map length replies) lists.course.lines lists.course.answers ++ open_sent lists.course)
  pub received : IsPartOf (flat_map (λ answering. answering) replies ++ lacking ++ kept_reply lists.course.kept) (map (λ message. message.1) lists.received)

-- how many requests a session sends at most, all its lines together
abbrev pub most_in_all : Course → ℕ
most_in_all course = sum_by (most_of_line course.table course.client.level) course.lines

-- it has sent no more
abbrev pub HasSentFew : Lists → Type 0
HasSentFew lists = sum_by length lists.sent ≤ most_in_all lists.course
