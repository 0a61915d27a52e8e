-- What it changes of a session to be polled, once or several times.
use Rattle.std.specs.Prelude.{◌≡◌, IsTrue, List, All, length, Ok}
use Rattle.mail_contract.specs.declared.rx.Rx as boxes
use Rattle.mail_contract.specs.declared.tx.Tx as senders
use Rattle.mail_contract.specs.Boxes.{FindsNothing, box_of}
use Rattle.mail_contract.specs.Standing.{AllStand}
use Rattle.placement.specs.Config.{IsOneOf}
use Rattle.session_known.specs.Session.{Knowledge}
use Rattle.session_known.specs.declared.report.Answer.{Answer}
use Rattle.session_proxy.specs.Polls.{Counts, Polls, WantsRoom}
use Rattle.session_proxy.specs.Share.{Share}
use Rattle.session_proxy.specs.State.{IsFixed, KeysStay, PlainProxy, has_begun, lists_of, state_now}
use Rattle.session_proxy.specs.declared.progress.Progress.TheVariants as progress
use Rattle.store_msg.specs.declared.ends.SessionEndsOver.{SessionEndsOver}
use Rattle.store_msg.specs.declared.request.Request.{Request}
use Rattle.store_msg.specs.Reply.{PlainReply}

-- A session was polled: its share is kept, and what never changes, and how its box stands to the workers.
pub record HasPolled {S T R SK TK RK : Type 0} (asks : senders.Ghosts S Request SK) (heard : boxes.Ghosts R PlainReply T RK TK) (before now : PlainProxy S R) : Type 0 where
  pub fixed : IsFixed before.course now.course
  pub keys : KeysStay asks.key asks.number heard.key before now
  pub share : Share (lists_of asks.sent heard.received before) → Share (lists_of asks.sent heard.received now)
  pub in_range : All (λ message. IsOneOf (heard.senders (heard.key before.ends.replies)) message.0) (heard.received before.ends.replies)
      → All (λ message. IsOneOf (heard.senders (heard.key now.ends.replies)) message.0) (heard.received now.ends.replies)
  pub stand : AllStand (heard.about before.ends.replies) (heard.about now.ends.replies)
  -- where every line was answered nothing is done
  pub ended : length before.course.answers ≡ length before.course.lines → now.course ≡ before.course

-- a session has begun, and every line of it is answered
abbrev pub IsAllAnswered : {S R : Type 0} → PlainProxy S R → Type 0
IsAllAnswered proxy = IsTrue (has_begun proxy.course) × (length proxy.course.answers ≡ length proxy.course.lines)

-- and it knows this then
abbrev pub KnowsAtEnd : {S R : Type 0} → PlainProxy S R → Knowledge → Type 0
KnowsAtEnd proxy knows = IsAllAnswered proxy × (knows ≡ (state_now proxy.course).knows)

-- its answers and its ends, as it leaves them
abbrev pub left_by : {S R : Type 0} → PlainProxy S R → List Answer × SessionEndsOver S R
left_by proxy = (proxy.course.answers, proxy.ends)

-- A session was polled that waited: it answered NotYet, changed nothing, and this is what its ends told then.
pub record HasWaited {S T R SK TK RK : Type 0} (asks : senders.Ghosts S Request SK) (heard : boxes.Ghosts R PlainReply T RK TK) (before : PlainProxy S R) : Type 0 where
  pub now : PlainProxy S R
  pub counts : Counts
  pub counts_now : Counts
  pub polls : Polls (Ok progress.NotYet) (lists_of asks.sent heard.received before) (lists_of asks.sent heard.received now) counts counts_now
      (WantsRoom asks.clear asks.roomy asks.unseen before.ends.requests.items) (FindsNothing heard.keeps (box_of heard.received heard.answers heard.about now.ends.replies))
  pub stands : AllStand (heard.about before.ends.replies) (heard.about now.ends.replies)
