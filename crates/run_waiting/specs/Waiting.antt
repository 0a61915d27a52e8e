-- What a session waits for, and what it took.
use Rattle.std.specs.Prelude.{◌≡◌, ℕ, ◌-◌, IsTrue, List, [], All, Contains, slice_index_or, Some}
use Rattle.session_known.specs.Requests.{SentAsk}
use Rattle.session_proxy.specs.Run.{IsReplyTo}
use Rattle.session_proxy.specs.Share.{awaited}
use Rattle.session_proxy.specs.State.{Lists}
use Rattle.session_proxy.specs.declared.progress.Progress.{Progress}
use Rattle.session_proxy.specs.declared.progress.Progress.TheVariants as progress
use Rattle.store_msg.specs.Reply.{PlainReply}
use Rattle.store_msg.specs.declared.request.Request.TheVariants as requests

-- A reply is to an ask that the session sent to the worker whose number the reply has.
abbrev pub IsToAsk : Lists → PlainReply → Type 0
IsToAsk its reply = Contains (slice_index_or its.sent (reply.worker - 1) []) (requests.Get reply.ask reply.key reply.required)

-- each reply that it took is
abbrev pub AreToAsks : Lists → Type 0
AreToAsks its = All (λ message. IsToAsk its message.1) its.received

-- each has the number of the worker that it was taken of
abbrev pub AreSigned : Lists → Type 0
AreSigned its = All (λ message. message.1.worker ≡ message.0) its.received

-- What a session waits for is the reply to an ask, and it took no such reply.
pub record IsMissing (its : Lists) : Type 0 where
  pub worker : ℕ
  pub ask : ℕ
  pub key : ℕ
  pub required : List (ℕ × ℕ)
  pub asked : awaited its.course ≡ Some (worker, SentAsk ask key required)
  pub not_taken : All (λ message. IsReplyTo (worker, SentAsk ask key required) message.1 → ⊥) its.received

-- so it is while the session waits
abbrev pub AwaitsMissing : Lists → Type 0
AwaitsMissing its = IsTrue its.course.waits → IsMissing its

-- A poll took a reply that is not the awaited one: after it the session waits as before, and yet it moved.
abbrev pub HasDropped : Progress → Lists → Lists → Type 0
HasDropped progress.Moved before now = IsTrue before.course.waits × IsTrue now.course.waits
HasDropped answer before now = ⊥
