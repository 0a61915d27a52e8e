-- How far steps bring a session, by what it took, sent and answered.
use Rattle.std.specs.Prelude.{◌≡◌, ℕ, ◌+◌, ◌≤◌, false, if◌then◌else◌, IfOk, IsTrue, Result}
use Rattle.mail_contract.specs.declared.rx.Rx as boxes
use Rattle.mail_contract.specs.declared.tx.Tx as senders
use Rattle.session_proxy.specs.OverProxies.{lists_of}
use Rattle.session_proxy.specs.Share.{Share}
use Rattle.session_proxy.specs.State as sessions
use Rattle.store_msg.specs.Reply.{PlainReply}
use Rattle.store_msg.specs.declared.request.Request.{Request}
use Rattle.parties.specs.Polling.{HasWaited}
use Rattle.parties.specs.declared.stepping.Polled.{Polled}
use Rattle.run_measure.specs.Laws.{IsPlaced}
use Rattle.run_measure.specs.Pace.{IsPaced}
use Rattle.run_measure.specs.Steps.{HasDone, done}
use Rattle.run_waiting.specs.Waiting.{AreToAsks, AwaitsMissing}

-- A session has gone on: it has answered no fewer lines, sent no fewer requests and taken no fewer replies; and where it moved it has done one of
-- these, where not, nothing has changed. An ask of it that came to nothing is a move; there is one where it rested, and none where it did not. And
-- where each reply that it took was to an ask, and the one that it waits for was not taken, the one that it waits for then was not taken either.
pub record HasMovedOn (polled : Polled) (before now : sessions.Lists) : Type 0 where
  pub goes_on : HasDone before now
  pub moved : IsTrue polled.moved → done before + 1 ≤ done now
  pub still : polled.moved ≡ false → now ≡ before
  pub rested : IsTrue polled.rested → IsTrue polled.moved
  pub paced : IsPaced (if polled.rested then 1 else 0) before.course now.course
  pub awaits : AwaitsMissing before → AreToAsks before → AwaitsMissing now

-- a poll in which the session moved, or after which it has ended
abbrev pub CameAlong : {E : Type 0} → Result Polled E → Type 0
CameAlong result = IfOk result (λ polled. polled.ended ≡ false → IsTrue polled.moved)

-- over what the traits of its ends tell: a session that kept its share moves on
module _ {T R S TK RK SK : Type 0} (asks : senders.Ghosts T Request TK) (heard : boxes.Ghosts R PlainReply S RK SK) where
  abbrev pub MovesOn : {E : Type 0} → Result Polled E → sessions.PlainProxy T R → sessions.PlainProxy T R → Type 0
  MovesOn result before now =
      IsPlaced (lists_of asks heard before) → Share (lists_of asks heard before) → IfOk result (λ polled. HasMovedOn polled (lists_of asks heard before) (lists_of asks heard now))

  -- where it neither moved nor ended, this is what its ends told then
  abbrev pub WaitsUnmoved : {E : Type 0} → Result Polled E → ℕ → sessions.PlainProxy T R → Type 0
  WaitsUnmoved result most before = IfOk result (λ polled. polled.moved ≡ false → polled.ended ≡ false → 1 ≤ most → HasWaited asks heard before)
