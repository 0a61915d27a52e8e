-- The workers and the sessions of a script before their first step.
use Rattle.std.specs.Prelude.{◌≡◌, ℕ, ◌+◌, List, [], All, length, slice_get, Option, Some, None}
use Rattle.mail_contract.specs.declared.gossip.GossipRx as weak
use Rattle.mail_contract.specs.declared.rx.Rx as boxes
use Rattle.mail_contract.specs.declared.tx.Tx as senders
use Rattle.session_known.specs.Accepted.{client_of}
use Rattle.session_known.specs.declared.script.Script.{Script}
use Rattle.session_known.specs.declared.script.SessionPlan.{SessionPlan}
use Rattle.session_proxy.specs.Share.{Share}
use Rattle.session_proxy.specs.State.{PlainProxy, first_origin, lists_of, opening}
use Rattle.store_msg.specs.Reply.{PlainReply}
use Rattle.store_msg.specs.declared.ends.SessionEndsOver.{SessionEndsOver}
use Rattle.store_msg.specs.declared.ends.WorkerEndsOver.{WorkerEndsOver}
use Rattle.store_msg.specs.declared.request.Request.{Request}
use Rattle.worker_core.specs.State.{Entries, PlainWorker, opening_state}

-- The ends of one of so many workers: it has a sender of gossip for each other one, and nothing has gone through any of them.
pub record AreUnusedOfWorker {Q T O G : Type 0} (received : Q → List (ℕ × Request)) (got : G → ℕ → ℕ → Option Entries) (replied : T → List PlainReply) (told : O → List Entries)
    (workers : ℕ) (ends : WorkerEndsOver Q T O G) : Type 0 where
  pub mates : length ends.gossip_out.items + 1 ≡ workers
  pub none_received : received ends.requests ≡ []
  pub none_got : (sender place : ℕ) → got ends.gossip_in sender place ≡ None
  pub none_replied : All (λ sender. replied sender ≡ []) ends.replies.items
  pub none_told : All (λ sender. told sender ≡ []) ends.gossip_out.items

-- so by all that their traits let contracts see of them
abbrev pub IsUnused : {S Q T O G SK QK TK OK GK : Type 0} → boxes.Ghosts Q Request S QK SK → senders.Ghosts T PlainReply TK → senders.Ghosts O Entries OK → weak.Ghosts G Entries O GK OK
    → ℕ → WorkerEndsOver Q T O G → Type 0
IsUnused requests replies told gossip = AreUnusedOfWorker requests.received gossip.got replies.sent told.sent

-- The ends of a session: it has a sender of requests for each of so many workers, and nothing has gone through any of them.
pub record AreUnusedOfSession {S R : Type 0} (asked : S → List Request) (heard : R → List (ℕ × PlainReply)) (workers : ℕ) (ends : SessionEndsOver S R) : Type 0 where
  pub senders : length ends.requests.items ≡ workers
  pub none_asked : All (λ sender. asked sender ≡ []) ends.requests.items
  pub none_heard : heard ends.replies ≡ []

-- Of the item at each place was made what stands at that place of another list, and no more stands there.
pub record AreMadeOf {X Y : Type 0} (IsMadeOf : ℕ → X → Y → Type 0) (items : List X) (made : List Y) : Type 0 where
  pub long : length made ≡ length items
  pub each : (place : ℕ) (item : X) (its : Y) → slice_get items place ≡ Some item → slice_get made place ≡ Some its → IsMadeOf place item its

-- The worker of a script at a place, from 0, over its ends, before it has received anything.
abbrev pub IsNewWorker : {Q T O G : Type 0} → Script → List (List ℕ) → ℕ → WorkerEndsOver Q T O G → PlainWorker Q T O G → Type 0
IsNewWorker script table place ends worker =
    worker ≡ record { state = opening_state (place + 1) script.round table script.kinds (length ends.gossip_out.items); ends = ends }

-- The session of a script at a place, from 0, over its ends, before its first line.
pub record IsNewSession {S R : Type 0} (asked : S → List Request) (heard : R → List (ℕ × PlainReply)) (script : Script) (table : List (List ℕ)) (place : ℕ)
    (ends : SessionEndsOver S R) (proxy : PlainProxy S R) : Type 0 where
  pub proxy_is : (plan : SessionPlan) → slice_get script.sessions place ≡ Some plan → proxy ≡ record { course = opening (client_of (place + 1) plan) table plan.lines (first_origin plan.after); ends = ends }
  pub share : Share (lists_of asked heard proxy)
