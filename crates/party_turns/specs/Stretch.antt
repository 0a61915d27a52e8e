-- What a worker does in one turn or several: what stays or falls, and what room its senders of gossip have while no request is left.
use Rattle.std.specs.Prelude.{◌≡◌, ◌⊎◌, ℕ, ◌+◌, ◌*◌, ◌≤◌, Bool, IsTrue, is_some, List, map, Option, Some, None, Result, Ok, ⊤}
use Rattle.mail_contract.specs.Got.{StayDue}
use Rattle.mail_contract.specs.Standing.{About, AllStand}
use Rattle.store_msg.specs.Reply.{PlainReply}
use Rattle.store_msg.specs.declared.request.Request.{Request}
use Rattle.worker_core.specs.State.{Entries, PlainWorker, dirty}
use Rattle.worker_core.specs.declared.did.Did.{Did}
use Rattle.worker_core.specs.declared.did.Did.TheVariants as did
use Rattle.party_turns.specs.Turning.{HasGoneOn, Owes, SomeBack, requests_left}

-- how many replies are held
abbrev pub held_replies : Option (ℕ × PlainReply) → ℕ
held_replies None = 0
held_replies (Some held) = 1

-- How often a worker may still answer that it worked on a request: for each request that is left, for the reply that may be held of it, and
-- for the one that is held.
abbrev pub left_to_serve : {Q T O G : Type 0} → (Q → ℕ) → (Q → List (ℕ × Request)) → (Q → ℕ → About Request) → PlainWorker Q T O G → ℕ
left_to_serve senders received about worker = 2 * requests_left senders received about worker + held_replies worker.state.held

-- A worker goes on: no more is left to it, and where no request is left no key becomes changed; and those stay due that are.
pub record GoesOn {Q T O G QK TK OK GK : Type 0} (request_key : Q → QK) (reply_key : T → TK) (reply_number : T → ℕ)
    (gossip_key : O → OK) (gossip_number : O → ℕ) (in_key : G → GK)
    (complete : Bool) (senders : QK → ℕ) (received : Q → List (ℕ × Request)) (about : Q → ℕ → About Request) (replied : T → List PlainReply)
    (told : O → List Entries) (all_told : Bool) (mates : GK → ℕ) (got : G → ℕ → ℕ → Option Entries) (about_mates : G → ℕ → About Entries) (due : G → ℕ → Bool)
    (before now : PlainWorker Q T O G) : Type 0 where
  pub gone_on : HasGoneOn request_key reply_key reply_number gossip_key gossip_number in_key complete senders received about replied
      all_told mates got about_mates before now
  pub gossip_stand : AllStand (about_mates before.ends.gossip_in) (about_mates now.ends.gossip_in)
  pub left : requests_left (λ its. senders (request_key its)) received about now ≤ requests_left (λ its. senders (request_key its)) received about before
  pub to_serve : left_to_serve (λ its. senders (request_key its)) received about now ≤ left_to_serve (λ its. senders (request_key its)) received about before
  pub owes : requests_left (λ its. senders (request_key its)) received about before ≡ 0
      → Owes (map told before.ends.gossip_out.items) (map told now.ends.gossip_out.items) (dirty before.state) (dirty now.state)
  pub stay_due : StayDue (got before.ends.gossip_in) (got now.ends.gossip_in) (about_mates before.ends.gossip_in) (due before.ends.gossip_in) (due now.ends.gossip_in)

-- by the answer: where a request was worked on,
abbrev pub OnRequest : {E : Type 0} → Result Did E → Type 0 → Type 0
OnRequest (Ok did.Request) holds = holds
OnRequest result holds = ⊤

-- where a batch was joined or went out,
abbrev pub OnBatch : {E : Type 0} → Result Did E → Type 0 → Type 0
OnBatch (Ok did.Gossip) holds = holds
OnBatch (Ok did.Round) holds = holds
OnBatch result holds = ⊤

-- where nothing could be done, and where there is nothing to do
abbrev pub OnBlocked : {E : Type 0} → Result Did E → Type 0 → Type 0
OnBlocked (Ok did.Blocked) holds = holds
OnBlocked result holds = ⊤

abbrev pub OnIdle : {E : Type 0} → Result Did E → Type 0 → Type 0
OnIdle (Ok did.Idle) holds = holds
OnIdle result holds = ⊤

-- fewer keys are left to tell, or to some mate the first batch came back, or neither keys nor senders of gossip changed
abbrev pub KeepsRoom : {Q T O G : Type 0} → (O → Type 0) → Bool → (O → ℕ) → PlainWorker Q T O G → PlainWorker Q T O G → Type 0
KeepsRoom clear roomy unseen before now =
    (dirty now.state + 1 ≤ dirty before.state) ⊎ (SomeBack clear roomy unseen before.ends.gossip_out.items
    ⊎ ((dirty now.state ≡ dirty before.state) × (now.ends.gossip_out ≡ before.ends.gossip_out)))

-- a reply is held, or fewer keys are left to tell, or to some mate the first batch came back
abbrev pub LacksRoom : {Q T O G : Type 0} → (O → Type 0) → Bool → (O → ℕ) → PlainWorker Q T O G → PlainWorker Q T O G → Type 0
LacksRoom clear roomy unseen before now =
    IsTrue (is_some now.state.held) ⊎ ((dirty now.state + 1 ≤ dirty before.state) ⊎ SomeBack clear roomy unseen before.ends.gossip_out.items)

-- what room there is, by the answer
abbrev pub RoomAfter : {Q T O G E : Type 0} → (O → Type 0) → Bool → (O → ℕ) → Result Did E → PlainWorker Q T O G → PlainWorker Q T O G → Type 0
RoomAfter clear roomy unseen (Ok did.Request) before now = KeepsRoom clear roomy unseen before now
RoomAfter clear roomy unseen (Ok did.Gossip) before now = KeepsRoom clear roomy unseen before now
RoomAfter clear roomy unseen (Ok did.Round) before now = KeepsRoom clear roomy unseen before now
RoomAfter clear roomy unseen (Ok did.Blocked) before now = LacksRoom clear roomy unseen before now
RoomAfter clear roomy unseen result before now = ⊤
