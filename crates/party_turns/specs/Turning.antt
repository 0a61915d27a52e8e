-- What it changes of a worker to be turned until nothing is left to do.
use Rattle.std.specs.Prelude.{◌≡◌, ◌⊎◌, ℕ, ◌+◌, ◌-◌, ◌≤◌, Bool, false, IsTrue, List, [], ◌∷◌, ◌++◌, All, length, map, slice_get, slice_index_or, sum_by, Option, Some, None, IfSome, ⊤}
use Rattle.std.specs.List.{range_with_len}
use Rattle.mail_contract.specs.Boxes.{Box, FindsNothing}
use Rattle.mail_contract.specs.Got.{IsOfSent, missing}
use Rattle.mail_contract.specs.Parts.{Parts}
use Rattle.mail_contract.specs.Standing.{About, AllStand, Apart, OnShown, Settled, Shown, Standing}
use Rattle.mail_contract.specs.Takes.{IsFrontOfSent, from_sender}
use Rattle.placement.specs.Config.{IsOneOf}
use Rattle.store_msg.specs.Reply.{PlainReply}
use Rattle.store_msg.specs.declared.request.Request.{Request}
use Rattle.worker_core.specs.Batches.{RoomAt}
use Rattle.worker_core.specs.Serving.{NoneTakenBack}
use Rattle.worker_core.specs.State.{Entries, IsFixed, KeysStay, PlainWorker, dirty, kept_request}

-- what a box knows that a sender sent: all that a settled one sent, and what a shown one had sent
abbrev pub known_sent : {M : Type 0} → Standing M → List M
known_sent Apart = []
known_sent (Shown sent) = sent
known_sent (Settled sent) = sent

-- it tells that this was sent: a complete box of those that it shows too
abbrev pub IsKnown : {M : Type 0} → Bool → Standing M → Type 0
IsKnown complete Apart = ⊥
IsKnown complete (Shown sent) = IsTrue complete
IsKnown complete (Settled sent) = ⊤

-- how many messages that are known to be sent by so many senders a box has not handed out
abbrev pub not_taken : {M : Type 0} → ℕ → List (ℕ × M) → (ℕ → About M) → ℕ
not_taken senders received about = sum_by (λ sender. length (known_sent (about sender).standing) - length (from_sender sender received)) (range_with_len 1 senders)

-- of each of so many senders it is known what it sent, and what was received of it is a front of that
abbrev pub AreKnown : {M : Type 0} → Bool → ℕ → List (ℕ × M) → (ℕ → About M) → Type 0
AreKnown complete senders received about =
    (sender : ℕ) → IsOneOf senders sender → IsKnown complete (about sender).standing × IsFrontOfSent complete received about sender

-- Of each sender by itself: what was received of it stays a front of what it sent, so far as the box tells that.
abbrev pub FrontsStay : {M : Type 0} → Bool → List (ℕ × M) → (ℕ → About M) → List (ℕ × M) → (ℕ → About M) → Type 0
FrontsStay complete received about received_now about_now =
    (sender : ℕ) → IsFrontOfSent complete received about sender → IsFrontOfSent complete received_now about_now sender

-- what was received is of so many senders
abbrev pub AreInRange : {M : Type 0} → ℕ → List (ℕ × M) → Type 0
AreInRange senders received = All (λ message. IsOneOf senders message.0) received

-- what was handed out is of so many senders
abbrev pub AreGotInRange : {M : Type 0} → ℕ → (ℕ → ℕ → Option M) → Type 0
AreGotInRange {M} senders got = (sender place : ℕ) (message : M) → got sender place ≡ Some message → IsOneOf senders sender

-- Of how many batches a worker told its mates, and how many keys it has to tell them: each was told no fewer, and each batch that went out left a key
-- less to tell at least.
pub record Owes (told told_now : List (List Entries)) (keys keys_now : ℕ) : Type 0 where
  pub long : length told_now ≡ length told
  pub more : (place : ℕ) → length (slice_index_or told place []) ≤ length (slice_index_or told_now place [])
  pub at_most : keys_now + sum_by length told_now ≤ keys + sum_by length told

-- Of each sender that was shown and due, no message is missing any longer, or fewer are.
abbrev pub HearsDue : (got got_now : ℕ → ℕ → Option Entries) → (ℕ → About Entries) → (ℕ → Bool) → Type 0
HearsDue got got_now about due =
    (sender : ℕ) → IsTrue (due sender)
    → OnShown (about sender).standing (λ sent. (missing (got_now sender) sent ≡ 0) ⊎ (missing (got_now sender) sent + 1 ≤ missing (got sender) sent))

-- What a worker keeps while it takes turns, and while it is shown to its mates between them: what never changes, what it received and
-- replied, and what its boxes told of their senders.
pub record HasGoneOn {Q T O G QK TK OK GK : Type 0} (request_key : Q → QK) (reply_key : T → TK) (reply_number : T → ℕ) (gossip_key : O → OK) (gossip_number : O → ℕ) (in_key : G → GK)
    (complete : Bool) (senders : QK → ℕ) (received : Q → List (ℕ × Request)) (about : Q → ℕ → About Request) (replied : T → List PlainReply)
    (all_told : Bool) (mates : GK → ℕ) (got : G → ℕ → ℕ → Option Entries) (about_mates : G → ℕ → About Entries) (before now : PlainWorker Q T O G) : Type 0 where
  pub fixed : IsFixed before.state now.state
  pub keys : KeysStay request_key reply_key reply_number gossip_key gossip_number in_key before now
  pub replied_more : NoneTakenBack (map replied before.ends.replies.items) (map replied now.ends.replies.items)
  pub more : List (ℕ × Request)
  pub received_is : received now.ends.requests ≡ received before.ends.requests ++ more
  pub in_range : AreInRange (senders (request_key before.ends.requests)) (received before.ends.requests) → AreInRange (senders (request_key now.ends.requests)) (received now.ends.requests)
  pub stand : AllStand (about before.ends.requests) (about now.ends.requests)
  pub fronts : FrontsStay complete (received before.ends.requests) (about before.ends.requests) (received now.ends.requests) (about now.ends.requests)
  pub got_more : (sender place : ℕ) (batch : Entries) → got before.ends.gossip_in sender place ≡ Some batch → got now.ends.gossip_in sender place ≡ Some batch
  pub got_in_range : AreGotInRange (mates (in_key before.ends.gossip_in)) (got before.ends.gossip_in) → AreGotInRange (mates (in_key now.ends.gossip_in)) (got now.ends.gossip_in)
  pub of_sent : (sender : ℕ) → IsOfSent all_told (got before.ends.gossip_in) (about_mates before.ends.gossip_in) sender
      → IsOfSent all_told (got now.ends.gossip_in) (about_mates now.ends.gossip_in) sender

-- the requests that are left to a worker: those that its box has not handed out, and the one that it kept
abbrev pub requests_left : {Q T O G : Type 0} → (Q → ℕ) → (Q → List (ℕ × Request)) → (Q → ℕ → About Request) → PlainWorker Q T O G → ℕ
requests_left senders received about worker =
    not_taken (senders worker.ends.requests) (received worker.ends.requests) (about worker.ends.requests) + length (kept_request worker.state.kept)

-- to some mate the first batch came back
abbrev pub SomeBack : {O : Type 0} → (O → Type 0) → Bool → (O → ℕ) → List O → Type 0
SomeBack clear roomy unseen senders = (place : ℕ) × (tries : List Bool) × (place_is : place + 1 ≤ length senders) × RoomAt clear roomy unseen senders place (false ∷ tries)

-- Where a reply is held, the sender to its session found no place for the next one at first, or has sent one since.
abbrev pub HasSentSince : {T M R : Type 0} → (T → Type 0) → (T → List M) → List T → List T → Option (ℕ × R) → Type 0
HasSentSince {T} clear sent before now held =
    IfSome held (λ held. (was is : T) → slice_get before (held.0 - 1) ≡ Some was → slice_get now (held.0 - 1) ≡ Some is → clear was
    → length (sent was) + 1 ≤ length (sent is))

-- Nothing is left to a worker: no request, no reply, and no key to tell.
pub record IsDone {Q T O G : Type 0} (keeps : Parts) (box : Q → Box Request) (worker : PlainWorker Q T O G) : Type 0 where
  pub none_left : dirty worker.state ≡ 0
  pub none_held : worker.state.held ≡ None
  pub none_kept : worker.state.kept ≡ None
  pub no_request : FindsNothing keeps (box worker.ends.requests)
