-- What a worker keeps through several turns: it goes on, and what room there is while no request is left.
use Rattle.std.specs.Prelude.{◌≡◌, ℕ, Bool, List, Option, Ok}
use Rattle.std.proofs.Common.{refl, subst, inr, arith}
use Rattle.lattice_laws.specs.declared.lattice.NoMemory.{NoMemory}
use Rattle.mail_contract.specs.Got.{AreDueHandedOut}
use Rattle.mail_contract.specs.Standing.{About}
use Rattle.store_msg.specs.Reply.{PlainReply}
use Rattle.store_msg.specs.declared.request.Request.{Request}
use Rattle.worker_core.specs.State.{Entries, PlainWorker}
use Rattle.worker_core.specs.declared.did.Did.{Did}
use Rattle.party_turns.specs.Stretch.{GoesOn, KeepsRoom, RoomAfter}
use Rattle.party_turns.specs.Turning.{HearsDue, requests_left}
use Rattle.party_turns.proofs.DueLemmas.{heard_due}
use Rattle.party_turns.proofs.TurningKeysLemmas.{no_more_keys}
use Rattle.party_turns.proofs.TurningLemmas.{goes_on_still, goes_on_through}
use Rattle.party_turns.proofs.TurningRoomLemmas.{room_after_through, room_through}

-- A worker keeps on: it goes on, and where no request was left to it at first its senders of gossip keep room.
pub record KeepsOn {Q T O G QK TK OK GK : Type 0} (request_key : Q → QK) (reply_key : T → TK) (reply_number : T → ℕ)
    (gossip_key : O → OK) (gossip_number : O → ℕ) (in_key : G → GK)
    (complete : Bool) (senders : QK → ℕ) (received : Q → List (ℕ × Request)) (about : Q → ℕ → About Request) (replied : T → List PlainReply)
    (told : O → List Entries) (all_told : Bool) (mates : GK → ℕ) (got : G → ℕ → ℕ → Option Entries) (about_mates : G → ℕ → About Entries) (due : G → ℕ → Bool)
    (clear : O → Type 0) (roomy : Bool) (unseen : O → ℕ) (before now : PlainWorker Q T O G) : Type 0 where
  pub on : GoesOn request_key reply_key reply_number gossip_key gossip_number in_key complete senders received about replied told all_told mates got about_mates due before now
  pub room : requests_left (λ its. senders (request_key its)) received about before ≡ 0 → KeepsRoom clear roomy unseen before now

module _ {Q T O G QK TK OK GK : Type 0} {request_key : Q → QK} {reply_key : T → TK} {reply_number : T → ℕ}
    {gossip_key : O → OK} {gossip_number : O → ℕ} {in_key : G → GK}
    {complete : Bool} {senders : QK → ℕ} {received : Q → List (ℕ × Request)} {about : Q → ℕ → About Request} {replied : T → List PlainReply}
    {told : O → List Entries} {all_told : Bool} {mates : GK → ℕ} {got : G → ℕ → ℕ → Option Entries} {about_mates : G → ℕ → About Entries} {due : G → ℕ → Bool}
    {clear : O → Type 0} {roomy : Bool} {unseen : O → ℕ} where
  -- a worker that nothing changed keeps on
  pub keeps_still : (worker : PlainWorker Q T O G)
      → KeepsOn request_key reply_key reply_number gossip_key gossip_number in_key complete senders received about replied told all_told mates got about_mates due clear roomy unseen worker worker
  keeps_still worker = record { on = goes_on_still worker; room = λ none. inr (inr (refl, refl)) }

  module _ {start before now : PlainWorker Q T O G}
      (so_far : KeepsOn request_key reply_key reply_number gossip_key gossip_number in_key complete senders received about replied told all_told mates got about_mates due clear roomy unseen start before)
      (further : GoesOn request_key reply_key reply_number gossip_key gossip_number in_key complete senders received about replied told all_told mates got about_mates due before now) where
    -- no request is left before the last turns where none was at first
    none_left : requests_left (λ its. senders (request_key its)) received about start ≡ 0 → requests_left (λ its. senders (request_key its)) received about before ≡ 0
    none_left none = let no_more = so_far.on.left in omega (arith, none, no_more)

    -- one that kept on keeps on by one stretch more,
    pub keeps_through : (requests_left (λ its. senders (request_key its)) received about before ≡ 0 → KeepsRoom clear roomy unseen before now)
        → KeepsOn request_key reply_key reply_number gossip_key gossip_number in_key complete senders received about replied told all_told mates got about_mates due clear roomy unseen start now
    keeps_through room = record {
      on = goes_on_through so_far.on further;
      room = λ none.
          room_through clear roomy unseen start before now (no_more_keys (further.owes (none_left none))) (so_far.room none) (room (none_left none));
    }

    -- and after the last turns there is the room that their answer tells
    pub room_at_last : {its answer : Did} → its ≡ answer
        → (requests_left (λ its. senders (request_key its)) received about before ≡ 0 → RoomAfter {E = NoMemory} clear roomy unseen (Ok its) before now)
        → requests_left (λ its. senders (request_key its)) received about start ≡ 0 → RoomAfter {E = NoMemory} clear roomy unseen (Ok answer) start now
    room_at_last {its} is room none =
        subst (λ that. RoomAfter {E = NoMemory} clear roomy unseen (Ok that) start now) is
        (room_after_through clear roomy unseen start before now (no_more_keys (further.owes (none_left none))) (Ok its) (so_far.room none) (room (none_left none)))

    -- and it has heard what was due at first, where no more of that is found
    pub hears_at_last : AreDueHandedOut (got now.ends.gossip_in) (about_mates now.ends.gossip_in) (due now.ends.gossip_in)
        → HearsDue (got start.ends.gossip_in) (got now.ends.gossip_in) (about_mates start.ends.gossip_in) (due start.ends.gossip_in)
    hears_at_last handed_out =
        let goes = goes_on_through so_far.on further in
        heard_due (got start.ends.gossip_in) (got now.ends.gossip_in) (about_mates start.ends.gossip_in) (about_mates now.ends.gossip_in) (due start.ends.gossip_in)
        (due now.ends.gossip_in) goes.gossip_stand goes.stay_due handed_out
