-- The workers of a run, and what they are to each other.
use Rattle.std.specs.Prelude.{◌≡◌, ◌≢◌, ◌⊎◌, ℕ, ◌+◌, ◌<◌, ◌^◌, Bool, IsTrue, List, [], All, length, map, slice_get, slice_index_or, Option, Some}
use Rattle.mail_contract.specs.Got.{AreIn}
use Rattle.mail_contract.specs.Parts.{Parts}
use Rattle.mail_contract.specs.Standing.{About, IsSettled, Learned, Shown, StillAll}
use Rattle.placement.specs.Config.{IsOneOf}
use Rattle.store_msg.specs.Reply.{PlainReply}
use Rattle.store_msg.specs.declared.request.Request.{Request}
use Rattle.worker_core.specs.Room.{LearnsRoomAt}
use Rattle.worker_core.specs.State.{Entries, PlainWorker, State, place_at}
use Rattle.party_turns.specs.Turning.{HasGoneOn}

-- a mate of a worker: another one of so many
abbrev pub IsMate : ℕ → ℕ → ℕ → Type 0
IsMate workers me mate = IsOneOf workers mate × (mate ≢ me)

-- Workers, numbered from 1, that can be held beside each other: each has a sender of gossip for each other one, of its own number, which is of one
-- making with that one's box.
pub record AreMates {Q T O G OK GK : Type 0} (out_key : O → OK) (number : O → ℕ) (in_key : G → GK) (pairs : GK → OK → ℕ → Type 0) (workers : List (PlainWorker Q T O G)) : Type 0 where
  pub few : length workers + 1 < 2 ^ 16
  pub numbered : (place : ℕ) (worker : PlainWorker Q T O G) → slice_get workers place ≡ Some worker → worker.state.me ≡ place + 1
  pub mates : (place : ℕ) (worker : PlainWorker Q T O G) → slice_get workers place ≡ Some worker → length worker.ends.gossip_out.items + 1 ≡ length workers
  pub numbers : (place : ℕ) (worker : PlainWorker Q T O G) → slice_get workers place ≡ Some worker → All (λ sender. number sender ≡ place + 1) worker.ends.gossip_out.items
  pub paired : (place other : ℕ) (worker mate : PlainWorker Q T O G) (sender : O) → slice_get workers place ≡ Some worker → slice_get workers other ≡ Some mate → other ≢ place
      → slice_get worker.ends.gossip_out.items (place_at (place + 1) (other + 1)) ≡ Some sender → pairs (in_key mate.ends.gossip_in) (out_key sender) (number sender)

-- how the box of a worker stands to a sender: as before, or the sender is that of a mate, which was shown and is not settled
abbrev pub StandsOrIsShown : ℕ → ℕ → (ℕ → About Entries) → (ℕ → About Entries) → Type 0
StandsOrIsShown workers me before now =
    (sender : ℕ) → (((now sender).standing ≡ (before sender).standing) × ((now sender).met ≡ (before sender).met)) ⊎ (IsMate workers me sender × (IsSettled (now sender).standing → ⊥))

-- Workers have gone on, each at its place.
pub record HaveGoneOn {Q T O G QK TK OK GK : Type 0} (request_key : Q → QK) (reply_key : T → TK) (reply_number : T → ℕ) (gossip_key : O → OK) (gossip_number : O → ℕ) (in_key : G → GK)
    (complete : Bool) (senders : QK → ℕ) (received : Q → List (ℕ × Request)) (about : Q → ℕ → About Request) (replied : T → List PlainReply)
    (all_told : Bool) (mates : GK → ℕ) (got : G → ℕ → ℕ → Option Entries) (about_mates : G → ℕ → About Entries) (before now : List (PlainWorker Q T O G)) : Type 0 where
  pub long : length now ≡ length before
  pub gone_on : (place : ℕ) (was is : PlainWorker Q T O G) → slice_get before place ≡ Some was → slice_get now place ≡ Some is
      → HasGoneOn request_key reply_key reply_number gossip_key gossip_number in_key complete senders received about replied all_told mates got about_mates was is
  pub gossip_stands : (place : ℕ) (was is : PlainWorker Q T O G) → slice_get before place ≡ Some was → slice_get now place ≡ Some is
      → StandsOrIsShown (length before) (place + 1) (about_mates was.ends.gossip_in) (about_mates is.ends.gossip_in)

-- What holding a worker beside its mates leaves of it as it is: what it keeps, and what went through its ends.
pub record Steady (Q T OK GK : Type 0) : Type 0 where
  pub state : State
  pub requests : Q
  pub replies : List T
  -- the keys and numbers of its senders of gossip, and what each sent
  pub out_keys : List OK
  pub numbers : List ℕ
  pub told : List (List Entries)
  -- the key of its box of gossip, and what that handed out
  pub in_key : GK
  pub got : ℕ → ℕ → Option Entries

abbrev pub steady_of : {Q T O G OK GK : Type 0} → (O → OK) → (O → ℕ) → (O → List Entries) → (G → GK) → (G → ℕ → ℕ → Option Entries) → PlainWorker Q T O G → Steady Q T OK GK
steady_of out_key number told in_key got worker = record {
  state = worker.state;
  requests = worker.ends.requests;
  replies = worker.ends.replies.items;
  out_keys = map out_key worker.ends.gossip_out.items;
  numbers = map number worker.ends.gossip_out.items;
  told = map told worker.ends.gossip_out.items;
  in_key = in_key worker.ends.gossip_in;
  got = got worker.ends.gossip_in;
}

abbrev pub steadies : {Q T O G OK GK : Type 0} → (O → OK) → (O → ℕ) → (O → List Entries) → (G → GK) → (G → ℕ → ℕ → Option Entries) → List (PlainWorker Q T O G)
    → List (Steady Q T OK GK)
steadies out_key number told in_key got workers = map (steady_of out_key number told in_key got) workers

-- what was told by the worker at one place, from what it told each mate, to the one at another
abbrev pub told_at : List (List Entries) → ℕ → ℕ → List Entries
told_at told teller hearer = slice_index_or told (place_at (teller + 1) (hearer + 1)) []

-- What a worker learns where it is held beside a mate, by the places of both; of other mates it learns nothing.
pub record Sees {Q T O G : Type 0} (clear : O → Type 0) (unseen : O → ℕ) (told : O → List Entries) (keeps : Parts) (got : G → ℕ → ℕ → Option Entries) (about : G → ℕ → About Entries)
    (due : G → ℕ → Bool) (place other : ℕ) (before now mate : PlainWorker Q T O G) : Type 0 where
  pub learned : Learned keeps (other + 1) (told_at (map told mate.ends.gossip_out.items) other place) (about before.ends.gossip_in) (about now.ends.gossip_in)
  pub is_due : IsTrue (due now.ends.gossip_in (other + 1))
  pub still_due : StillAll (due before.ends.gossip_in) (due now.ends.gossip_in)
  pub were_sent : IsTrue keeps.complete → AreIn (got before.ends.gossip_in (other + 1)) (told_at (map told mate.ends.gossip_out.items) other place)
  pub room : LearnsRoomAt clear unseen now.ends.gossip_out.items (place_at (place + 1) (other + 1)) keeps (got mate.ends.gossip_in (place + 1))
      (told_at (map told before.ends.gossip_out.items) place other)
  pub senders : (at : ℕ) → at ≢ place_at (place + 1) (other + 1) → slice_get now.ends.gossip_out.items at ≡ slice_get before.ends.gossip_out.items at

-- The workers at two places were held beside each other.
pub record AreShown {Q T O G OK GK : Type 0} (out_key : O → OK) (number : O → ℕ) (told : O → List Entries) (clear : O → Type 0) (unseen : O → ℕ) (in_key : G → GK) (keeps : Parts)
    (got : G → ℕ → ℕ → Option Entries) (about : G → ℕ → About Entries) (due : G → ℕ → Bool) (place other : ℕ) (before now : List (PlainWorker Q T O G)) : Type 0 where
  pub steady : steadies out_key number told in_key got now ≡ steadies out_key number told in_key got before
  pub elsewhere : (at : ℕ) → at ≢ place → at ≢ other → slice_get now at ≡ slice_get before at
  pub sees : (was is mate : PlainWorker Q T O G) → slice_get before place ≡ Some was → slice_get now place ≡ Some is → slice_get before other ≡ Some mate
      → Sees clear unseen told keeps got about due place other was is mate
  pub seen : (was is mate : PlainWorker Q T O G) → slice_get before other ≡ Some was → slice_get now other ≡ Some is → slice_get before place ≡ Some mate
      → Sees clear unseen told keeps got about due other place was is mate

-- What a worker knows of a mate since it was last held beside it, by the places of both, and of what the mate keeps.
pub record Knows {Q T O G OK GK : Type 0} (clear : O → Type 0) (unseen : O → ℕ) (told : O → List Entries) (keeps : Parts) (about : G → ℕ → About Entries)
    (due : G → ℕ → Bool) (place other : ℕ) (now : PlainWorker Q T O G) (mate : Steady Q T OK GK) : Type 0 where
  pub shown : IsTrue keeps.shows → (about now.ends.gossip_in (other + 1)).standing ≡ Shown (told_at mate.told other place)
  pub met : IsTrue (about now.ends.gossip_in (other + 1)).met
  pub is_due : IsTrue (due now.ends.gossip_in (other + 1))
  pub room : LearnsRoomAt clear unseen now.ends.gossip_out.items (place_at (place + 1) (other + 1)) keeps (mate.got (place + 1))
      (told_at (map told now.ends.gossip_out.items) place other)
