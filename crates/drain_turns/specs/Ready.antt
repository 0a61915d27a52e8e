-- The workers of a run, whose sessions have ended, as they take their turns one after another.
use Rattle.std.specs.Prelude.{◌≡◌, ◌≢◌, ◌⊎◌, ℕ, ◌+◌, ◌-◌, ◌*◌, ◌<◌, ◌≤◌, Bool, IsTrue, List, [], flat_map, length, map, option_map, slice_get, slice_index_or, sum_by, unwrap_or, Option, Some, None}
use Rattle.std.specs.List.{range_with_len}
use Rattle.mail_contract.specs.Got.{missing}
use Rattle.mail_contract.specs.Parts.{Parts}
use Rattle.mail_contract.specs.Standing.{About}
use Rattle.placement.specs.Config.{IsOneOf}
use Rattle.store_msg.specs.Reply.{PlainReply}
use Rattle.store_msg.specs.declared.request.Request.{Request}
use Rattle.worker_core.specs.Share.{asked_by}
use Rattle.worker_core.specs.State.{Entries, PlainWorker, dirty, kept_request, mate_at}
use Rattle.party_turns.specs.Turning.{AreKnown, known_sent, not_taken}
use Rattle.party_turns.specs.Mates.{IsMate, AreMates, Steady, told_at}

-- Workers that can be held beside each other and of whose sessions it is known what they sent; and of each sender of a box that is none of a mate it is known how many
-- messages are left.
pub record AreReady {Q T O G OK GK : Type 0} (complete : Bool) (senders : Q → ℕ) (received : Q → List (ℕ × Request)) (about : Q → ℕ → About Request)
    (out_key : O → OK) (number : O → ℕ) (in_key : G → GK) (pairs : GK → OK → ℕ → Type 0) (in_senders : GK → ℕ) (in_about : G → ℕ → About Entries)
    (workers : List (PlainWorker Q T O G)) : Type 0 where
  pub are_mates : AreMates out_key number in_key pairs workers
  pub known : (place : ℕ) (worker : PlainWorker Q T O G) → slice_get workers place ≡ Some worker
      → AreKnown complete (senders worker.ends.requests) (received worker.ends.requests) (about worker.ends.requests)
  pub met : (place : ℕ) (worker : PlainWorker Q T O G) → slice_get workers place ≡ Some worker → (sender : ℕ) → IsOneOf (in_senders (in_key worker.ends.gossip_in)) sender
      → IsMate (length workers) (place + 1) sender ⊎ IsTrue (in_about worker.ends.gossip_in sender).met

-- to each session as many replies were sent as it asked for
abbrev pub AreReplied : {Q T O G : Type 0} → (Q → ℕ → About Request) → (T → List PlainReply) → PlainWorker Q T O G → Type 0
AreReplied about sent worker =
    (session : ℕ) → IsOneOf (length worker.ends.replies.items) session
    → length (flat_map (asked_by []) (known_sent (about worker.ends.requests session).standing)) ≤ length (slice_index_or (map sent worker.ends.replies.items) (session - 1) [])

-- no sender ever wants for a place
abbrev pub NeverFull : (T O : Type 0) → (T → ℕ) → (O → ℕ) → Type 0
NeverFull T O fulls gossip_fulls = ((sender : T) → fulls sender ≡ 0) × ((sender : O) → gossip_fulls sender ≡ 0)

-- a box that shows its senders hands out a message of each of which some are missing, and a sender of which none is finds a place
pub record FreesPlaces (keeps : Parts) : Type 0 where
  pub shows : IsTrue keeps.shows
  pub advances : IsTrue keeps.advances
  pub freed : IsTrue keeps.freed

-- Where senders may want for a place, they find one in the end; and no reply is wanting.
pub record FindPlaces {Q T O G : Type 0} (keeps : Parts) (about : Q → ℕ → About Request) (sent : T → List PlainReply) (senders : Q → ℕ) (workers : List (PlainWorker Q T O G)) : Type 0 where
  pub frees : FreesPlaces keeps
  pub replied : (place : ℕ) (worker : PlainWorker Q T O G) → slice_get workers place ≡ Some worker → AreReplied about sent worker
  pub senders_are : (place : ℕ) (worker : PlainWorker Q T O G) → slice_get workers place ≡ Some worker → (session : ℕ) → IsOneOf (length worker.ends.replies.items) session
      → IsOneOf (senders worker.ends.requests) session

-- the requests that are left to a worker, by what stays of it while it is held beside its mates
abbrev pub left_to : {Q T OK GK : Type 0} → (Q → ℕ) → (Q → List (ℕ × Request)) → (Q → ℕ → About Request) → Steady Q T OK GK → ℕ
left_to senders received about worker = not_taken (senders worker.requests) (received worker.requests) (about worker.requests) + length (kept_request worker.state.kept)

-- no request is left to any worker
abbrev pub HaveNoneLeft : {Q T OK GK : Type 0} → (Q → ℕ) → (Q → List (ℕ × Request)) → (Q → ℕ → About Request) → List (Steady Q T OK GK) → Type 0
HaveNoneLeft {Q} {T} {OK} {GK} senders received about workers =
    (place : ℕ) (worker : Steady Q T OK GK) → slice_get workers place ≡ Some worker → left_to senders received about worker ≡ 0

-- how many keys a worker has to tell, by its place
abbrev pub keys_of : {Q T OK GK : Type 0} → List (Steady Q T OK GK) → ℕ → ℕ
keys_of workers place = unwrap_or (option_map (λ worker. dirty worker.state) (slice_get workers place)) 0

-- what it told each mate
abbrev pub told_by : {Q T OK GK : Type 0} → List (Steady Q T OK GK) → ℕ → List (List Entries)
told_by workers place = unwrap_or (option_map (λ worker. worker.told) (slice_get workers place)) []

-- and what was handed out to it of what another one told it, by the places of both
abbrev pub heard_of : {Q T OK GK : Type 0} → List (Steady Q T OK GK) → ℕ → ℕ → ℕ → Option Entries
heard_of workers hearer teller = unwrap_or (option_map (λ worker. worker.got (teller + 1)) (slice_get workers hearer)) (λ place. None)

-- how many batches are missing of those that a worker told a mate, by its own place and the mate's among its senders, and by the places of both
abbrev pub missing_at : {Q T OK GK : Type 0} → List (Steady Q T OK GK) → ℕ → ℕ → ℕ
missing_at workers teller at = missing (heard_of workers (mate_at (teller + 1) at - 1) teller) (slice_index_or (told_by workers teller) at [])

abbrev pub missing_to : {Q T OK GK : Type 0} → List (Steady Q T OK GK) → ℕ → ℕ → ℕ
missing_to workers teller hearer = missing (heard_of workers hearer teller) (told_at (told_by workers teller) teller hearer)

-- A worker hears another one, by the places of both: nothing is missing any longer of what that one told it, or less is than before.
abbrev pub Hears : {Q T OK GK : Type 0} → ℕ → ℕ → List (Steady Q T OK GK) → List (Steady Q T OK GK) → Type 0
Hears teller hearer before now = (missing_to now teller hearer ≡ 0) ⊎ (missing_to now teller hearer + 1 ≤ missing_to before teller hearer)

-- some mate misses a batch that a worker told it
abbrev pub MatesMiss : {Q T OK GK : Type 0} → ℕ → List (Steady Q T OK GK) → Type 0
MatesMiss place workers = (other : ℕ) × (other < length workers) × (other ≢ place) × (1 ≤ missing_to workers place other)

-- How much of the telling of a worker is left: the batches that are missing, and each key that is left to tell twice, since telling it may make
-- a batch that is missing.
abbrev pub left_to_tell : {Q T OK GK : Type 0} → List (Steady Q T OK GK) → ℕ → ℕ
left_to_tell workers place = 2 * keys_of workers place + sum_by (missing_at workers place) (range_with_len 0 (length (told_by workers place)))

-- and of all workers
abbrev pub left_to_all : {Q T OK GK : Type 0} → List (Steady Q T OK GK) → ℕ
left_to_all workers = sum_by (left_to_tell workers) (range_with_len 0 (length workers))
