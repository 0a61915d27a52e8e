-- Two workers, each the only mate of the other.
use Rattle.std.proofs.Common.{◌≡◌, ◌∙◌, ℕ, ◌<◌, ◌-◌, List, [], ◌∷◌, Some, ap, arith, get_or, length, map, sym}
use Rattle.std.specs.List.{slice_get}
use Rattle.std.proofs.lemmas.List.{length-map}
use Rattle.std.proofs.lemmas.Option.{get_or_from_slice_get, slice_get_within}
use Rattle.mail_contract.proofs.MapsLemmas.{at_map}
use Rattle.mail_contract.specs.Lanes.{IsLaneOf}
use Rattle.worker_core.specs.State.{IsFixed, KeysStay, PlainWorker, State}
use Rattle.tests_worker.specs.Desks.{Stays}

-- what no call changes stays through two calls
pub fixed_through : {before between now : State} → IsFixed before between → IsFixed between now → IsFixed before now
fixed_through first then' = record {
  me = then'.me ∙ first.me;
  round = then'.round ∙ first.round;
  placement = then'.placement ∙ first.placement;
  kinds = then'.kinds ∙ first.kinds;
}

-- the keys and numbers of the ends stay through two calls
pub keys_through : {Q T O G QK TK OK GK : Type 0} {requests : Q → QK} {replies : T → TK} {reply_numbers : T → ℕ}
    {gossip_out : O → OK} {gossip_numbers : O → ℕ} {gossip_in : G → GK} {before between now : PlainWorker Q T O G}
    → KeysStay requests replies reply_numbers gossip_out gossip_numbers gossip_in before between
    → KeysStay requests replies reply_numbers gossip_out gossip_numbers gossip_in between now
    → KeysStay requests replies reply_numbers gossip_out gossip_numbers gossip_in before now
keys_through first then' = record {
  requests_key = then'.requests_key ∙ first.requests_key;
  replies_keys = then'.replies_keys ∙ first.replies_keys;
  replies_numbers = then'.replies_numbers ∙ first.replies_numbers;
  gossip_out_keys = then'.gossip_out_keys ∙ first.gossip_out_keys;
  gossip_out_numbers = then'.gossip_out_numbers ∙ first.gossip_out_numbers;
  gossip_in_key = then'.gossip_in_key ∙ first.gossip_in_key;
}

-- so a worker at its desk stays there
pub stays_from : {Q T O G QK TK OK GK : Type 0} {requests : Q → QK} {replies : T → TK} {reply_numbers : T → ℕ}
    {gossip_out : O → OK} {gossip_numbers : O → ℕ} {gossip_in : G → GK} {before now : PlainWorker Q T O G}
    → IsFixed before.state now.state
    → KeysStay requests replies reply_numbers gossip_out gossip_numbers gossip_in before now
    → Stays before now
stays_from {replies = replies} {gossip_out = gossip_out} {before = before} {now = now} fixed keys = record {
  me = fixed.me;
  sessions = sym (length-map now.ends.replies.items replies) ∙ ap length keys.replies_keys ∙ length-map before.ends.replies.items replies;
  mates = sym (length-map now.ends.gossip_out.items gossip_out) ∙ ap length keys.gossip_out_keys ∙ length-map before.ends.gossip_out.items gossip_out;
}

-- an only sender, numbered 1, is of one making with the only lane of a box
pub only_lane : {O K : Type 0} (key : O → K) (number : O → ℕ) (senders : List O) (keys : List K) (place : ℕ) (sender : O)
    → map key senders ≡ keys → map number senders ≡ 1 ∷ [] → slice_get senders place ≡ Some sender
    → IsLaneOf (λ lane tx. tx ≡ lane) keys (key sender) (number sender)
only_lane key number senders keys place sender keyed numbered at =
    let low : place < length senders = slice_get_within senders place sender at in
    let one_sender : length senders ≡ 1 = sym (length-map senders number) ∙ ap length numbered in
    let one_key : length keys ≡ 1 = ap length (sym keyed) ∙ length-map senders key ∙ one_sender in
    let here : sender ≡ get_or senders place sender = sym (get_or_from_slice_get senders place sender sender at) in
    let first : place ≡ 0 = omega (arith, low, one_sender) in
    let one : number sender ≡ 1 =
    sym (at_map number senders place sender 0 low here) ∙ ap (λ l. get_or l place 0) numbered
    ∙ ap (λ (k : ℕ). get_or (1 ∷ []) k 0) first in
    let there : place ≡ number sender - 1 = omega (arith, first, one) in (
      omega (arith, one),
      omega (arith, one, one_key),
      λ lane is. sym (at_map key senders place sender lane low here) ∙ ap (λ l. get_or l place lane) keyed
          ∙ ap (λ (k : ℕ). get_or keys k lane) there ∙ is,
    )
