-- What a worker has served through several turns, and what room its senders of replies have.
use Rattle.std.specs.Prelude.{◌≡◌, ℕ, ◌-◌, ◌≤◌, List, [], length, map, slice_get, slice_index_or, Option, Some, None, Ok}
use Rattle.std.proofs.Common.{◌∙◌, arith, inl, inr, refl, sym, ap, subst}
use Rattle.std.proofs.lemmas.List.{length-map}
use Rattle.std.proofs.lemmas.Option.{get_or_from_slice_get, same_Some}
use Rattle.lattice_laws.specs.declared.lattice.NoMemory.{NoMemory}
use Rattle.mail_contract.proofs.FrontLemmas.{front_short}
use Rattle.mail_contract.specs.Takes.{IsFront}
use Rattle.store_msg.specs.Reply.{PlainReply}
use Rattle.store_msg.specs.declared.request.Request.{Request}
use Rattle.worker_core.proofs.ServingLemmas.{none_back_still, none_back_through}
use Rattle.worker_core.specs.Room.{StayClear, WantsPlace}
use Rattle.worker_core.specs.Serving.{NoneTakenBack}
use Rattle.worker_core.specs.State.{Entries, Lists, PlainWorker, lists_of}
use Rattle.worker_core.specs.Turns.{OnNothing}
use Rattle.worker_core.specs.declared.did.Did.{Did}
use Rattle.worker_core.specs.declared.did.Did.TheVariants as did
use Rattle.run_measure.proofs.ServedLemmas.{served_still, served_through}
use Rattle.run_measure.specs.Steps.{HasServed}
use Rattle.party_turns.proofs.ItemsLemmas.{mapped, there_too}
use Rattle.party_turns.specs.Turning.{HasSentSince}

-- a sender that takes nothing back has sent no less
module _ {T M : Type 0} (sent : T → List M) (before now : List T) (none_back : (place : ℕ) → IsFront (slice_index_or (map sent before) place []) (slice_index_or (map sent now) place [])) where
  no_less : (place : ℕ) (was is : T) → slice_get before place ≡ Some was → slice_get now place ≡ Some is → length (sent was) ≤ length (sent is)
  no_less place was is there here =
      let at_first = ap length (get_or_from_slice_get (map sent before) place (sent was) [] (mapped sent before place was there)) in
      let at_last = ap length (get_or_from_slice_get (map sent now) place (sent is) [] (mapped sent now place is here)) in
      omega (arith, front_short (slice_index_or (map sent before) place []) (slice_index_or (map sent now) place []) (none_back place), at_first, at_last)

module _ {Q T O G : Type 0} (received : Q → List (ℕ × Request)) (replied : T → List PlainReply) (told : O → List Entries) (got : G → ℕ → ℕ → Option Entries) (clear : T → Type 0) where
  abbrev lists : PlainWorker Q T O G → Lists
  lists = lists_of received replied told got

  -- A worker serves on: it replied no more than it took, and it took none back, and each sender of replies that found a place for the
  -- next still does, or has sent one.
  pub record ServesOn (before now : PlainWorker Q T O G) : Type 0 where
    pub as_many : length now.ends.replies.items ≡ length before.ends.replies.items
    pub served : before.state.kept ≡ None → HasServed (lists before) (lists now)
    pub none_back : NoneTakenBack (map replied before.ends.replies.items) (map replied now.ends.replies.items)
    pub stays : StayClear clear replied before.ends.replies.items now.ends.replies.items

  -- one that took no turn does
  pub serves_still : (worker : PlainWorker Q T O G) → ServesOn worker worker
  serves_still worker = record {
    as_many = refl;
    served = λ none_kept. served_still (lists worker) none_kept;
    none_back = none_back_still (map replied worker.ends.replies.items);
    stays = λ place was is there here is_clear. inl (subst clear (same_Some was is (sym there ∙ here)) is_clear);
  }

  module _ (before between now : PlainWorker Q T O G) (so_far : ServesOn before between) (as_many : length now.ends.replies.items ≡ length between.ends.replies.items)
      (none_back : NoneTakenBack (map replied between.ends.replies.items) (map replied now.ends.replies.items)) where
    -- and so does one that took some and one more
    pub serves_through : (between.state.kept ≡ None → HasServed (lists between) (lists now)) → StayClear clear replied between.ends.replies.items now.ends.replies.items → ServesOn before now
    serves_through served clear_on = record {
      as_many = as_many ∙ so_far.as_many;
      served = λ none_kept.
          let first = so_far.served none_kept in
          let long = length-map between.ends.replies.items replied ∙ so_far.as_many ∙ sym (length-map before.ends.replies.items replied) in
          served_through (lists before) (lists between) (lists now) long first (served first.kept);
      none_back =
          none_back_through (map replied before.ends.replies.items) (map replied between.ends.replies.items) (map replied now.ends.replies.items) so_far.none_back none_back;
      stays = λ place was is there here is_clear.
          let mid = there_too between.ends.replies.items now.ends.replies.items place is as_many here in
          elim (so_far.stays place was mid.0 there mid.1 is_clear) [
            | inl still ↦
                elim (clear_on place mid.0 is mid.1 here still) [
                  | inl still ↦ inl still
                  | inr more ↦
                      let first = no_less replied before.ends.replies.items between.ends.replies.items so_far.none_back place was mid.0 there mid.1 in
                      inr (omega (arith, first, more))
                ]
            | inr more ↦ let then = no_less replied between.ends.replies.items now.ends.replies.items none_back place mid.0 is mid.1 here in inr (omega (arith, more, then))
          ];
    }

    -- where a reply is held after the last turn and its sender had no place before it, or has sent one in it, so it is since the first
    pub sent_since : (held : Option (ℕ × PlainReply)) → HasSentSince clear replied between.ends.replies.items now.ends.replies.items held
        → HasSentSince clear replied before.ends.replies.items now.ends.replies.items held
    sent_since None since = tt
    sent_since (Some held) since = λ was is there here is_clear.
        let mid = there_too between.ends.replies.items now.ends.replies.items (held.0 - 1) is as_many here in
        let first = no_less replied before.ends.replies.items between.ends.replies.items so_far.none_back (held.0 - 1) was mid.0 there mid.1 in
        elim (so_far.stays (held.0 - 1) was mid.0 there mid.1 is_clear) [
          | inl still ↦ let sent = since mid.0 is mid.1 here still in omega (arith, first, sent)
          | inr more ↦ let then = no_less replied between.ends.replies.items now.ends.replies.items none_back (held.0 - 1) mid.0 is mid.1 here in omega (arith, more, then)
        ]

-- a sender that had no place needs not have sent one
pub wants_sent : {T M R : Type 0} (clear : T → Type 0) (sent : T → List M) (before now : List T) (held : Option (ℕ × R)) → WantsPlace clear before held → HasSentSince clear sent before now held
wants_sent clear sent before now None wants = tt
wants_sent clear sent before now (Some held) wants = λ was is there here is_clear. absurd (wants was there is_clear)

-- what follows where there is nothing to do follows from what holds there
pub on_nothing : {X Y : Type 0} (its : Did) → (X → Y) → OnNothing {E = NoMemory} (Ok its) X → OnNothing {E = NoMemory} (Ok its) Y
on_nothing did.Request then holds = tt
on_nothing did.Gossip then holds = tt
on_nothing did.Round then holds = tt
on_nothing did.Blocked then holds = then holds
on_nothing did.Idle then holds = then holds

pub at_blocked : {X : Type 0} {its : Did} → its ≡ did.Blocked → OnNothing {E = NoMemory} (Ok its) X → X
at_blocked {X} is holds = subst (λ (its : Did). OnNothing {E = NoMemory} (Ok its) X) is holds

pub at_idle : {X : Type 0} {its : Did} → its ≡ did.Idle → OnNothing {E = NoMemory} (Ok its) X → X
at_idle {X} is holds = subst (λ (its : Did). OnNothing {E = NoMemory} (Ok its) X) is holds
