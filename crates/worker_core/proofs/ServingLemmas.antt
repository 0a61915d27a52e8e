-- A request is worked on, and no reply that was sent is taken back.
use Rattle.std.proofs.Common.{◌≡◌, ℕ, ◌<◌, ◌==◌, true, false, if◌then◌else◌, List, [], ◌∷◌, ◌++◌, length, get_or, slice_set, append-nil, sym, ◌∙◌, ap, refl, subst, inl, inr, Option, None, Result, Ok, Err, OnOk}
use Rattle.std.proofs.lemmas.Bool.{cases_eq, cases_lt}
use Rattle.std.proofs.lemmas.List.{get_or-set_other, get_or-set_same, set_past}
use Rattle.composed_value.specs.declared.put.Put.{Put}
use Rattle.mail_contract.proofs.FrontLemmas.{front_more, front_same, front_through, front_whole}
use Rattle.mail_contract.specs.Sends.{Posted}
use Rattle.mail_contract.specs.Takes.{IsFront}
use Rattle.mail_contract.specs.declared.Refused.{Refused}
use Rattle.mail_contract.specs.declared.Refused.TheVariants.{NoMemory, Full}
use Rattle.merge_world.specs.Effects.{takes}
use Rattle.merge_world.specs.declared.private_map.KeyCells.{KeyCells}
use Rattle.store_msg.specs.Reply.{PlainReply}
use Rattle.store_msg.specs.declared.request.Request.TheVariants as requests
use Rattle.worker_core.specs.Serving.{AddsReplies, NoneTakenBack, Worked}
use Rattle.worker_core.specs.Share.{IsHeldFor, owed_to}
use Rattle.worker_core.specs.State.{State}
use Rattle.worker_core.specs.Turns.{marked_at, reply_from}

-- a list of each that goes on is one that nothing is taken back of: so is one that stays,
pub none_back_still : (lists : List (List PlainReply)) → NoneTakenBack lists lists
none_back_still lists place = front_whole (get_or lists place [])

pub none_back_same : {before now : List (List PlainReply)} → now ≡ before → NoneTakenBack before now
none_back_same {before} same = subst (NoneTakenBack before) (sym same) (none_back_still before)

-- one that goes on twice,
pub none_back_through : (before between now : List (List PlainReply)) → NoneTakenBack before between → NoneTakenBack between now → NoneTakenBack before now
none_back_through before between now first next place =
    front_through (get_or before place []) (get_or between place []) (get_or now place []) (first place) (next place)

-- and one of which a sender sent a reply, or none
pub none_back_posted : {U : Type 0} (result : Result U (Refused PlainReply)) (reply : PlainReply) (place : ℕ) (before now : List (List PlainReply))
    → Posted result reply place before now → NoneTakenBack before now
none_back_posted (Ok done) reply place before now posted at = subst (λ those. IsFront (get_or before at []) (get_or those at [])) (sym posted) (elim (cases_eq at place) [
  | inr apart ↦ front_same (get_or-set_other before place at _ [] apart)
  | inl same ↦ elim (cases_lt place (length before)) [
    | inl low ↦
        subst (λ n. IsFront (get_or before n []) (get_or (slice_set before place (get_or before place [] ++ reply ∷ [])) n [])) (sym same)
        (front_more (reply ∷ []) (get_or-set_same before place _ [] low))
    | inr past ↦ front_same (ap (λ those. get_or those at []) (set_past before place _ past))
  ]
])
none_back_posted (Err (Full back)) reply place before now posted at = none_back_same posted.1 at
none_back_posted (Err (NoMemory back)) reply place before now posted at = none_back_same posted.1 at

-- no reply is added where a request wants none
none_added : (session : ℕ) (replied : List (List PlainReply)) (held : Option (ℕ × PlainReply)) → AddsReplies session [] replied held replied held
none_added session replied held to from_one to_last =
    let owed = owed_to replied held to in
    elim (session == to) as (λ is. owed ≡ owed ++ (if is then [] else [])) [ true ↦ sym (append-nil owed) | false ↦ sym (append-nil owed) ]

-- a put is worked on
pub worked_put : {U E : Type 0} (result : Result U E) (session key : ℕ) (put : Put) (before : State) (cells : List (Option KeyCells)) (changed : List (List ℕ)) (replied : List (List PlainReply))
    → before.kept ≡ None → before.held ≡ None → length changed ≡ length before.changed
    → OnOk result (cells ≡ takes key put before.cells)
    → OnOk result ((place : ℕ) → place < length before.changed → get_or changed place [] ≡ marked_at before.placement before.me before.cells (requests.Put key put) before.changed place)
    → OnOk result (Worked session (requests.Put key put) before (record before { cells = cells; changed = changed }) replied replied)
worked_put (Ok done) session key put before cells changed replied none_kept none_held long is_cells is_changed = record {
  cells = is_cells;
  changed = is_changed;
  mates = long;
  replies = none_added session replied before.held;
  held = rw none_held tt;
  rest = λ j. record before { cells = cells; changed = changed; kept = none_kept j };
}
worked_put (Err error) session key put before cells changed replied none_kept none_held long is_cells is_changed = tt

-- a get is worked on
pub worked_get : {U E : Type 0} (result : Result U E) (session ask key : ℕ) (required : List (ℕ × ℕ)) (before : State) (reply : PlainReply) (held : Option (ℕ × PlainReply)) (replied replied_now : List (List PlainReply))
    → before.kept ≡ None → reply ∷ [] ≡ reply_from before.me before.cells (requests.Get ask key required)
    → OnOk result (AddsReplies session (reply ∷ []) replied before.held replied_now held) → IsHeldFor (length replied) held
    → OnOk result (Worked session (requests.Get ask key required) before (record before { held = held }) replied replied_now)
worked_get (Ok done) session ask key required before reply held replied replied_now none_kept is adds is_held = record {
  cells = refl;
  changed = λ place low. refl;
  mates = refl;
  replies = λ to from_one to_last. adds to from_one to_last ∙ ap (λ replies. owed_to replied before.held to ++ (if session == to then replies else [])) is;
  held = is_held;
  rest = λ j. record before { kept = none_kept j; held = held };
}
worked_get (Err error) session ask key required before reply held replied replied_now none_kept is adds is_held = tt
