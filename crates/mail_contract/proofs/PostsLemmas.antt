-- One of several senders sends.
use Rattle.std.proofs.Common.{arith, ◌≡◌, ◌≢◌, ℕ, zero, suc, ◌+◌, ◌<◌, ◌≤◌, List, [], ◌∷◌, ◌++◌, map, length, get_or, set, sym, subst, ◌∙◌, ap, refl, min, Some, Result, Ok, Err}
use Rattle.std.proofs.lemmas.List.{map-set, get_or-map, get_or-set_same, get_or-set_other, length-map}
use Rattle.std.specs.List.{slice_get}
use Rattle.std.proofs.Math.Seq.{map-set_same}
use Rattle.std.proofs.lemmas.Option.{get_or_from_slice_get}
use Rattle.lattice_laws.specs.Counts.{one_more}
use Rattle.mail_contract.specs.Sends.{FullsAfter, NotFull, OnFull, OnRefused, OnSent, Posted, Sent}
use Rattle.mail_contract.specs.declared.Refused.{Refused}
use Rattle.mail_contract.specs.declared.Refused.TheVariants.{NoMemory, Full}

-- what each sender sent, after a send by one
pub posted : {T M U : Type 0} (sent : T → List M) (senders : List T) (place : ℕ) (before now : T) (result : Result U (Refused M)) (message : M)
    → place < length senders → before ≡ get_or senders place before → Sent result message (sent before) (sent now)
    → Posted result message place (map sent senders) (map sent (set senders place now))
posted sent senders place before now (Ok done) message low at is =
    map-set sent senders place now ∙ ap (set (map sent senders) place) (is ∙ ap (λ messages. messages ++ message ∷ []) (sym (get_or-map sent senders place before [] low ∙ ap sent (sym at))))
posted sent senders place before now (Err (NoMemory back)) message low at is = (is.0, map-set_same sent senders place now before (is.1 ∙ ap sent at))
posted sent senders place before now (Err (Full back)) message low at is = (is.0, map-set_same sent senders place now before (is.1 ∙ ap sent at))

-- how often each sender wanted for a place, after a send by one
pub fulls_after : {T M U : Type 0} (fulls : T → ℕ) (senders : List T) (place : ℕ) (before now : T) (result : Result U (Refused M))
    → place < length senders → before ≡ get_or senders place before
    → OnFull result ((fulls before ≤ fulls now) × (fulls now ≡ one_more (fulls before))) → NotFull result (fulls now ≡ fulls before)
    → FullsAfter result place (map fulls senders) (map fulls (set senders place now))
fulls_after fulls senders place before now (Ok done) low at rose still = map-set_same fulls senders place now before (still ∙ ap fulls at)
fulls_after fulls senders place before now (Err (NoMemory back)) low at rose still = map-set_same fulls senders place now before (still ∙ ap fulls at)
fulls_after fulls senders place before now (Err (Full back)) low at rose still =
    let was : get_or (map fulls senders) place 0 ≡ fulls before = get_or-map fulls senders place before 0 low ∙ ap fulls (sym at) in
    let sets = map-set fulls senders place now in
    let is : get_or (map fulls (set senders place now)) place 0 ≡ fulls now = ap (λ list. get_or list place 0) sets ∙ get_or-set_same (map fulls senders) place (fulls now) 0 (rw length-map low) in (
      rw (was, is) rose.0,
      is ∙ rose.1 ∙ ap one_more (sym was),
      λ other differs. ap (λ list. get_or list other 0) sets ∙ get_or-set_other (map fulls senders) place other (fulls now) 0 differs,
    )

-- a sender elsewhere stays as it was
pub stays_elsewhere : {T : Type 0} (senders : List T) (place other : ℕ) (now : T)
    → other ≢ place → slice_get (set senders place now) other ≡ slice_get senders other
stays_elsewhere [] place other now apart = refl
stays_elsewhere (first ∷ senders) zero zero now apart = absurd (apart refl)
stays_elsewhere (first ∷ senders) zero (suc other) now apart = refl
stays_elsewhere (first ∷ senders) (suc place) zero now apart = refl
stays_elsewhere (first ∷ senders) (suc place) (suc other) now apart = stays_elsewhere senders place other now (λ same. apart (ap suc same))

-- the one at its place is the one that was set there
set_there : {T : Type 0} (senders : List T) (place : ℕ) (now found : T) → place < length senders → slice_get (set senders place now) place ≡ Some found → now ≡ found
set_there [] place now found low there = absurd (omega (arith, low))
set_there (first ∷ senders) zero now found low there = cc
set_there (first ∷ senders) (suc place) now found low there = set_there senders place now found (omega (arith, low)) there

-- after a refusal as many of the messages of each sender may take up a place as before
pub still_unseen_after : {T M U : Type 0} (unseen : T → ℕ) (senders : List T) (place : ℕ) (before now : T) (result : Result U (Refused M))
    → before ≡ get_or senders place before → OnRefused result (unseen now ≡ unseen before)
    → OnRefused result (map unseen (set senders place now) ≡ map unseen senders)
still_unseen_after unseen senders place before now (Ok done) at same = tt
still_unseen_after unseen senders place before now (Err refused) at same = map-set_same unseen senders place now before (same ∙ ap unseen at)

-- and a sender that found a place still does
pub still_clear_after : {T M U : Type 0} (clear : T → Type 0) (senders : List T) (place : ℕ) (before now : T) (result : Result U (Refused M))
    → place < length senders → before ≡ get_or senders place before → OnRefused result (clear before → clear now)
    → OnRefused result ((was is : T) → slice_get senders place ≡ Some was → slice_get (set senders place now) place ≡ Some is → clear was → clear is)
still_clear_after clear senders place before now (Ok done) low at stays = tt
still_clear_after clear senders place before now (Err refused) low at stays = λ was is there there_now was_clear.
    subst clear (set_there senders place now is low there_now) (stays (subst clear (sym (at ∙ get_or_from_slice_get senders place was before there)) was_clear))

-- where a message came back for want of a place its sender was not clear
pub not_clear_after : {T M U : Type 0} (clear : T → Type 0) (senders : List T) (place : ℕ) (before : T) (result : Result U (Refused M))
    → before ≡ get_or senders place before → OnFull result (clear before → ⊥)
    → OnFull result ((sender : T) → slice_get senders place ≡ Some sender → clear sender → ⊥)
not_clear_after clear senders place before (Ok done) at refused = tt
not_clear_after clear senders place before (Err (NoMemory back)) at refused = tt
not_clear_after clear senders place before (Err (Full back)) at refused = λ sender there is_clear.
    refused (subst clear (sym (at ∙ get_or_from_slice_get senders place sender before there)) is_clear)

module _ {T M U : Type 0} (unseen : T → ℕ) (senders : List T) (place : ℕ) (before : T) (result : Result U (Refused M))
    (low : place < length senders) (at : before ≡ get_or senders place before) where
  -- the count of the sender at the place
  counted_there : get_or (map unseen senders) place 0 ≡ unseen before
  counted_there = get_or-map unseen senders place before 0 low ∙ ap unseen (sym at)

  -- where one came back 64 messages or more might take up a place
  pub no_room_after : {roomy : Type 0} → (roomy → OnFull result (64 ≤ unseen before))
      → roomy → OnFull result (64 ≤ get_or (map unseen senders) place 0)
  no_room_after refused is_roomy = subst (λ count. OnFull result (64 ≤ count)) (sym counted_there) (refused is_roomy)

  -- once one is sent one more may
  pub unseen_after : {roomy : Type 0} (now : T) → (roomy → OnSent result (unseen now ≡ min 64 (unseen before + 1)))
      → roomy → OnSent result (get_or (map unseen (set senders place now)) place 0 ≡ min 64 (get_or (map unseen senders) place 0 + 1))
  unseen_after now sent is_roomy =
      let is : get_or (map unseen (set senders place now)) place 0 ≡ unseen now =
      ap (λ list. get_or list place 0) (map-set unseen senders place now) ∙ get_or-set_same (map unseen senders) place (unseen now) 0 (rw length-map low)
      in
      subst (λ (T : Type 0). T) (λ j. OnSent result (sym is j ≡ min 64 (sym counted_there j + 1))) (sent is_roomy)
