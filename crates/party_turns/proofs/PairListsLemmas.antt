-- Items of a list at their places, and two of them that change.
use Rattle.std.specs.Prelude.{◌≡◌, ◌≢◌, ℕ, suc, ◌-◌, ◌<◌, List, [], ◌∷◌, ◌++◌, drop, length, map, option_map, slice_get, slice_index_or, slice_set, take, Some}
use Rattle.std.proofs.Common.{◌∙◌, refl, sym, ap, arith, inl, inr, subst}
use Rattle.std.proofs.Math.Seq.{take-append_seam}
use Rattle.std.proofs.lemmas.Bool.{cases_eq}
use Rattle.std.proofs.lemmas.List.{get_or-append_right, get_or_append_left, length-set, set-append_left, set-append_right}
use Rattle.std.proofs.lemmas.Option.{none-some, same_Some, slice_get-get_or, slice_get-map}
use Rattle.mail_contract.proofs.PostsLemmas.{stays_elsewhere}
use Rattle.party_turns.proofs.PlacesLemmas.{now_there}

-- what is told of an item stays where it stays at the item's place
pub still_at : {X Y : Type 0} (f : X → Y) (before now : List X) (place : ℕ) (was is : X) → slice_get (map f now) place ≡ slice_get (map f before) place → slice_get before place ≡ Some was
    → slice_get now place ≡ Some is → f is ≡ f was
still_at f before now place was is same was_there is_there =
    same_Some (f is) (f was) (ap (option_map f) (sym is_there) ∙ sym (slice_get-map f now place) ∙ same ∙ slice_get-map f before place ∙ ap (option_map f) was_there)

-- a slice of all items, put back, is all
pub whole : {X : Type 0} (old now : List X) (n : ℕ) → n ≡ length old → length now ≡ length old → take n (now ++ drop (length now) old) ≡ now
whole old now n many as_many = ap (λ n. take n (now ++ drop (length now) old)) (many ∙ sym as_many) ∙ take-append_seam now (drop (length now) old)

-- lists that have the same at each place are the same
pub same_items : {X : Type 0} (xs ys : List X) → ((at : ℕ) → slice_get xs at ≡ slice_get ys at) → xs ≡ ys
same_items [] [] same = refl
same_items [] (y ∷ ys) same = absurd (none-some y (same 0))
same_items (x ∷ xs) [] same = absurd (none-some x (sym (same 0)))
same_items (x ∷ xs) (y ∷ ys) same =
    let first : x ≡ y = same_Some x y (same 0) in
    let rest : xs ≡ ys = same_items xs ys (λ at. same (suc at)) in
    λ j. first j ∷ rest j

-- what holds of three items holds of those that stand at their places
pub of_those : {X : Type 0} (Holds : X → X → X → Type 0) (items after : List X) (place other : ℕ) (was is mate : X)
    → slice_get items place ≡ Some was → slice_get after place ≡ Some is → slice_get items other ≡ Some mate → Holds was is mate
    → (before now its_mate : X) → slice_get items place ≡ Some before → slice_get after place ≡ Some now → slice_get items other ≡ Some its_mate → Holds before now its_mate
of_those Holds items after place other was is mate was_there is_there mate_there holds before now its_mate before_there now_is its_there =
    subst (λ one. Holds one now its_mate) (same_Some was before (sym was_there ∙ before_there))
    (subst (λ one. Holds was one its_mate) (same_Some is now (sym is_there ∙ now_is))
    (subst (λ one. Holds was is one) (same_Some mate its_mate (sym mate_there ∙ its_there)) holds))

-- Two items of a list change, and all else stays.
pub record BothChange {X : Type 0} (items after : List X) (place other : ℕ) (was is its_was its_is : X) : Type 0 where
  pub was_there : slice_get items place ≡ Some was
  pub is_there : slice_get after place ≡ Some is
  pub its_was_there : slice_get items other ≡ Some its_was
  pub its_is_there : slice_get after other ≡ Some its_is
  pub elsewhere : (at : ℕ) → at ≢ place → at ≢ other → slice_get after at ≡ slice_get items at

module _ {X : Type 0} {items after : List X} {place other : ℕ} {was is its_was its_is : X} (both : BothChange items after place other was is its_was its_is) where
  -- what is the same of both before and after is so of all
  pub same_of_all : {Y : Type 0} (f : X → Y) → f is ≡ f was → f its_is ≡ f its_was → map f after ≡ map f items
  same_of_all f same its_same =
      same_items (map f after) (map f items)
      (λ at. slice_get-map f after at
      ∙ elim (cases_eq at place) [
        | inl here ↦
            ap (λ n. option_map f (slice_get after n)) here ∙ ap (option_map f) both.is_there ∙ ap Some same ∙ ap (option_map f) (sym both.was_there)
            ∙ ap (λ n. option_map f (slice_get items n)) (sym here)
        | inr apart ↦
            elim (cases_eq at other) [
              | inl there ↦
                  ap (λ n. option_map f (slice_get after n)) there ∙ ap (option_map f) both.its_is_there ∙ ap Some its_same ∙ ap (option_map f) (sym both.its_was_there)
                  ∙ ap (λ n. option_map f (slice_get items n)) (sym there)
              | inr its_apart ↦ ap (option_map f) (both.elsewhere at apart its_apart)
            ]
      ]
      ∙ sym (slice_get-map f items at))

module _ {X : Type 0} (items front back : List X) (split : front ++ back ≡ items) (low high : ℕ) (many : length front ≡ high) (below : low < high) (within : high < length items) where
  -- an item of the front stands there in all
  pub front_read : (any : X) → slice_get items low ≡ Some (slice_index_or front low any)
  front_read any =
      let is : slice_index_or items low any ≡ slice_index_or front low any =
      ap (λ all. slice_index_or all low any) (sym split) ∙ get_or_append_left front back any low (omega (arith, many, below)) in
      slice_get-get_or items low any (omega (arith, below, within)) ∙ ap Some is

  -- and so does the first of the back
  pub back_read : (any : X) → slice_get items high ≡ Some (slice_index_or back 0 any)
  back_read any =
      let none : high - length front ≡ 0 = omega (arith, many) in
      let is : slice_index_or items high any ≡ slice_index_or back 0 any =
      ap (λ all. slice_index_or all high any) (sym split) ∙ get_or-append_right front back (length front) high any refl (omega (arith, many)) ∙ ap (λ n. slice_index_or back n any) none in
      slice_get-get_or items high any within ∙ ap Some is

  -- both change
  pub both_change : (any other_any is its_is : X)
      → BothChange items (slice_set front low is ++ slice_set back 0 its_is) low high (slice_index_or front low any) is (slice_index_or back 0 other_any) its_is
  both_change any other_any is its_is =
      let lower : slice_set (front ++ back) low is ≡ slice_set front low is ++ back = set-append_left front back low is (omega (arith, many, below)) in
      let long : length (slice_set front low is) ≡ high = length-set front low is ∙ many in
      let none : high - high ≡ 0 = omega arith in
      let upper : slice_set (slice_set front low is ++ back) high its_is ≡ slice_set front low is ++ slice_set back 0 its_is =
      set-append_right (slice_set front low is) back high high its_is long (omega arith) ∙ ap (λ n. slice_set front low is ++ slice_set back n its_is) none in
      let all : slice_set (slice_set items low is) high its_is ≡ slice_set front low is ++ slice_set back 0 its_is =
      ap (λ all. slice_set (slice_set all low is) high its_is) (sym split) ∙ ap (λ all. slice_set all high its_is) lower ∙ upper in
      let as_long = length-set items low is in
      record {
        was_there = front_read any;
        is_there =
            ap (λ those. slice_get those low) (sym all) ∙ stays_elsewhere (slice_set items low is) high low its_is (λ same. omega (arith, same, below))
            ∙ now_there items low is (omega (arith, below, within));
        its_was_there = back_read other_any;
        its_is_there = ap (λ those. slice_get those high) (sym all) ∙ now_there (slice_set items low is) high its_is (omega (arith, within, as_long));
        elsewhere = λ at apart its_apart.
            ap (λ those. slice_get those at) (sym all) ∙ stays_elsewhere (slice_set items low is) high at its_is its_apart ∙ stays_elsewhere items low at is apart;
      }
