-- The items of two lists change, those at one place together; what is left in a row from which the item at a place is taken.
use Rattle.std.specs.Prelude.{◌≡◌, ◌≢◌, ℕ, zero, suc, ◌+◌, ◌-◌, ◌<◌, ◌≤◌, if◌then◌else◌, true, List, [], ◌∷◌, All, slice_get, slice_set, Some}
use Rattle.std.specs.List.{remove}
use Rattle.std.proofs.Common.{◌∙◌, refl, sym, ap, subst, inl, inr, arith, take, drop}
use Rattle.std.proofs.lemmas.Bool.{cases_eq, cases_lt, le-ltb, lt-ltb}
use Rattle.std.proofs.lemmas.List.{length-set}
use Rattle.std.proofs.lemmas.List.Elements.{All-append, All-drop, All-take}
use Rattle.std.proofs.lemmas.Option.{same_Some, slice_get_within}
use Rattle.mail_contract.proofs.PostsLemmas.{stays_elsewhere}
use Rattle.party_turns.specs.Rows.{index_in}
use Rattle.party_turns.proofs.PlacesLemmas.{now_there}
use Rattle.party_ends.specs.Dealt.{AreDoneBefore}

module _ {X Y : Type 0} (Does : ℕ → X → X → Y → Y → Type 0) (xs : List X) (ys : List Y) where
  -- at first nothing is done
  pub none_done : AreDoneBefore Does xs ys 0 xs ys
  none_done = record { xs_long = refl; ys_long = refl; done = λ at x x_now y y_now low. absurd (omega (arith, low)); xs_left = λ at past. refl; ys_left = λ at past. refl }

  -- then at one place more
  pub one_done : (place : ℕ) (xs_now : List X) (ys_now : List Y) (x x_then : X) (y y_then : Y) → slice_get xs_now place ≡ Some x → slice_get ys_now place ≡ Some y → Does place x x_then y y_then
      → AreDoneBefore Does xs ys place xs_now ys_now → AreDoneBefore Does xs ys (place + 1) (slice_set xs_now place x_then) (slice_set ys_now place y_then)
  one_done place xs_now ys_now x x_then y y_then x_there y_there does so_far = record {
    xs_long = length-set xs_now place x_then ∙ so_far.xs_long;
    ys_long = length-set ys_now place y_then ∙ so_far.ys_long;
    done = λ at x_was x_is y_was y_is low x_before x_after y_before y_after. elim (cases_eq at place) [
      | inl same ↦
          let first : x_was ≡ x = same_Some x_was x (sym x_before ∙ ap (slice_get xs) same ∙ sym (so_far.xs_left place (omega arith)) ∙ x_there) in
          let other : y_was ≡ y = same_Some y_was y (sym y_before ∙ ap (slice_get ys) same ∙ sym (so_far.ys_left place (omega arith)) ∙ y_there) in
          let then_x : x_then ≡ x_is = same_Some x_then x_is (sym (now_there xs_now place x_then (slice_get_within xs_now place x x_there)) ∙ ap (slice_get (slice_set xs_now place x_then)) (sym same) ∙ x_after) in
          let then_y : y_then ≡ y_is = same_Some y_then y_is (sym (now_there ys_now place y_then (slice_get_within ys_now place y y_there)) ∙ ap (slice_get (slice_set ys_now place y_then)) (sym same) ∙ y_after) in
          subst (λ (T : Type 0). T) (λ j. Does (sym same j) (sym first j) (then_x j) (sym other j) (then_y j)) does
      | inr apart ↦ so_far.done at x_was x_is y_was y_is (omega (arith, low, apart)) x_before (sym (stays_elsewhere xs_now place at x_then apart) ∙ x_after)
          y_before (sym (stays_elsewhere ys_now place at y_then apart) ∙ y_after)
    ];
    xs_left = λ at past. stays_elsewhere xs_now place at x_then (λ same. omega (arith, same, past)) ∙ so_far.xs_left at (omega (arith, past));
    ys_left = λ at past. stays_elsewhere ys_now place at y_then (λ same. omega (arith, same, past)) ∙ so_far.ys_left at (omega (arith, past));
  }

-- what stands before the item that is taken stays,
before_it : {X : Type 0} (xs : List X) (at place : ℕ) → place < at → slice_get (remove xs at) place ≡ slice_get xs place
before_it xs zero place low = absurd (omega (arith, low))
before_it [] (suc at) place low = refl
before_it (x ∷ xs) (suc at) zero low = refl
before_it (x ∷ xs) (suc at) (suc place) low = before_it xs at place (omega (arith, low))

-- and what stands after it comes one place before
after_it : {X : Type 0} (xs : List X) (at place : ℕ) → at ≤ place → slice_get (remove xs at) place ≡ slice_get xs (suc place)
after_it [] zero place past = refl
after_it [] (suc at) place past = refl
after_it (x ∷ xs) zero place past = refl
after_it (x ∷ xs) (suc at) zero past = absurd (omega (arith, past))
after_it (x ∷ xs) (suc at) (suc place) past = after_it xs at place (omega (arith, past))

-- So the item at another place stands where it stands in a row that skips its own place.
pub left_there : {X : Type 0} (xs : List X) (row place : ℕ) → row ≢ place → slice_get (remove xs row) (index_in true row place) ≡ slice_get xs place
left_there xs row place apart = elim (cases_lt row place) [
  | inl past ↦
      let one_before : suc (place - 1) ≡ place = omega (arith, past) in
      ap (λ test. slice_get (remove xs row) (if test then place - 1 else place)) (lt-ltb row place past) ∙ after_it xs row (place - 1) (omega (arith, past)) ∙ ap (slice_get xs) one_before
  | inr low ↦
      ap (λ test. slice_get (remove xs row) (if test then place - 1 else place)) (le-ltb row place low) ∙ before_it xs row place (omega (arith, low, apart))
]

-- what holds of all holds of those that are left
pub left_hold : {X : Type 0} (Holds : X → Type 0) (xs : List X) (at : ℕ) → All Holds xs → All Holds (remove xs at)
left_hold Holds xs at all = All-append Holds (take at xs) (drop (suc at) xs) (All-take Holds at xs all) (All-drop Holds (suc at) xs all)
