-- Lists of which the items at some places went from one to another.
use Rattle.std.specs.Prelude.{◌≡◌, ℕ, ◌<◌, List, length, map, slice_get, slice_index_or, slice_set, Some}
use Rattle.std.proofs.Common.{◌∙◌, sym, ap, subst, inl, inr}
use Rattle.std.proofs.lemmas.Bool.{cases_eq}
use Rattle.std.proofs.lemmas.Option.{same_Some, slice_get-get_or}
use Rattle.mail_contract.proofs.PostsLemmas.{stays_elsewhere}
use Rattle.party_turns.proofs.ItemsLemmas.{of_mapped}
use Rattle.party_turns.proofs.PlacesLemmas.{at_place}

-- the item that was read at a place stands there
pub read_there : {X : Type 0} (items : List X) (place : ℕ) (here : X) → place < length items → here ≡ slice_index_or items place here → slice_get items place ≡ Some here
read_there items place here within is = slice_get-get_or items place here within ∙ ap Some (sym is)

-- what was done to what a function makes of the items at each place was done to all that it makes
pub done_to_made : {X Y : Type 0} (Does : Y → Y → Type 0) (f : X → Y) (xs xs_now : List X)
    → ((place : ℕ) (was is : X) → slice_get xs place ≡ Some was → slice_get xs_now place ≡ Some is → Does (f was) (f is))
    → (place : ℕ) (was is : Y) → slice_get (map f xs) place ≡ Some was → slice_get (map f xs_now) place ≡ Some is → Does was is
done_to_made Does f xs xs_now each place was is there also =
    let before = of_mapped f xs place was there in
    let now = of_mapped f xs_now place is also in
    subst (λ y. Does y is) before.2 (subst (Does (f before.0)) now.2 (each place before.0 now.0 before.1 now.1))

-- what can be done to each item as it is was done to all where nothing changed
pub done_to_none : {X : Type 0} (Does : ℕ → X → X → Type 0) → ((at : ℕ) (x : X) → Does at x x) → (items : List X)
    → (at : ℕ) (was is : X) → slice_get items at ≡ Some was → slice_get items at ≡ Some is → Does at was is
done_to_none Does still items at was is before now = subst (Does at was) (same_Some was is (sym before ∙ now)) (still at was)

-- and where something was done to the item at one place
pub done_to_one : {X : Type 0} (Does : ℕ → X → X → Type 0) → ((at : ℕ) (x : X) → Does at x x) → (items : List X) (place : ℕ) (here there : X)
    → place < length items → here ≡ slice_index_or items place here → Does place here there
    → (at : ℕ) (was is : X) → slice_get items at ≡ Some was → slice_get (slice_set items place there) at ≡ Some is → Does at was is
done_to_one Does still items place here there within here_is does at was is before now = elim (cases_eq at place) [
  | inl same ↦
      subst (λ n. Does n was is) (sym same)
      (at_place (Does place) items place here there within here_is does was is (ap (slice_get items) (sym same) ∙ before)
      (ap (slice_get (slice_set items place there)) (sym same) ∙ now))
  | inr apart ↦ done_to_none Does still items at was is before (sym (stays_elsewhere items place at there apart) ∙ now)
]
