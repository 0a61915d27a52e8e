-- Lists of which the items at one place went from one to another.
use Rattle.std.specs.Prelude.{◌≡◌, ℕ, ◌<◌, List, length, map, slice_get, slice_index_or, slice_set, Some, Result, Ok, Err, IfOk, OnOk}
use Rattle.std.proofs.Common.{◌∙◌, sym, subst}
use Rattle.std.proofs.lemmas.List.{length-map}
use Rattle.std.proofs.lemmas.Option.{same_Some}
use Rattle.parties.proofs.ChangedLemmas.{done_to_made, done_to_one}
use Rattle.party_turns.proofs.ItemsLemmas.{long_alike, mapped, of_mapped}
use Rattle.party_turns.proofs.PlacesLemmas.{at_place, now_there}

-- where what is read of the items stays, as many are made of them
pub as_many_made : {X Y V : Type 0} (f : X → Y) (g : X → V) (xs xs_now : List X) → map f xs_now ≡ map f xs → length (map g xs_now) ≡ length (map g xs)
as_many_made f g xs xs_now same = length-map xs_now g ∙ long_alike f xs xs_now same ∙ sym (length-map xs g)

module _ {X Y : Type 0} where
  -- Where one item went on, and each item goes on as it is, all have gone on, as seen by what a function makes of them.
  pub made_goes_on : (Does : Y → Y → Type 0) → ((y : Y) → Does y y) → (f : X → Y) (items : List X) (place : ℕ) (here there : X)
      → place < length items → here ≡ slice_index_or items place here → Does (f here) (f there)
      → (at : ℕ) (was is : Y) → slice_get (map f items) at ≡ Some was → slice_get (map f (slice_set items place there)) at ≡ Some is → Does was is
  made_goes_on Does still f items place here there within here_is does =
      done_to_made Does f items (slice_set items place there)
      (done_to_one (λ at x y. Does (f x) (f y)) (λ at x. still (f x)) items place here there within here_is does)

  -- What holds of what a function makes of the old one and of the new one holds of what stands at the place among all that it makes.
  pub made_at_place : (Holds : Y → Y → Type 0) → (f : X → Y) (items : List X) (place : ℕ) (here there : X)
      → place < length items → here ≡ slice_index_or items place here → Holds (f here) (f there)
      → (was is : Y) → slice_get (map f items) place ≡ Some was → slice_get (map f (slice_set items place there)) place ≡ Some is → Holds was is
  made_at_place Holds f items place here there within here_is holds was is before now =
      let earlier = of_mapped f items place was before in
      let later = of_mapped f (slice_set items place there) place is now in
      let of_both = at_place (λ x y. Holds (f x) (f y)) items place here there within here_is holds earlier.0 later.0 earlier.1 later.1 in
      subst (λ y. Holds y is) earlier.2 (subst (Holds (f earlier.0)) later.2 of_both)

  -- what a function makes of the new one stands at its place
  pub now_made : (f : X → Y) (items : List X) (place : ℕ) (there : X) → place < length items → (y : Y) → slice_get (map f (slice_set items place there)) place ≡ Some y → f there ≡ y
  now_made f items place there within y is = same_Some (f there) y (sym (mapped f (slice_set items place there) place there (now_there items place there within)) ∙ is)

  -- what follows of what is told of the value that a call gives follows where it succeeds
  pub where_value : {P Q Then : Type 0} {Tells : X → Type 0} (result : Result X Y) → (P → Q → IfOk result Tells) → ((x : X) → (P → Q → Tells x) → Then) → OnOk result Then
  where_value (Ok x) told follows = follows x told
  where_value (Err error) told follows = tt

  -- what follows of what holds where a call succeeds holds there
  pub where_ok : {P Q : Type 0} (result : Result X Y) → (P → Q) → OnOk result P → OnOk result Q
  where_ok (Ok x) follows is = follows is
  where_ok (Err error) follows is = tt

  -- what follows of a value follows where a call gives one
  pub on_ok : {P Q : X → Type 0} (result : Result X Y) → ((x : X) → P x → Q x) → IfOk result P → IfOk result Q
  on_ok (Ok x) follows is = follows x is
  on_ok (Err error) follows is = tt

  -- and what holds of a value for each thing holds of it for all
  pub for_each : {A : Type 0} (Holds : A → X → Type 0) (result : Result X Y) → ((a : A) → IfOk result (Holds a)) → IfOk result (λ x. (a : A) → Holds a x)
  for_each Holds (Ok x) each = each
  for_each Holds (Err error) each = tt
