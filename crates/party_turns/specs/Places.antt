-- What holds of the items of a list, each at its place, and of those of two lists at the same places.
use Rattle.std.specs.Prelude.{◌≡◌, ◌≢◌, ℕ, List, slice_get, Some}

module _ {A : Type 0} where
  -- of the item at a place, if there is one,
  abbrev pub AtPlace : List A → ℕ → (A → Type 0) → Type 0
  AtPlace items place holds = (item : A) → slice_get items place ≡ Some item → holds item

  -- and of each
  abbrev pub AtEach : List A → (A → Type 0) → Type 0
  AtEach items holds = (place : ℕ) (item : A) → slice_get items place ≡ Some item → holds item

  -- all stay but the one at a place
  abbrev pub OthersSame : ℕ → List A → List A → Type 0
  OthersSame place before now = (other : ℕ) → other ≢ place → slice_get now other ≡ slice_get before other

module _ {A B : Type 0} where
  -- of both at a place,
  abbrev pub BothAt : List A → List B → ℕ → (A → B → Type 0) → Type 0
  BothAt before now place holds = (was : A) (is : B) → slice_get before place ≡ Some was → slice_get now place ≡ Some is → holds was is

  -- of both at each,
  abbrev pub BothAtEach : List A → List B → (A → B → Type 0) → Type 0
  BothAtEach before now holds = (place : ℕ) (was : A) (is : B) → slice_get before place ≡ Some was → slice_get now place ≡ Some is → holds was is

  -- and by the place
  abbrev pub BothAtPlaces : List A → List B → (ℕ → A → B → Type 0) → Type 0
  BothAtPlaces before now holds = (place : ℕ) (was : A) (is : B) → slice_get before place ≡ Some was → slice_get now place ≡ Some is → holds place was is

-- of what became of each, by what came of it
abbrev pub EachBecomes : {A B C : Type 0} → List A → List B → List C → (A → B → C → Type 0) → Type 0
EachBecomes {A} {B} {C} came before now holds =
    (place : ℕ) (its : A) (was : B) (is : C) → slice_get came place ≡ Some its → slice_get before place ≡ Some was → slice_get now place ≡ Some is → holds its was is
