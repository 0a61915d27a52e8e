-- The items of a list by their places, of one that a function was applied to, and of lists of one length.
use Rattle.std.specs.Prelude.{◌≡◌, ℕ, zero, suc, ◌<◌, List, [], ◌∷◌, All, length, map, slice_get, slice_index_or, Some}
use Rattle.std.proofs.Common.{◌∙◌, refl, sym, ap, subst, arith}
use Rattle.std.proofs.lemmas.List.{length-map}
use Rattle.std.proofs.lemmas.Option.{get_or_from_slice_get, none-some, same_Some, slice_get-get_or, slice_get_within}

-- a place that is within has an item
pub there_is : {X : Type 0} (xs : List X) (place : ℕ) → place < length xs → (x : X) × (slice_get xs place ≡ Some x)
there_is [] place within = absurd (omega (arith, within))
there_is (x ∷ xs) zero within = (x, refl)
there_is (x ∷ xs) (suc place) within = there_is xs place (omega (arith, within))

-- so has it in each list that is as long as one that has an item there
pub there_too : {X Y : Type 0} (xs : List X) (ys : List Y) (place : ℕ) (y : Y) → length ys ≡ length xs → slice_get ys place ≡ Some y
    → (x : X) × (slice_get xs place ≡ Some x)
there_too xs ys place y long is = let within = slice_get_within ys place y is in there_is xs place (omega (arith, long, within))

-- an item of a list that a function was applied to is made of the one in its place
pub of_mapped : {X Y : Type 0} (f : X → Y) (xs : List X) (place : ℕ) (y : Y) → slice_get (map f xs) place ≡ Some y
    → (x : X) × (slice_get xs place ≡ Some x) × (f x ≡ y)
of_mapped f [] place y is = absurd (none-some y is)
of_mapped f (x ∷ xs) zero y is = (x, refl, same_Some (f x) y is)
of_mapped f (x ∷ xs) (suc place) y is = of_mapped f xs place y is

-- and what is made of an item stands in its place
pub mapped : {X Y : Type 0} (f : X → Y) (xs : List X) (place : ℕ) (x : X) → slice_get xs place ≡ Some x → slice_get (map f xs) place ≡ Some (f x)
mapped f [] place x is = absurd (none-some x is)
mapped f (first ∷ xs) zero x is = ap (λ one. Some (f one)) (same_Some first x is)
mapped f (first ∷ xs) (suc place) x is = mapped f xs place x is

-- what holds of each holds of the one at a place
pub at_its_place : {X : Type 0} (Holds : X → Type 0) (items : List X) (place : ℕ) (x : X) → All Holds items → slice_get items place ≡ Some x → Holds x
at_its_place Holds items place x all is = subst Holds (get_or_from_slice_get items place x x is) (all place x (slice_get_within items place x is))

-- and where it holds of each by its place it holds of all
pub all_there : {X : Type 0} (Holds : X → Type 0) (items : List X) → ((place : ℕ) (x : X) → slice_get items place ≡ Some x → Holds x) → All Holds items
all_there Holds items each = λ place d within. each place (slice_index_or items place d) (slice_get-get_or items place d within)

module _ {X Y : Type 0} (f : X → Y) (xs ys : List X) (same : map f ys ≡ map f xs) where
  -- lists of which a function makes the same are of one length,
  pub long_alike : length ys ≡ length xs
  long_alike = sym (length-map ys f) ∙ ap length same ∙ length-map xs f

  -- it makes the same of their items at one place,
  pub alike_at : (place : ℕ) (x y : X) → slice_get xs place ≡ Some x → slice_get ys place ≡ Some y → f x ≡ f y
  alike_at place x y there here =
      same_Some (f x) (f y) (sym (mapped f xs place x there) ∙ ap (λ all. slice_get all place) (sym same) ∙ mapped f ys place y here)

  -- and where one has an item the other has one, of which it makes the same
  pub also_there : (place : ℕ) (y : X) → slice_get ys place ≡ Some y → (x : X) × (slice_get xs place ≡ Some x) × (f x ≡ f y)
  also_there place y is = of_mapped f xs place (f y) (sym (ap (λ all. slice_get all place) same) ∙ mapped f ys place y is)

-- what a function makes of what another one makes
pub made_of_made : {X Y Z : Type 0} (f : X → Y) (g : Y → Z) (xs : List X) → map g (map f xs) ≡ map (λ x. g (f x)) xs
made_of_made f g [] = refl
made_of_made f g (x ∷ xs) = ap (λ rest. g (f x) ∷ rest) (made_of_made f g xs)

module _ {X Y : Type 0} (f : X → Y) where
  -- what a function makes of the item at a place, by its value or else
  pub mapped_or : (xs : List X) (place : ℕ) (x : X) (none : Y) → slice_get xs place ≡ Some x → slice_index_or (map f xs) place none ≡ f x
  mapped_or [] place x none is = let within = slice_get_within [] place x is in absurd (omega (arith, within))
  mapped_or (first ∷ xs) zero x none is = ap f (same_Some first x is)
  mapped_or (first ∷ xs) (suc place) x none is = mapped_or xs place x none is

-- where two functions make the same of the items at each place, they make the same lists
pub same_made : {X Y V : Type 0} (f : X → V) (g : Y → V) (xs : List X) (ys : List Y) → length ys ≡ length xs
    → ((place : ℕ) (x : X) (y : Y) → slice_get xs place ≡ Some x → slice_get ys place ≡ Some y → f x ≡ g y) → map f xs ≡ map g ys
same_made f g [] [] long each = refl
same_made f g [] (y ∷ ys) long each = absurd (omega (arith, long))
same_made f g (x ∷ xs) [] long each = absurd (omega (arith, long))
same_made f g (x ∷ xs) (y ∷ ys) long each = λ j. each 0 x y refl refl j ∷ same_made f g xs ys (omega (arith, long)) (λ place. each (suc place)) j
