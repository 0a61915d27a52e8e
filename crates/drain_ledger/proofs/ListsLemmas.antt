-- Items of two lists that stand at one place, side by side.
use Rattle.std.specs.Prelude.{◌≡◌, ℕ, zero, suc, ◌+◌, List, [], ◌∷◌, All, length, map, slice_get, slice_index_or, Some}
use Rattle.std.specs.List.{range_with_len}
use Rattle.std.proofs.Common.{refl, arith}
use Rattle.std.proofs.lemmas.List.Elements.{All-cons, All-nil}
use Rattle.std.proofs.lemmas.Option.{same_Some, slice_get_within}
use Rattle.drain_ledger.specs.Handed.{paired}

module _ {X Y Z : Type 0} (make : X → Y → Z) where
  -- at a place it is what is made of the two items there
  pub pair_at : (xs : List X) (ys : List Y) (none : Z) (place : ℕ) (x : X) (y : Y) → slice_get xs place ≡ Some x → slice_get ys place ≡ Some y → slice_index_or (paired make xs ys) place none ≡ make x y
  pair_at (first ∷ xs) (other ∷ ys) none zero x y is also = λ j. make (same_Some first x is j) (same_Some other y also j)
  pair_at (first ∷ xs) (other ∷ ys) none (suc place) x y is also = pair_at xs ys none place x y is also
  pair_at [] ys none place x y is also = let within = slice_get_within [] place x is in absurd (omega (arith, within))
  pair_at (first ∷ xs) [] none place x y is also = let within = slice_get_within [] place y also in absurd (omega (arith, within))

  -- what holds of what is made at each place holds of all
  pub all_paired : (P : Z → Type 0) (xs : List X) (ys : List Y) → ((place : ℕ) (x : X) (y : Y) → slice_get xs place ≡ Some x → slice_get ys place ≡ Some y → P (make x y)) → All P (paired make xs ys)
  all_paired P [] ys each = All-nil P
  all_paired P (x ∷ xs) [] each = All-nil P
  all_paired P (x ∷ xs) (y ∷ ys) each = All-cons P (make x y) (paired make xs ys) (each 0 x y refl refl) (all_paired P xs ys (λ place. each (suc place)))

  -- where what is made tells of the first item, or of the second, all tell of the first list, or of the second
  pub first_of_paired : {V : Type 0} (f : Z → V) (g : X → V) (xs : List X) (ys : List Y) → length ys ≡ length xs
      → ((place : ℕ) (x : X) (y : Y) → slice_get xs place ≡ Some x → slice_get ys place ≡ Some y → f (make x y) ≡ g x) → map f (paired make xs ys) ≡ map g xs
  first_of_paired f g [] ys long each = refl
  first_of_paired f g (x ∷ xs) [] long each = absurd (omega (arith, long))
  first_of_paired f g (x ∷ xs) (y ∷ ys) long each = λ j. each 0 x y refl refl j ∷ first_of_paired f g xs ys (omega (arith, long)) (λ place. each (suc place)) j

  pub second_of_paired : {V : Type 0} (f : Z → V) (g : Y → V) (xs : List X) (ys : List Y) → length ys ≡ length xs
      → ((place : ℕ) (x : X) (y : Y) → slice_get xs place ≡ Some x → slice_get ys place ≡ Some y → f (make x y) ≡ g y) → map f (paired make xs ys) ≡ map g ys
  second_of_paired f g [] [] long each = refl
  second_of_paired f g [] (y ∷ ys) long each = absurd (omega (arith, long))
  second_of_paired f g (x ∷ xs) [] long each = absurd (omega (arith, long))
  second_of_paired f g (x ∷ xs) (y ∷ ys) long each = λ j. each 0 x y refl refl j ∷ second_of_paired f g xs ys (omega (arith, long)) (λ place. each (suc place)) j

-- numbers that go up by one from a first one
pub are_counted : (first : ℕ) (xs : List ℕ) → ((place x : ℕ) → slice_get xs place ≡ Some x → x ≡ first + place) → xs ≡ range_with_len first (length xs)
are_counted first [] each = refl
are_counted first (x ∷ xs) each =
    let here : x ≡ first = omega (arith, each 0 x refl) in
    λ j. here j ∷ are_counted (first + 1) xs (λ place y is. let later = each (suc place) y is in omega (arith, later)) j
