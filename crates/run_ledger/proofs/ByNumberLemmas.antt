-- The items of a list by their numbers, from 1.
use Rattle.std.specs.Prelude.{◌≡◌, ℕ, zero, suc, ◌+◌, ◌-◌, ◌≤◌, List, ◌∷◌, length, slice_get, slice_index_or, Some}
use Rattle.std.proofs.Common.{ap, subst, inl, inr, arith}
use Rattle.std.proofs.lemmas.Option.{slice_get_cases}
use Rattle.placement.specs.Config.{IsOneOf}

-- an item by its number, in a list with one more before it
pub from_first : {X : Type 0} (none : X) (xs : List X) (number : ℕ) → 1 ≤ number → slice_index_or (none ∷ xs) number none ≡ slice_index_or xs (number - 1) none
from_first none xs zero some = absurd (omega (arith, some))
from_first none xs (suc place) some = let same : place ≡ suc place - 1 = omega arith in ap (λ i. slice_index_or xs i none) same

-- what holds of each item by its place holds of one with each number
pub by_number : {X : Type 0} (Holds : ℕ → X → Type 0) (xs : List X) → ((place : ℕ) (x : X) → slice_get xs place ≡ Some x → Holds (place + 1) x)
    → (number : ℕ) → IsOneOf (length xs) number → (x : X) × Holds number x
by_number Holds xs each number within =
    let same : number - 1 + 1 ≡ number = omega (arith, within.0) in
    elim (slice_get_cases xs (number - 1)).1 [
      | inl (x, low, there, read) ↦ (x, subst (λ n. Holds n x) same (each (number - 1) x there))
      | inr (past, none) ↦ absurd (omega (arith, within.0, within.1, past))
    ]
