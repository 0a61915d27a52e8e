-- The greatest of a list, said as a property: one of the list, with none above it.
use Rattle.std.specs.Prelude.{◌≡◌, ℕ, ◌≤◌, ◌⊎◌, List, Option, Some, None, Contains}

-- the greatest, where there are any
abbrev pub IsGreatest : {X : Type 0} → (X → X → Type 0) → List X → Option X → Type 0
IsGreatest {X} at_most xs None = (x : X) → Contains xs x → ⊥
IsGreatest {X} at_most xs (Some greatest) = Contains xs greatest × ((x : X) → Contains xs x → at_most x greatest)

-- the greatest of the numbers, and 0 where there are none
abbrev pub IsGreatestOrZero : List ℕ → ℕ → Type 0
IsGreatestOrZero numbers n = ((m : ℕ) → Contains numbers m → m ≤ n) × (Contains numbers n ⊎ (n ≡ 0))
