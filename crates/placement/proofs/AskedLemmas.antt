-- The replicas that are not the home, as they are met one after another.
use Rattle.std.specs.Prelude.{◌≡◌, ℕ, zero, suc, ◌<◌, ◌≤◌, ◌==◌, not, true, false, cond, List, [], ◌∷◌, length, take, get_or}
use Rattle.std.proofs.Common.{ap, arith}
use Rattle.placement.specs.Asked.{others}

-- a replica that is not the home is met where as many others were met before
pub other_met : (home : ℕ) (replicas : List ℕ) (i d : ℕ) → i < length replicas → (get_or replicas i d == home) ≡ false → get_or (others home replicas) (length (others home (take i replicas))) 0 ≡ get_or replicas i d
other_met home [] i d within other = absurd (omega (arith, within))
other_met home (replica ∷ replicas) zero d within other = ap (λ t. get_or (cond (not t) (replica ∷ others home replicas) (others home replicas)) 0 0) other
other_met home (replica ∷ replicas) (suc i) d within other =
    elim (replica == home) as (λ t. get_or (cond (not t) (replica ∷ others home replicas) (others home replicas)) (length (cond (not t) (replica ∷ others home (take i replicas)) (others home (take i replicas)))) 0 ≡ get_or replicas i d) [
      | true ↦ other_met home replicas i d (omega (arith, within)) other
      | false ↦ other_met home replicas i d (omega (arith, within)) other
    ]

-- there are no more others than replicas
pub others_within : (home : ℕ) (replicas : List ℕ) → length (others home replicas) ≤ length replicas
others_within home [] = omega arith
others_within home (replica ∷ replicas) =
    elim (replica == home) as (λ t. length (cond (not t) (replica ∷ others home replicas) (others home replicas)) ≤ length (replica ∷ replicas)) [
      | true ↦ omega (arith, others_within home replicas)
      | false ↦ omega (arith, others_within home replicas)
    ]
