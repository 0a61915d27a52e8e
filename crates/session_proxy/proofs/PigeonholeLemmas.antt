-- Different workers are no more than there are.
use Rattle.std.specs.Prelude.{◌≢◌, ℕ, ◌+◌, ◌<◌, ◌≤◌, List, ◌∷◌, All, length}
use Rattle.std.proofs.Common.{arith}
use Rattle.std.proofs.lemmas.Bool.{eqb-true}
use Rattle.std.proofs.lemmas.Bool.Decides.{Decides-eqb}
use Rattle.std.proofs.lemmas.List.Elements.{All-cons, All-contains, All-weaker}
use Rattle.std.proofs.lemmas.List.Kept.{AllPairs-cons}
use Rattle.std.proofs.lemmas.Map.Made.{IsDistinct-from_AllPairs}
use Rattle.std.proofs.lemmas.Map.Steps.{length-le_from_distinct_below}
use Rattle.std.proofs.lemmas.Map.Views.{Contains-from_any}
use Rattle.placement.specs.Config.{AreDifferent, IsOneOf}

-- different numbers from 1 to the last are no more than that: beside 0 they are different numbers below the next
pub few_replicas : (workers : ℕ) (replicas : List ℕ) → All (IsOneOf workers) replicas → AreDifferent replicas → length replicas ≤ workers
few_replicas workers replicas are different =
    let apart : All (λ n. 0 ≢ n) replicas = All-weaker (IsOneOf workers) (λ n. 0 ≢ n) (λ n is same. omega (arith, is, same)) replicas are in
    let beside : AreDifferent (0 ∷ replicas) = AllPairs-cons (λ (a b : ℕ). a ≢ b) 0 replicas apart different in
    let low : All (λ n. n < workers + 1) replicas = All-weaker (IsOneOf workers) (λ n. n < workers + 1) (λ n is. omega (arith, is)) replicas are in
    let below : All (λ n. n < workers + 1) (0 ∷ replicas) = All-cons (λ n. n < workers + 1) 0 replicas (omega arith) low in
    let few = length-le_from_distinct_below (0 ∷ replicas) (workers + 1) (IsDistinct-from_AllPairs Decides-eqb (0 ∷ replicas) beside)
    (λ n has. All-contains (λ m. m < workers + 1) (0 ∷ replicas) n below (Contains-from_any eqb-true n (0 ∷ replicas) has)) in
    omega (arith, few)
