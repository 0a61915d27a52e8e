-- Ascending points, cut where the walk begins, are the points from a hash onwards, once round.
use Rattle.std.proofs.Common.{◌≡◌, ℕ, ◌+◌, ◌≤◌, Bool, true, false, not, nat_lt, nat_le, List, [], ◌∷◌, ◌++◌, length, take, drop, get_or, suc, zero, refl, ap, inl, inr, arith, IsSorted, is_lt}
use Rattle.std.specs.List.{filter, AllWithin}
use Rattle.std.specs.List.Sorted.{IsNonDecreasingBy, IsPartitionPoint, IsPermutation}
use Rattle.std.proofs.lemmas.Bool.Decides.{nat_tests}
use Rattle.std.proofs.lemmas.Bool.{true≢false, lt-ltb, cases_lt}
use Rattle.std.proofs.lemmas.List.Sorted.{IsNonDecreasingBy-from_all_adjacent, IsPermutation-filter_both}
use Rattle.placement.specs.Ring.{point_cmp, round}
use Rattle.placement.specs.declared.ring.Point.{Point}

-- Of two points in order the first has no greater hash.
in_order : (a b : Point) → is_lt (point_cmp b a) ≡ false → a.hash ≤ b.hash
in_order a b up = elim (cases_lt b.hash a.hash) [
  | inl before ↦ (let less : nat_lt b.hash a.hash ≡ true = lt-ltb b.hash a.hash before in absurd (true≢false (rw less at up)))
  | inr after ↦ after
]

-- Points in order have ascending hashes.
pub hashes_ascend : (points : List Point) → IsSorted point_cmp points → IsNonDecreasingBy (λ point. point.hash) points
hashes_ascend points up = IsNonDecreasingBy-from_all_adjacent (λ point. point.hash) points (λ k d in_list. in_order (get_or points k d) (get_or points (k + 1) d) (up k d (omega arith) in_list))

-- What passes is all before the cut.
front_from_cut : {X : Type 0} (test : X → Bool) (xs : List X) (cut : ℕ) → AllWithin (λ x. test x ≡ true) xs 0 cut → AllWithin (λ x. test x ≡ false) xs cut (length xs) → filter test xs ≡ take cut xs
front_from_cut test [] zero before after = refl
front_from_cut test [] (suc cut) before after = refl
front_from_cut {X = X} test (x ∷ xs) zero before after = rw (after 0 x (omega arith) (omega arith)) (front_from_cut test xs zero (λ k d low high. absurd (omega arith)) (λ k d low high. after (suc k) d (omega arith) (omega arith)))
front_from_cut {X = X} test (x ∷ xs) (suc cut) before after = rw (before 0 x (omega arith) (omega arith)) (ap (λ (ys : List X). x ∷ ys) (front_from_cut test xs cut (λ k d low high. before (suc k) d (omega arith) (omega arith)) (λ k d low high. after (suc k) d (omega arith) (omega arith))))

-- What passes the opposite test is all from the cut on.
rest_from_cut : {X : Type 0} (test other : X → Bool) → ((x : X) → other x ≡ not (test x)) → (xs : List X) (cut : ℕ) → AllWithin (λ x. test x ≡ true) xs 0 cut → AllWithin (λ x. test x ≡ false) xs cut (length xs) → filter other xs ≡ drop cut xs
rest_from_cut test other opposite [] zero before after = refl
rest_from_cut test other opposite [] (suc cut) before after = refl
rest_from_cut {X = X} test other opposite (x ∷ xs) zero before after = rw (opposite x, after 0 x (omega arith) (omega arith)) (ap (λ (ys : List X). x ∷ ys) (rest_from_cut test other opposite xs zero (λ k d low high. absurd (omega arith)) (λ k d low high. after (suc k) d (omega arith) (omega arith))))
rest_from_cut {X = X} test other opposite (x ∷ xs) (suc cut) before after = rw (opposite x, before 0 x (omega arith) (omega arith)) (rest_from_cut test other opposite xs cut (λ k d low high. before (suc k) d (omega arith) (omega arith)) (λ k d low high. after (suc k) d (omega arith) (omega arith)))

-- not below is at least
not_below : (n hash : ℕ) → nat_le hash n ≡ not (nat_lt n hash)
not_below n hash = grind (arith, nat_tests)

-- below is not at least
pub below_or_not : (hash n : ℕ) → nat_lt n hash ≡ not (nat_le hash n)
below_or_not hash n = grind (arith, nat_tests)

-- The points before the cut are those below the hash, and the others are not.
pub round_from_cut : (points : List Point) (hash first : ℕ) → IsPartitionPoint (λ (point : Point). nat_lt point.hash hash ≡ true) (λ (point : Point). nat_lt point.hash hash ≡ false) points first → drop first points ++ take first points ≡ round points hash
round_from_cut points hash first (before, after) =
    let below : Point → Bool = λ point. nat_lt point.hash hash in
    let rest : Point → Bool = λ point. nat_le hash point.hash in
    rw (rest_from_cut below rest (λ point. not_below point.hash hash) points first before after, front_from_cut below points first before after) refl

-- Going round meets each point once.
pub round_permutes : (points : List Point) (hash : ℕ) → IsPermutation points (round points hash)
round_permutes points hash = IsPermutation-filter_both (λ (point : Point). nat_le hash point.hash) (λ (point : Point). nat_lt point.hash hash) (λ point. below_or_not hash point.hash) points
