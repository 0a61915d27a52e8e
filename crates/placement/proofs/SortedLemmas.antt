-- In a total order in which only equal elements tie, elements stand in ascending order in one way only.
use Rattle.std.specs.Prelude.{◌≡◌, ℕ, zero, suc, ◌+◌, ◌<◌, true, false, cond, List, [], ◌∷◌, length, slice_index_or, All, IsSorted, IsPermutation}
use Rattle.std.specs.List.{sum_by}
use Rattle.std.proofs.Common.{refl, sym, ap, ◌∙◌, add-one, arith}
use Rattle.std.proofs.lemmas.Bool.{true≢false}
use Rattle.std.proofs.lemmas.Cmp.{tied_itself, alike_right}
use Rattle.std.proofs.lemmas.List.Elements.{All-cons, All-head, All-tail}
use Rattle.std.proofs.lemmas.List.Sorted.{ranks_by, sorted_far, sum_by-IsPermutation}
use Rattle.std.proofs.lemmas.List.Sums.{sum_by-cons}
use Rattle.std.specs.Cmp.{IsTotalOrder}
use Rattle.std.specs.FinMap.{IsAntisymmetric}
use Rattle.std.specs.Ordering.{is_lt, is_eq}
use Rattle.std.specs.declared.cmp.Ordering.{Ordering}
use Rattle.std.specs.declared.cmp.Ordering.TheVariants.{Less, Equal, Greater}
use Rattle.lattice_laws.proofs.AscendingLemmas.{Less_from_Greater}

module _ {X : Type 0} (cmp : X → X → Ordering) where
  -- what follows the first is ascending too
  pub sorted_tail : (x : X) (xs : List X) → IsSorted cmp (x ∷ xs) → IsSorted cmp xs
  sorted_tail x xs up = λ k d low high. rw (add-one k) (rw (add-one (suc k)) at (up (suc k) d (omega arith) (omega arith)))

  -- no elements are ascending
  pub sorted_none : IsSorted cmp []
  sorted_none = λ k d low high. absurd (omega arith)

  -- and so is one
  pub sorted_one : (x : X) → IsSorted cmp (x ∷ [])
  sorted_one x = λ k d low high. absurd (omega arith)

  -- neighbours at one place, where the first two are in order
  in_order_at : (x y : X) (ys : List X) → is_lt (cmp y x) ≡ false → IsSorted cmp (y ∷ ys) → (k : ℕ) (d : X) → k + 1 < length (x ∷ y ∷ ys) → is_lt (cmp (slice_index_or (x ∷ y ∷ ys) (k + 1) d) (slice_index_or (x ∷ y ∷ ys) k d)) ≡ false
  in_order_at x y ys first up zero d within = first
  in_order_at x y ys first up (suc k) d within = rw (add-one (suc k)) (rw (add-one k) at (up k d (omega arith) (omega arith)))

  -- an element comes before ascending ones whose first is not below it
  pub sorted_cons : (x y : X) (ys : List X) → is_lt (cmp y x) ≡ false → IsSorted cmp (y ∷ ys) → IsSorted cmp (x ∷ y ∷ ys)
  sorted_cons x y ys first up = λ k d low high. in_order_at x y ys first up k d high

  -- an element comes before ascending ones of which none is below it
  pub sorted_before : (x : X) (xs : List X) → All (λ y. is_lt (cmp y x) ≡ false) xs → IsSorted cmp xs → IsSorted cmp (x ∷ xs)
  sorted_before x [] none up = sorted_one x
  sorted_before x (y ∷ ys) none up = sorted_cons x y ys (All-head (λ y. is_lt (cmp y x) ≡ false) y ys none) up

  -- whether an element ties with another, as a number
  ties_with : X → X → ℕ
  ties_with x y = cond (is_eq (cmp x y)) 1 0

  -- what is above an element does not tie with it
  none_tie : (x : X) (ys : List X) → All (λ y. cmp x y ≡ Less) ys → sum_by (ties_with x) ys ≡ 0
  unfolding ties_with
  none_tie x [] above = refl
  none_tie x (y ∷ ys) above =
      let Above : X → Type 0 = λ y. cmp x y ≡ Less in
      let first : ties_with x y ≡ 0 = ap (λ r. cond (is_eq r) 1 0) (All-head Above y ys above) in
      omega (arith, sum_by-cons (ties_with x) y ys, none_tie x ys (All-tail Above y ys above), first)

  module _ (total : IsTotalOrder cmp) where
    -- what is above an element is not below it
    pub not_above : (x y : X) → is_lt (cmp x y) ≡ true → is_lt (cmp y x) ≡ false
    not_above x y below = let order = ranks_by total (λ a. a) in order.one_way x y below

    -- none of ascending elements is below the first
    pub none_below_first : (x : X) (xs : List X) → IsSorted cmp (x ∷ xs) → All (λ y. is_lt (cmp y x) ≡ false) xs
    none_below_first x xs up = λ k d within. sorted_far (λ a b. is_lt (cmp a b)) (ranks_by total (λ a. a)) (x ∷ xs) up 0 (suc k) d (omega arith) (omega arith)

    -- an element below another is below what is not below that other
    above_on : (x y z : X) (r : Ordering) → cmp x y ≡ Less → is_lt (cmp z y) ≡ false → cmp y z ≡ r → cmp x z ≡ Less
    above_on x y z Less below up is = total.trans x y z below is
    above_on x y z Equal below up is = sym (alike_right total y z x is) ∙ below
    above_on x y z Greater below up is = absurd (true≢false (rw (Less_from_Greater cmp total y z is) at up))

    -- an element below the first of ascending ones is below each
    below_each : (x y : X) (ys : List X) → cmp x y ≡ Less → IsSorted cmp (y ∷ ys) → All (λ z. cmp x z ≡ Less) (y ∷ ys)
    below_each x y ys below up = All-cons (λ z. cmp x z ≡ Less) y ys below (λ k d within. above_on x y (slice_index_or ys k d) _ below (none_below_first y ys up k d within) refl)

    -- an element ties with itself
    some_tie : (x : X) (xs : List X) → sum_by (ties_with x) (x ∷ xs) ≡ 1 + sum_by (ties_with x) xs
    unfolding ties_with
    some_tie x xs = sum_by-cons (ties_with x) x xs ∙ ap (λ r. cond (is_eq r) 1 0 + sum_by (ties_with x) xs) (tied_itself total x)

    -- an element below the first of ascending ones is not among them, so their sums differ
    not_below : (x y : X) (xs ys : List X) → cmp x y ≡ Less → IsSorted cmp (y ∷ ys) → ((f : X → ℕ) → sum_by f (x ∷ xs) ≡ sum_by f (y ∷ ys)) → ⊥
    not_below x y xs ys below up same = omega (arith, some_tie x xs, none_tie x (y ∷ ys) (below_each x y ys below up), same (ties_with x))

    -- the first elements of two ascending lists with the same sums tie
    firsts_tie : (x y : X) (xs ys : List X) (r : Ordering) → IsSorted cmp (x ∷ xs) → IsSorted cmp (y ∷ ys) → ((f : X → ℕ) → sum_by f (x ∷ xs) ≡ sum_by f (y ∷ ys)) → cmp x y ≡ r → cmp x y ≡ Equal
    firsts_tie x y xs ys Less up_x up_y same is = absurd (not_below x y xs ys is up_y same)
    firsts_tie x y xs ys Equal up_x up_y same is = is
    firsts_tie x y xs ys Greater up_x up_y same is = absurd (not_below y x ys xs (Less_from_Greater cmp total x y is) up_x (λ f. sym (same f)))

    module _ (exact : IsAntisymmetric cmp) where
      -- ascending lists of which each sum over the elements is the same are equal
      pub same_from_sums : (xs ys : List X) → IsSorted cmp xs → IsSorted cmp ys → ((f : X → ℕ) → sum_by f xs ≡ sum_by f ys) → xs ≡ ys
      same_from_sums [] [] up_x up_y same = refl
      same_from_sums [] (y ∷ ys) up_x up_y same = absurd (omega (arith, same (λ _. 1), sum_by-cons (λ _. 1) y ys))
      same_from_sums (x ∷ xs) [] up_x up_y same = absurd (omega (arith, same (λ _. 1), sum_by-cons (λ _. 1) x xs))
      same_from_sums (x ∷ xs) (y ∷ ys) up_x up_y same =
          let first : x ≡ y = exact x y (firsts_tie x y xs ys (cmp x y) up_x up_y same refl) in
          let rest : xs ≡ ys = same_from_sums xs ys (sorted_tail x xs up_x) (sorted_tail y ys up_y) (λ f. omega (arith, same f, sum_by-cons f x xs, sum_by-cons f y ys, ap f first)) in
          ap (λ z. z ∷ xs) first ∙ ap (λ zs. y ∷ zs) rest

      -- two ascending lists of the same elements are equal
      pub one_sorted : (all xs ys : List X) → IsSorted cmp xs → IsSorted cmp ys → IsPermutation all xs → IsPermutation all ys → xs ≡ ys
      one_sorted all xs ys up_x up_y from_x from_y = same_from_sums xs ys up_x up_y (λ f. sum_by-IsPermutation f all xs from_x ∙ sym (sum_by-IsPermutation f all ys from_y))
