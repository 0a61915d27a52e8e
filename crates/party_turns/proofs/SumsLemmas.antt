-- Sums over places, and how many messages of what was sent are missing.
use Rattle.std.specs.Prelude.{◌≡◌, ℕ, ◌+◌, ◌-◌, ◌<◌, ◌≤◌, List, [], ◌∷◌, length, slice_index_or, sum_by, Option, Some, None}
use Rattle.std.specs.List.{range_with_len}
use Rattle.std.proofs.Common.{zero, suc, ◌∙◌, ap, arith, inl, inr, refl, subst}
use Rattle.std.proofs.lemmas.Bool.{cases_eq}
use Rattle.std.proofs.lemmas.List.Sums.{sum_by-cons}
use Rattle.mail_contract.specs.Got.{AreAll, missing, missing_one}
use Rattle.party_turns.proofs.ItemsLemmas.{there_is}

sum_step : (f : ℕ → ℕ) (a n : ℕ) → sum_by f (range_with_len a (suc n)) ≡ f a + sum_by f (range_with_len (a + 1) n)
sum_step f a n = sum_by-cons f a (range_with_len (a + 1) n)

-- a sum is no greater where none of its numbers is,
at_most_from : (f g : ℕ → ℕ) (a n : ℕ) → ((i : ℕ) → a ≤ i → i < a + n → f i ≤ g i) → sum_by f (range_with_len a n) ≤ sum_by g (range_with_len a n)
at_most_from f g a zero each = omega arith
at_most_from f g a (suc n) each =
    let rest = at_most_from f g (a + 1) n (λ i low high. each i (omega (arith, low)) (omega (arith, high))) in
    let first = each a (omega arith) (omega arith) in
    omega (arith, sum_step f a n, sum_step g a n, rest, first)

pub at_most : (f g : ℕ → ℕ) (n : ℕ) → ((i : ℕ) → i < n → f i ≤ g i) → sum_by f (range_with_len 0 n) ≤ sum_by g (range_with_len 0 n)
at_most f g n each = at_most_from f g 0 n (λ i low high. each i (omega (arith, high)))

-- and smaller by as much as one of them is
less_from : (f g : ℕ → ℕ) (by a n at : ℕ) → ((i : ℕ) → a ≤ i → i < a + n → f i ≤ g i) → a ≤ at → at < a + n → f at + by ≤ g at
    → sum_by f (range_with_len a n) + by ≤ sum_by g (range_with_len a n)
less_from f g by a zero at each low high less = absurd (omega (arith, low, high))
less_from f g by a (suc n) at each low high less = elim (cases_eq at a) [
  | inl here ↦
      let rest = at_most_from f g (a + 1) n (λ i low high. each i (omega (arith, low)) (omega (arith, high))) in
      let first = subst (λ i. f i + by ≤ g i) here less in
      omega (arith, sum_step f a n, sum_step g a n, rest, first)
  | inr later ↦
      let rest = less_from f g by (a + 1) n at (λ i low high. each i (omega (arith, low)) (omega (arith, high))) (omega (arith, low, later)) (omega (arith, high)) less in
      let first = each a (omega arith) (omega arith) in
      omega (arith, sum_step f a n, sum_step g a n, rest, first)
]

pub less : (f g : ℕ → ℕ) (by n at : ℕ) → ((i : ℕ) → i < n → f i ≤ g i) → at < n → f at + by ≤ g at → sum_by f (range_with_len 0 n) + by ≤ sum_by g (range_with_len 0 n)
less f g by n at each within fewer = less_from f g by 0 n at (λ i low high. each i (omega (arith, high))) (omega arith) (omega (arith, within)) fewer

-- a sum of nothing but zeros
no_sum : (f : ℕ → ℕ) (a n : ℕ) → ((i : ℕ) → a ≤ i → i < a + n → f i ≡ 0) → sum_by f (range_with_len a n) ≡ 0
no_sum f a zero each = refl
no_sum f a (suc n) each =
    let rest = no_sum f (a + 1) n (λ i low high. each i (omega (arith, low)) (omega (arith, high))) in
    let first = each a (omega arith) (omega arith) in
    omega (arith, sum_step f a n, rest, first)

-- and a sum of more numbers, none of which is above 1
more_from : (f : ℕ → ℕ) (a n more : ℕ) → ((i : ℕ) → f i ≤ 1) → n ≤ more → sum_by f (range_with_len a more) ≤ sum_by f (range_with_len a n) + (more - n)
more_from f a zero zero small longer = omega arith
more_from f a zero (suc more) small longer = let rest = more_from f (a + 1) 0 more small (omega arith) in let first = small a in omega (arith, sum_step f a more, rest, first)
more_from f a (suc n) zero small longer = absurd (omega (arith, longer))
more_from f a (suc n) (suc more) small longer =
    let rest = more_from f (a + 1) n more small (omega (arith, longer)) in omega (arith, sum_step f a more, sum_step f a n, rest)

no_less_from : (f : ℕ → ℕ) (a n more : ℕ) → n ≤ more → sum_by f (range_with_len a n) ≤ sum_by f (range_with_len a more)
no_less_from f a zero more longer = omega arith
no_less_from f a (suc n) zero longer = absurd (omega (arith, longer))
no_less_from f a (suc n) (suc more) longer = let rest = no_less_from f (a + 1) n more (omega (arith, longer)) in omega (arith, sum_step f a more, sum_step f a n, rest)

-- a sum of sums
two_from : (f g : ℕ → ℕ) (a n : ℕ) → sum_by (λ i. f i + g i) (range_with_len a n) ≡ sum_by f (range_with_len a n) + sum_by g (range_with_len a n)
two_from f g a zero = refl
two_from f g a (suc n) = let rest = two_from f g (a + 1) n in omega (arith, sum_step (λ i. f i + g i) a n, sum_step f a n, sum_step g a n, rest)

pub two_sums : (f g : ℕ → ℕ) (n : ℕ) → sum_by (λ i. f i + g i) (range_with_len 0 n) ≡ sum_by f (range_with_len 0 n) + sum_by g (range_with_len 0 n)
two_sums f g n = two_from f g 0 n

-- a sum over the items of a list, by their places
next_from : (f : ℕ → ℕ) (a n : ℕ) → sum_by f (range_with_len (a + 1) n) ≡ sum_by (λ i. f (suc i)) (range_with_len a n)
next_from f a zero = refl
next_from f a (suc n) =
    let rest = next_from f (a + 1) n in
    let first : f (a + 1) ≡ f (suc a) = ap f (omega arith) in
    omega (arith, sum_step f (a + 1) n, sum_step (λ i. f (suc i)) a n, rest, first)

pub by_places : {X : Type 0} (f : X → ℕ) (other : X) (xs : List X) → sum_by (λ i. f (slice_index_or xs i other)) (range_with_len 0 (length xs)) ≡ sum_by f xs
by_places f other [] = refl
by_places f other (x ∷ xs) =
    let rest = by_places f other xs in
    let next = next_from (λ i. f (slice_index_or (x ∷ xs) i other)) 0 (length xs) in
    omega (arith, sum_step (λ i. f (slice_index_or (x ∷ xs) i other)) 0 (length xs), sum_by-cons f x xs, next, rest)

module _ {M : Type 0} where
  -- where more was handed out no more is missing
  missing_one_falls : (before now : Option M) → ((message : M) → before ≡ Some message → now ≡ Some message) → missing_one now ≤ missing_one before
  missing_one_falls None None keeps = omega arith
  missing_one_falls None (Some message) keeps = omega arith
  missing_one_falls (Some message) now keeps = let is = ap missing_one (keeps message refl) in omega (arith, is)

  pub missing_falls : (got got_now : ℕ → Option M) (sent : List M) → ((place : ℕ) (message : M) → got place ≡ Some message → got_now place ≡ Some message) → missing got_now sent ≤ missing got sent
  missing_falls got got_now sent keeps =
      at_most (λ i. missing_one (got_now i)) (λ i. missing_one (got i)) (length sent) (λ i within. missing_one_falls (got i) (got_now i) (keeps i))

  -- nothing is where all was handed out
  pub none_missing : (got : ℕ → Option M) (sent : List M) → AreAll got sent → missing got sent ≡ 0
  none_missing got sent all = no_sum (λ i. missing_one (got i)) 0 (length sent) (λ i low high.
      let one = there_is sent i (omega (arith, high)) in ap missing_one (all i (omega (arith, high)) ∙ one.1))

  -- and where more was sent, as much more at most
  one_at_most : (one : Option M) → missing_one one ≤ 1
  one_at_most None = omega arith
  one_at_most (Some message) = omega arith

  pub missing_longer : (got : ℕ → Option M) (sent longer : List M) → length sent ≤ length longer → missing got longer ≤ missing got sent + (length longer - length sent)
  missing_longer got sent longer longer_is = more_from (λ i. missing_one (got i)) 0 (length sent) (length longer) (λ i. one_at_most (got i)) longer_is

  pub missing_no_less : (got : ℕ → Option M) (sent longer : List M) → length sent ≤ length longer → missing got sent ≤ missing got longer
  missing_no_less got sent longer longer_is = no_less_from (λ i. missing_one (got i)) 0 (length sent) (length longer) longer_is
