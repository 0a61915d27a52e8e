-- One item of a list changes at its place; what stands after a front.
use Rattle.std.specs.Prelude.{◌≡◌, ℕ, zero, suc, ◌+◌, ◌<◌, ◌≤◌, List, [], ◌∷◌, ◌++◌, length, slice_get, slice_set, slice_index_or, Some}
use Rattle.std.proofs.Common.{◌∙◌, refl, sym, ap, subst, inl, inr, arith}
use Rattle.std.proofs.lemmas.Bool.{cases_eq}
use Rattle.std.proofs.lemmas.Option.{get_or_from_slice_get, same_Some, slice_get_within}
use Rattle.std.proofs.lemmas.List.{length-set}
use Rattle.mail_contract.proofs.PostsLemmas.{stays_elsewhere}

-- the item after a front
pub there_after : {X : Type 0} (front : List X) (x : X) (back : List X) → slice_get (front ++ x ∷ back) (length front) ≡ Some x
there_after [] x back = refl
there_after (first ∷ front) x back = there_after front x back

-- the new one stands there
pub now_there : {X : Type 0} (items : List X) (place : ℕ) (now : X) → place < length items → slice_get (slice_set items place now) place ≡ Some now
now_there [] place now within = absurd (omega (arith, within))
now_there (first ∷ items) zero now within = refl
now_there (first ∷ items) (suc place) now within = now_there items place now (omega (arith, within))

-- what holds of the old one and the new one holds of what stands there before and after
pub at_place : {X : Type 0} (Holds : X → X → Type 0) (items : List X) (place : ℕ) (here there : X) → place < length items → here ≡ slice_index_or items place here → Holds here there
    → (before now : X) → slice_get items place ≡ Some before → slice_get (slice_set items place there) place ≡ Some now → Holds before now
at_place Holds items place here there within is holds before now was after =
    subst (Holds before) (same_Some there now (sym (now_there items place there within) ∙ after))
    (subst (λ old. Holds old there) (is ∙ get_or_from_slice_get items place before here was) holds)

-- what holds of each item before a place, and of the one there, holds of each before the next place
pub one_more_place : {X : Type 0} (Holds : X → Type 0) (items : List X) (place : ℕ) → ((at : ℕ) (x : X) → at < place → slice_get items at ≡ Some x → Holds x) → ((x : X) → slice_get items place ≡ Some x → Holds x)
    → (at : ℕ) (x : X) → at < place + 1 → slice_get items at ≡ Some x → Holds x
one_more_place Holds items place before here at x low is = elim (cases_eq at place) [
  | inl same ↦ here x (ap (slice_get items) (sym same) ∙ is)
  | inr apart ↦ before at x (omega (arith, low, apart)) is
]

-- what holds of the item that was read at a place holds of the one that stands there
pub of_that : {X : Type 0} (Holds : X → Type 0) (items : List X) (place : ℕ) (here : X) → here ≡ slice_index_or items place here → Holds here → (x : X) → slice_get items place ≡ Some x → Holds x
of_that Holds items place here is holds x there = subst Holds (is ∙ get_or_from_slice_get items place x here there) holds

module _ {X : Type 0} (Does : X → X → Type 0) (start : List X) where
  -- Something was done to each item before a place; the others are as they were.
  pub record IsDoneBefore (place : ℕ) (items : List X) : Type 0 where
    pub long : length items ≡ length start
    pub done : (at : ℕ) (before now : X) → at < place → slice_get start at ≡ Some before → slice_get items at ≡ Some now → Does before now
    pub left : (at : ℕ) → place ≤ at → slice_get items at ≡ slice_get start at

  -- at first to none
  pub none_done : IsDoneBefore 0 start
  none_done = record { long = refl; done = λ at before now low was is. absurd (omega (arith, low)); left = λ at past. refl }

  -- then to one more
  pub one_done : (place : ℕ) (items : List X) (here there : X) → place < length items → here ≡ slice_index_or items place here → Does here there → IsDoneBefore place items
      → IsDoneBefore (place + 1) (slice_set items place there)
  one_done place items here there within is does so_far = record {
    long = length-set items place there ∙ so_far.long;
    done = λ at before now low was after. elim (cases_eq at place) [
      | inl same ↦
          at_place Does items place here there within is does before now (so_far.left place (omega arith) ∙ ap (slice_get start) (sym same) ∙ was)
          (ap (slice_get (slice_set items place there)) (sym same) ∙ after)
      | inr apart ↦ so_far.done at before now (omega (arith, low, apart)) was (sym (stays_elsewhere items place at there apart) ∙ after)
    ];
    left = λ at past. stays_elsewhere items place at there (λ same. omega (arith, same, past)) ∙ so_far.left at (omega (arith, past));
  }

  -- and at last to all
  pub all_done : (place : ℕ) (items : List X) → length items ≤ place → IsDoneBefore place items → (at : ℕ) (before now : X) → slice_get start at ≡ Some before → slice_get items at ≡ Some now → Does before now
  all_done place items past so_far at before now was is = let within = slice_get_within items at now is in so_far.done at before now (omega (arith, within, past)) was is
