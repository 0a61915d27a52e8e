-- What stands where in a list of which one item was changed, what was gathered of a list, and what an option was before a change.
use Rattle.std.specs.Prelude.{◌≡◌, ◌≢◌, ℕ, zero, suc, ◌⊎◌, List, [], ◌∷◌, Option, Some, None, option_map, slice_get, slice_index_or, filter_map, Contains}
use Rattle.std.proofs.Common.{refl, sym, ap, subst, ◌∙◌, inl, inr}
use Rattle.std.specs.List.{cons_option}
use Rattle.std.proofs.lemmas.Bool.{cases_eq}
use Rattle.std.proofs.lemmas.Option.{none-some, same_Some}
use Rattle.lattice_laws.proofs.MembersLemmas.{contains_none, contains_first, contains_later, contains_cases}
use Rattle.merge_world.specs.Effects.{changed_at}

module _ {A : Type 0} (change : A → A) where
  -- no item of an empty list changes
  pub changed_none : (number : ℕ) → changed_at number change [] ≡ []
  changed_none zero = refl
  changed_none (suc i) = refl

  -- the item of the number is the changed one, where what stands for no item stays
  pub changed_here : (none : A) → change none ≡ none → (number : ℕ) (items : List A) → slice_index_or (none ∷ changed_at number change items) number none ≡ change (slice_index_or (none ∷ items) number none)
  changed_here none stays zero items = sym stays
  changed_here none stays (suc i) [] = sym stays
  changed_here none stays (suc zero) (item ∷ items) = refl
  changed_here none stays (suc (suc i)) (item ∷ items) = changed_here none stays (suc i) items

  -- and each other is as before
  pub changed_there : (none : A) (number n : ℕ) (items : List A) → n ≢ number → slice_index_or (none ∷ changed_at number change items) n none ≡ slice_index_or (none ∷ items) n none
  changed_there none zero n items apart = refl
  changed_there none (suc i) n [] apart = refl
  changed_there none (suc i) zero (item ∷ items) apart = refl
  changed_there none (suc zero) (suc zero) (item ∷ items) apart = absurd (apart refl)
  changed_there none (suc zero) (suc (suc k)) (item ∷ items) apart = refl
  changed_there none (suc (suc i)) (suc zero) (item ∷ items) apart = refl
  changed_there none (suc (suc i)) (suc (suc k)) (item ∷ items) apart = changed_there none (suc i) (suc k) items (λ same. apart (ap suc same))

  -- so an item is as before, or it is the changed one
  pub changed_cases : (none : A) → change none ≡ none → (number n : ℕ) (items : List A)
      → (slice_index_or (none ∷ changed_at number change items) n none ≡ slice_index_or (none ∷ items) n none)
      ⊎ ((n ≡ number) × (slice_index_or (none ∷ changed_at number change items) n none ≡ change (slice_index_or (none ∷ items) n none)))
  changed_cases none stays number n items =
      elim (cases_eq n number) [
        | inl same ↦ inr (same, subst (λ k. slice_index_or (none ∷ changed_at number change items) k none ≡ change (slice_index_or (none ∷ items) k none)) (sym same) (changed_here none stays number items))
        | inr apart ↦ inl (changed_there none number n items apart)
      ]

  -- what is in the list then was there before, or it is the changed item
  pub changed_contains : (i : ℕ) (items : List A) (x : A) → Contains (changed_at (suc i) change items) x → Contains items x ⊎ ((y : A) × (slice_get items i ≡ Some y) × (change y ≡ x))
  changed_contains i [] x has_it = inl has_it
  changed_contains zero (item ∷ items) x has_it =
      elim (contains_cases (change item) x items has_it) [
        | inl same ↦ inr (item, refl, same)
        | inr later ↦ inl (contains_later item x items later)
      ]
  changed_contains (suc i) (item ∷ items) x has_it =
      elim (contains_cases item x (changed_at (suc i) change items) has_it) [
        | inl same ↦ inl (subst (Contains (item ∷ items)) same (contains_first item items))
        | inr later ↦ elim (changed_contains i items x later) [
          | inl before ↦ inl (contains_later item x items before)
          | inr changed ↦ inr changed
        ]
      ]

-- what is gathered is given by some member
pub gathered_from : {X Y : Type 0} (gather : X → Option Y) (xs : List X) (y : Y) → Contains (filter_map gather xs) y → (x : X) × (gather x ≡ Some y)
gathered_from gather [] y has_it = absurd (contains_none y has_it)
gathered_from {X = X} {Y = Y} gather (x ∷ xs) y has_it =
    elim (gather x) as (λ o. gather x ≡ o → Contains (cons_option o (filter_map gather xs)) y → (x : X) × (gather x ≡ Some y)) [
      | None ↦ λ gives later. gathered_from gather xs y later
      | Some z ↦ λ gives there. elim (contains_cases z y (filter_map gather xs) there) [
        | inl here ↦ (x, gives ∙ ap Some here)
        | inr later ↦ gathered_from gather xs y later
      ]
    ] refl has_it

-- what an option is changed to comes of what it was
pub changed_from : {X Y : Type 0} (change : X → Y) (found : Option X) (y : Y) → option_map change found ≡ Some y → (x : X) × (found ≡ Some x) × (change x ≡ y)
changed_from change None y is = absurd (none-some y is)
changed_from change (Some x) y is = (x, refl, same_Some (change x) y is)
