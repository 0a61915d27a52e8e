-- What is gathered of a list, by a function that gives something for some of its members.
use Rattle.std.specs.Prelude.{◌≡◌, List, [], ◌∷◌, Option, Some, None, Contains, filter_map}
use Rattle.std.specs.List.{cons_option}
use Rattle.std.proofs.Common.{refl, sym, ap, subst, ◌∙◌, inl, inr, arith}
use Rattle.std.proofs.lemmas.List.Elements.{Contains-push, Contains-append_left, Contains-append_right, Contains-append_cases, filter_map-append}
use Rattle.lattice_laws.proofs.GreatestOfListsLemmas.{in_one}
use Rattle.lattice_laws.specs.Joins.{SameMembers}

module _ {X Y : Type 0} (gather : X → Option Y) where
  -- some member gives it
  abbrev pub IsGiven : List X → Y → Type 0
  IsGiven xs y = (x : X) × Contains xs x × (gather x ≡ Some y)

  -- what the others give is given
  given_later : (x : X) (xs : List X) (y : Y) → IsGiven xs y → IsGiven (x ∷ xs) y
  given_later x xs y from = (from.0, Contains-append_right (x ∷ []) xs from.0 from.1, from.2)

  -- what is gathered is given by some member
  pub gathered_from : (xs : List X) (y : Y) → Contains (filter_map gather xs) y → IsGiven xs y
  gathered_from [] y has = absurd (omega arith)
  gathered_from (x ∷ xs) y has =
      elim (gather x) as (λ o. gather x ≡ o → Contains (cons_option o (filter_map gather xs)) y → IsGiven (x ∷ xs) y) [
        | None ↦ λ gives later. given_later x xs y (gathered_from xs y later)
        | Some z ↦ λ gives there. elim (Contains-append_cases (z ∷ []) (filter_map gather xs) y there) [
          | inl here ↦ (x, Contains-append_left (x ∷ []) xs x (Contains-push [] x), gives ∙ in_one (λ w. Some z ≡ Some w) z y refl here)
          | inr later ↦ given_later x xs y (gathered_from xs y later)
        ]
      ] refl has

  -- and what some member gives is gathered
  pub gathered_of : (xs : List X) (x : X) (y : Y) → Contains xs x → gather x ≡ Some y → Contains (filter_map gather xs) y
  gathered_of [] x y has gives = absurd (omega arith)
  gathered_of (first ∷ xs) x y has gives =
      elim (Contains-append_cases (first ∷ []) xs x has) [
        | inl here ↦
            let first_gives : gather first ≡ Some y = ap gather (in_one (λ w. first ≡ w) first x refl here) ∙ gives in
            subst (λ o. Contains (cons_option o (filter_map gather xs)) y) (sym first_gives) (Contains-append_left (y ∷ []) (filter_map gather xs) y (Contains-push [] y))
        | inr later ↦ subst (λ ys. Contains ys y) (sym (filter_map-append gather (first ∷ []) xs)) (Contains-append_right (filter_map gather (first ∷ [])) (filter_map gather xs) y (gathered_of xs x y later gives))
      ]

  -- so of lists with the same members the same is gathered
  pub same_gathered : (xs ys : List X) → SameMembers xs ys → SameMembers (filter_map gather xs) (filter_map gather ys)
  same_gathered xs ys same y = (
    (λ has. let from = gathered_from xs y has in gathered_of ys from.0 y ((same from.0).0 from.1) from.2),
    (λ has. let from = gathered_from ys y has in gathered_of xs from.0 y ((same from.0).1 from.1) from.2),
  )
