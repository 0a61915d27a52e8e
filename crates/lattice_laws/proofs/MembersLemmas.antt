-- Membership in lists that are mapped, filtered and put together.
use Rattle.std.specs.Prelude.{◌≡◌, zero, suc, Bool, true, false, cond, ◌⊎◌, List, [], ◌∷◌, map, filter, Contains}
use Rattle.std.proofs.Common.{refl, sym, ap, subst, ◌∙◌, inl, inr, arith}
use Rattle.std.proofs.lemmas.List.Elements.{Contains-append_left, Contains-append_right, Contains-append_cases}
use Rattle.lattice_laws.specs.Joins.{SameMembers}

-- nothing is in the empty list
pub contains_none : {X : Type 0} (x : X) → Contains [] x → ⊥
contains_none x has_it = omega (arith, has_it.1)

module _ {X : Type 0} where
  -- what is in a list is the first or among the others
  pub contains_first : (x : X) (xs : List X) → Contains (x ∷ xs) x
  contains_first x xs = Contains-append_left (x ∷ []) xs x (0, omega arith, refl)

  pub contains_later : (x y : X) (xs : List X) → Contains xs y → Contains (x ∷ xs) y
  contains_later x y xs has_it = Contains-append_right (x ∷ []) xs y has_it

  -- what is in a list of one is that one
  contains_only : (x y : X) → Contains (x ∷ []) y → x ≡ y
  contains_only x y (zero, within, is) = is
  contains_only x y (suc k, within, is) = absurd (omega (arith, within))

  pub contains_cases : (x y : X) (xs : List X) → Contains (x ∷ xs) y → (x ≡ y) ⊎ Contains xs y
  contains_cases x y xs has_it =
      elim (Contains-append_cases (x ∷ []) xs y has_it) [
        | inl here ↦ inl (contains_only x y here)
        | inr later ↦ inr later
      ]

  -- what is kept was there and passes the test, and the other way round
  pub contains_filter : (test : X → Bool) (xs : List X) (x : X) → Contains xs x → test x ≡ true → Contains (filter test xs) x
  contains_filter test [] x has_it passes = has_it
  contains_filter test (y ∷ xs) x has_it passes =
      elim (contains_cases y x xs has_it) [
        | inl same ↦ subst (λ z. Contains (filter test (z ∷ xs)) x) (sym same) (subst (λ t. Contains (cond t (x ∷ filter test xs) (filter test xs)) x) (sym passes) (contains_first x (filter test xs)))
        | inr later ↦
            let among = contains_filter test xs x later passes in
            elim (test y) as (λ t. Contains (cond t (y ∷ filter test xs) (filter test xs)) x) [ true ↦ contains_later y x (filter test xs) among | false ↦ among ]
      ]

  pub contains_filtered : (test : X → Bool) (xs : List X) (x : X) → Contains (filter test xs) x → Contains xs x × (test x ≡ true)
  contains_filtered test [] x has_it = absurd (contains_none x has_it)
  contains_filtered test (y ∷ xs) x has_it = filtered_as (test y) refl has_it (contains_filtered test xs x)
    where
      filtered_as : (t : Bool) → test y ≡ t → Contains (cond t (y ∷ filter test xs) (filter test xs)) x → (Contains (filter test xs) x → Contains xs x × (test x ≡ true)) → Contains (y ∷ xs) x × (test x ≡ true)
      filtered_as true passes among in_rest =
          elim (contains_cases y x (filter test xs) among) [
            | inl same ↦ (subst (Contains (y ∷ xs)) same (contains_first y xs), ap test (sym same) ∙ passes)
            | inr later ↦ let both = in_rest later in (contains_later y x xs both.0, both.1)
          ]
      filtered_as false fails among in_rest = let both = in_rest among in (contains_later y x xs both.0, both.1)

  pub same_filter : (test : X → Bool) (xs ys : List X) → SameMembers xs ys → SameMembers (filter test xs) (filter test ys)
  same_filter test xs ys same x = (
    (λ has_it. let both = contains_filtered test xs x has_it in contains_filter test ys x ((same x).0 both.0) both.1),
    (λ has_it. let both = contains_filtered test ys x has_it in contains_filter test xs x ((same x).1 both.0) both.1),
  )

module _ {X Y : Type 0} (f : X → Y) where
  -- what is mapped comes of a member, and the other way round
  pub contains_map : (xs : List X) (x : X) → Contains xs x → Contains (map f xs) (f x)
  contains_map [] x has_it = absurd (contains_none x has_it)
  contains_map (y ∷ xs) x has_it =
      elim (contains_cases y x xs has_it) [
        | inl same ↦ subst (λ z. Contains (map f (y ∷ xs)) (f z)) same (contains_first (f y) (map f xs))
        | inr later ↦ contains_later (f y) (f x) (map f xs) (contains_map xs x later)
      ]

  pub contains_mapped : (xs : List X) (y : Y) → Contains (map f xs) y → (x : X) × Contains xs x × (f x ≡ y)
  contains_mapped [] y has_it = absurd (contains_none y has_it)
  contains_mapped (x ∷ xs) y has_it =
      elim (contains_cases (f x) y (map f xs) has_it) [
        | inl same ↦ (x, contains_first x xs, same)
        | inr later ↦ let found = contains_mapped xs y later in (found.0, contains_later x found.0 xs found.1, found.2)
      ]

  pub same_map : (xs ys : List X) → SameMembers xs ys → SameMembers (map f xs) (map f ys)
  same_map xs ys same y = (
    (λ has_it. let found = contains_mapped xs y has_it in subst (Contains (map f ys)) found.2 (contains_map ys found.0 ((same found.0).0 found.1))),
    (λ has_it. let found = contains_mapped ys y has_it in subst (Contains (map f xs)) found.2 (contains_map xs found.0 ((same found.0).1 found.1))),
  )
