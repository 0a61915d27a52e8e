-- The greatest of a list depends on its members alone, is one, and that of two lists is the greater of theirs.
use Rattle.std.specs.Prelude.{◌≡◌, ℕ, ◌≤◌, ◌⊎◌, max, List, [], ◌∷◌, ◌++◌, Option, Some, None, Contains}
use Rattle.std.proofs.Common.{refl, sym, ap, subst, inl, inr, arith}
use Rattle.std.proofs.lemmas.Bool.{cases_lt}
use Rattle.std.proofs.lemmas.List.Elements.{All-nil, All-cons, All-contains, Contains-push, Contains-append_left, Contains-append_right, Contains-append_cases}
use Rattle.lattice_laws.specs.Joins.{SameMembers}
use Rattle.lattice_laws.specs.Maybe.{joined_by}
use Rattle.lattice_laws.specs.Greatest.{IsGreatest, IsGreatestOrZero}

-- the greater of two in an order in which only equal values are each at most the other
pub record IsGreater {X : Type 0} (at_most : X → X → Type 0) (greater : X → X → X) : Type 0 where
  pub itself : (a : X) → at_most a a
  pub through : (a b c : X) → at_most a b → at_most b c → at_most a c
  pub each_other : (a b : X) → at_most a b → at_most b a → a ≡ b
  pub one_of_both : (a b : X) → (greater a b ≡ a) ⊎ (greater a b ≡ b)
  pub first_below : (a b : X) → at_most a (greater a b)
  pub second_below : (a b : X) → at_most b (greater a b)

-- what follows for members of each of two lists follows for those of both
pub in_either : {X : Type 0} (xs ys : List X) (claim : Type 0) (x : X) → (Contains xs x → claim) → (Contains ys x → claim) → Contains (xs ++ ys) x → claim
in_either xs ys claim x from_left from_right has = elim (Contains-append_cases xs ys x has) [ inl left ↦ from_left left | inr right ↦ from_right right ]

-- what holds of one holds of the members of the list of it alone
pub in_one : {X : Type 0} (holds : X → Type 0) (x y : X) → holds x → Contains (x ∷ []) y → holds y
in_one holds x y here has = All-contains holds (x ∷ []) y (All-cons holds x [] here (All-nil holds)) has

module _ {X : Type 0} {at_most : X → X → Type 0} {greater : X → X → X} (is_greater : IsGreater at_most greater) where
  -- the greatest of two lists
  pub greatest_of_both : (xs ys : List X) (a b : Option X) → IsGreatest at_most xs a → IsGreatest at_most ys b → IsGreatest at_most (xs ++ ys) (joined_by greater a b)
  greatest_of_both xs ys None None ga gb = λ x has. in_either xs ys ⊥ x (ga x) (gb x) has
  greatest_of_both xs ys None (Some b) ga gb = (Contains-append_right xs ys b gb.0, λ x has. in_either xs ys (at_most x b) x (λ left. absurd (ga x left)) (gb.1 x) has)
  greatest_of_both xs ys (Some a) None ga gb = (Contains-append_left xs ys a ga.0, λ x has. in_either xs ys (at_most x a) x (ga.1 x) (λ right. absurd (gb x right)) has)
  greatest_of_both xs ys (Some a) (Some b) ga gb = (
    elim (is_greater.one_of_both a b) [
      | inl first ↦ subst (Contains (xs ++ ys)) (sym first) (Contains-append_left xs ys a ga.0)
      | inr second ↦ subst (Contains (xs ++ ys)) (sym second) (Contains-append_right xs ys b gb.0)
    ],
    λ x has. in_either xs ys (at_most x (greater a b)) x
        (λ left. is_greater.through x a (greater a b) (ga.1 x left) (is_greater.first_below a b))
        (λ right. is_greater.through x b (greater a b) (gb.1 x right) (is_greater.second_below a b)) has,
  )

  -- the greatest of one
  pub greatest_of_one : (x : X) → IsGreatest at_most (x ∷ []) (Some x)
  greatest_of_one x = (Contains-push [] x, λ y has. in_one (λ z. at_most z x) x y (is_greater.itself x) has)

  -- a list has one greatest
  pub greatest_is_single : (xs : List X) (a b : Option X) → IsGreatest at_most xs a → IsGreatest at_most xs b → a ≡ b
  greatest_is_single xs None None ga gb = refl
  greatest_is_single xs None (Some b) ga gb = absurd (ga b gb.0)
  greatest_is_single xs (Some a) None ga gb = absurd (gb a ga.0)
  greatest_is_single xs (Some a) (Some b) ga gb = ap Some (is_greater.each_other a b (gb.1 a ga.0) (ga.1 b gb.0))

-- lists with the same members have the same greatest
pub greatest_by_members : {X : Type 0} (at_most : X → X → Type 0) (xs ys : List X) (a : Option X) → SameMembers xs ys → IsGreatest at_most xs a → IsGreatest at_most ys a
greatest_by_members at_most xs ys None same ga = λ x has. ga x ((same x).1 has)
greatest_by_members at_most xs ys (Some a) same ga = ((same a).0 ga.0, λ x has. ga.1 x ((same x).1 has))

-- numbers are such an order
pub max_is_greater : IsGreater ◌≤◌ max
max_is_greater = record {
  itself = λ a. omega arith;
  through = λ a b c ab bc. omega arith;
  each_other = λ a b ab ba. omega arith;
  one_of_both = λ a b. elim (cases_lt a b) [
    | inl below ↦ let second : max a b ≡ b = omega arith in inr second
    | inr above ↦ let first : max a b ≡ a = omega arith in inl first
  ];
  first_below = λ a b. omega arith;
  second_below = λ a b. omega arith;
}

-- the greatest number of two lists, 0 for none
pub greatest_or_zero_of_both : (xs ys : List ℕ) (a b : ℕ) → IsGreatestOrZero xs a → IsGreatestOrZero ys b → IsGreatestOrZero (xs ++ ys) (max a b)
greatest_or_zero_of_both xs ys a b ga gb = (
  λ m has. in_either xs ys (m ≤ max a b) m (λ left. let at_most_a = ga.0 m left in omega arith) (λ right. let at_most_b = gb.0 m right in omega arith) has,
  elim (cases_lt a b) [
    | inl below ↦
        let second : max a b ≡ b = omega arith in
        elim gb.1 [ inl has ↦ inl (subst (Contains (xs ++ ys)) (sym second) (Contains-append_right xs ys b has)) | inr zero ↦ inr (omega arith) ]
    | inr above ↦
        let first : max a b ≡ a = omega arith in
        elim ga.1 [ inl has ↦ inl (subst (Contains (xs ++ ys)) (sym first) (Contains-append_left xs ys a has)) | inr zero ↦ inr (omega arith) ]
  ],
)

-- that of none
pub greatest_or_zero_of_none : IsGreatestOrZero [] 0
greatest_or_zero_of_none = (λ m has. absurd (let none = has.1 in omega arith), inr refl)

-- that of one
pub greatest_or_zero_of_one : (n : ℕ) → IsGreatestOrZero (n ∷ []) n
greatest_or_zero_of_one n = (λ m has. in_one (λ k. k ≤ n) n m (omega arith) has, inl (Contains-push [] n))

-- lists with the same members have the same
pub greatest_or_zero_by_members : (xs ys : List ℕ) (a : ℕ) → SameMembers xs ys → IsGreatestOrZero xs a → IsGreatestOrZero ys a
greatest_or_zero_by_members xs ys a same ga = (λ m has. ga.0 m ((same m).1 has), elim ga.1 [ inl has ↦ inl ((same a).0 has) | inr zero ↦ inr zero ])

-- the one greatest of a list is at most the other
at_most_other : (xs : List ℕ) (a b : ℕ) → IsGreatestOrZero xs a → IsGreatestOrZero xs b → a ≤ b
at_most_other xs a b ga gb = elim ga.1 [ inl has ↦ gb.0 a has | inr zero ↦ omega arith ]

-- so a list has one
pub greatest_or_zero_is_single : (xs : List ℕ) (a b : ℕ) → IsGreatestOrZero xs a → IsGreatestOrZero xs b → a ≡ b
greatest_or_zero_is_single xs a b ga gb =
    let first = at_most_other xs a b ga gb in
    let second = at_most_other xs b a gb ga in
    omega arith
