-- To remove a member that is below another changes neither which members are maximal nor which are below some other.
use Rattle.std.specs.Prelude.{◌≡◌, ℕ, suc, ◌+◌, ◌<◌, ◌≤◌, Bool, true, false, cond, not, ◌||◌, List, [], ◌∷◌, ◌++◌, length, take, drop, get_or, All}
use Rattle.std.specs.List.{list_any, filter, remove}
use Rattle.std.proofs.Common.{refl, sym, ap, subst, ◌∙◌, inl, inr, arith}
use Rattle.std.proofs.Math.Seq.{drop-cons}
use Rattle.std.proofs.lemmas.Bool.{or_cases, or_left, or_right}
use Rattle.std.proofs.lemmas.List.{take-append-drop, take_at, take_all, length-take-le}
use Rattle.std.proofs.lemmas.List.Elements.{All-nil, All-weaker, All-more, filter_agree, filter-append}
use Rattle.std.proofs.lemmas.List.Edits.{length-remove}
use Rattle.std.proofs.lemmas.List.Folds.{list_any-append}
use Rattle.version_antichain.specs.Antichain.{IsStrictOrder, maximal}
use Rattle.version_antichain.specs.AntichainLaws.{kept_from_none_below}

-- a list is what comes before a place, the member there, and what follows
split_at : {E : Type 0} (xs : List E) (i : ℕ) (d : E) → i < length xs → xs ≡ take i xs ++ get_or xs i d ∷ drop (suc i) xs
split_at xs i d within = sym (take-append-drop i xs) ∙ ap (λ rest. take i xs ++ rest) (drop-cons xs i d within)

module _ {E : Type 0} {below : E → E → Bool} (order : IsStrictOrder below) where
  -- what is below x is below all that x is below
  below_higher : (y x : E) (xs : List E) → below y x ≡ true → list_any (below x) xs ≡ true → list_any (below y) xs ≡ true
  below_higher y x [] lower some = some
  below_higher y x (z ∷ xs) lower some =
      elim (or_cases (below x z) (list_any (below x) xs) some) [
        | inl here ↦ or_left (below y z) (list_any (below y) xs) (order.through y x z lower here)
        | inr later ↦ or_right (below y z) (list_any (below y) xs) (below_higher y x xs lower later)
      ]

  -- a member that is below another is so when it is taken out of the list
  still_below : (l r : List E) (x : E) → list_any (below x) (l ++ x ∷ r) ≡ true → list_any (below x) (l ++ r) ≡ true
  still_below l r x some =
      list_any-append (below x) l r
      ∙ ap (λ t. list_any (below x) l || (t || list_any (below x) r)) (sym (order.not_itself x))
      ∙ sym (list_any-append (below x) l (x ∷ r))
      ∙ some

  -- and nothing else ceases to be below some member
  below_without : (l r : List E) (x y : E) (lower : Bool) → below y x ≡ lower → list_any (below x) (l ++ x ∷ r) ≡ true → list_any (below y) (l ++ r) ≡ list_any (below y) (l ++ x ∷ r)
  below_without l r x y true is some =
      below_higher y x (l ++ r) is (still_below l r x some)
      ∙ sym (list_any-append (below y) l (x ∷ r) ∙ or_right (list_any (below y) l) (below y x || list_any (below y) r) (or_left (below y x) (list_any (below y) r) is))
  below_without l r x y false is some =
      list_any-append (below y) l r
      ∙ ap (λ t. list_any (below y) l || (t || list_any (below y) r)) (sym is)
      ∙ sym (list_any-append (below y) l (x ∷ r))

  maximal_without : (l r : List E) (x : E) → list_any (below x) (l ++ x ∷ r) ≡ true → maximal below (l ++ r) ≡ maximal below (l ++ x ∷ r)
  maximal_without l r x some =
      let test : E → Bool = λ y. not (list_any (below y) (l ++ x ∷ r)) in
      filter_agree (λ y. not (list_any (below y) (l ++ r))) test (λ y. ap not (below_without l r x y (below y x) refl some)) (l ++ r)
      ∙ filter-append test l r
      ∙ ap (λ t. filter test l ++ cond (not t) (x ∷ filter test r) (filter test r)) (sym some)
      ∙ sym (filter-append test l (x ∷ r))

  -- the maximal members stay when a member is removed that is below another
  maximal-remove : (xs : List E) (i : ℕ) (d : E) → i < length xs → list_any (below (get_or xs i d)) xs ≡ true → maximal below (remove xs i) ≡ maximal below xs
  maximal-remove xs i d within some =
      let split = split_at xs i d within in
      maximal_without (take i xs) (drop (suc i) xs) (get_or xs i d) (ap (list_any (below (get_or xs i d))) (sym split) ∙ some)
      ∙ ap (maximal below) (sym split)

  -- the members before it stay below none
  none_below-remove : (xs : List E) (i : ℕ) (d : E) → i < length xs → list_any (below (get_or xs i d)) xs ≡ true → All (λ y. list_any (below y) xs ≡ false) (take i xs) → All (λ y. list_any (below y) (remove xs i) ≡ false) (take i (remove xs i))
  none_below-remove xs i d within some none =
      let split = split_at xs i d within in
      let x = get_or xs i d in
      let some_split : list_any (below x) (take i xs ++ x ∷ drop (suc i) xs) ≡ true = ap (list_any (below x)) (sym split) ∙ some in
      subst (All (λ y. list_any (below y) (remove xs i) ≡ false)) (sym (take_at (take i xs) (drop (suc i) xs) i (length-take-le i xs (omega arith))))
      (All-weaker (λ y. list_any (below y) xs ≡ false) (λ y. list_any (below y) (remove xs i) ≡ false) (λ y none_y.
      below_without (take i xs) (drop (suc i) xs) x y (below y x) refl some_split ∙ ap (list_any (below y)) (sym split) ∙ none_y) (take i xs) none)

-- the maximal members of a list are those of the first, and those before the place are below none
pub record IsPassed {E : Type 0} (below : E → E → Bool) (first xs : List E) (i : ℕ) : Type 0 where
  pub same_maximal : maximal below xs ≡ maximal below first
  pub none_below : All (λ y. list_any (below y) xs ≡ false) (take i xs)
  pub within : i ≤ length xs

module _ {E : Type 0} {below : E → E → Bool} (order : IsStrictOrder below) where
  -- nothing is passed at first
  pub passed_none : (first : List E) → IsPassed below first first 0
  passed_none first = record { same_maximal = refl; none_below = All-nil (λ y. list_any (below y) first ≡ false); within = omega arith }

  -- a member that is below another is removed
  pub passed_removed : (first xs seen new : List E) (i : ℕ) (x : E) → IsPassed below first xs i → i < length xs → x ≡ get_or xs i x → seen ≡ xs → list_any (below x) seen ≡ true → new ≡ remove xs i → IsPassed below first new i
  passed_removed first xs seen new i x is within here seen_is some new_is =
      let some_here : list_any (below (get_or xs i x)) xs ≡ true = ap (λ y. list_any (below y) xs) (sym here) ∙ ap (list_any (below x)) (sym seen_is) ∙ some in
      let shorter : length (remove xs i) + 1 ≡ length xs = length-remove xs i within in
      subst (λ list. IsPassed below first list i) (sym new_is) (record {
        same_maximal = maximal-remove order xs i x within some_here ∙ is.same_maximal;
        none_below = none_below-remove order xs i x within some_here is.none_below;
        within = omega (arith, shorter, within);
      })

  -- one that is below none is passed
  pub passed_kept : (first xs seen : List E) (i : ℕ) (x : E) → IsPassed below first xs i → i < length xs → x ≡ get_or xs i x → seen ≡ xs → list_any (below x) seen ≡ false → IsPassed below first xs (i + 1)
  passed_kept first xs seen i x is within here seen_is none =
      let none_here : list_any (below (get_or xs i x)) xs ≡ false = ap (λ y. list_any (below y) xs) (sym here) ∙ ap (list_any (below x)) (sym seen_is) ∙ none in
      record {
        same_maximal = is.same_maximal;
        none_below = All-more (λ y. list_any (below y) xs ≡ false) xs i x within is.none_below none_here;
        within = omega (arith, within);
      }

  -- where all are passed, they are the maximal members of the first
  pub passed_all : (first xs : List E) (i : ℕ) → IsPassed below first xs i → length xs ≤ i → xs ≡ maximal below first
  passed_all first xs i is past =
      sym (kept_from_none_below below xs (subst (All (λ y. list_any (below y) xs ≡ false)) (take_all i xs past) is.none_below)) ∙ is.same_maximal
