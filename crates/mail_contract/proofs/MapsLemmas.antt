-- A list of which one element changes, and what is told of each of its elements.
use Rattle.std.proofs.Common.{◌≡◌, ℕ, ◌+◌, ◌<◌, ◌≤◌, List, [], ◌∷◌, ◌++◌, All, map, replicate, take, drop, length, get_or, set, sym, ◌∙◌, ap, arith, length-append, length-set}
use Rattle.std.specs.List.{range_with_len}
use Rattle.std.proofs.lemmas.List.FromFn.{map-range_with_len_more}
use Rattle.std.proofs.lemmas.List.{length-map, length-replicate, map-append, map-id, replicate-append-replicate, map-set, get_or-map, get_or-replicate, get_or-set_same, take_more_set, take_more, drop-set-lt, get_or-drop, take_all}
use Rattle.std.proofs.lemmas.Grind.{drop_more_same}
use Rattle.std.proofs.Math.Seq.{map-set_same}

module _ {A B : Type 0} (f : A → B) where
  pub at_map : (xs : List A) (i : ℕ) (old : A) (d : B) → i < length xs → old ≡ get_or xs i old → get_or (map f xs) i d ≡ f old
  at_map xs i old d low at = get_or-map f xs i old d low ∙ ap f (sym at)

  -- what is told of the element stays
  pub same_map : (xs : List A) (i : ℕ) (old new : A) → old ≡ get_or xs i old → f new ≡ f old → map f (set xs i new) ≡ map f xs
  same_map xs i old new at same = map-set_same f xs i new old (same ∙ ap f at)

  -- what is told of it changes in one way
  pub more_map : (change : B → B) (xs : List A) (ys : List B) (i : ℕ) (old new : A) (d : B) → i < length xs → old ≡ get_or xs i old → map f xs ≡ ys → f new ≡ change (f old) → map f (set xs i new) ≡ set ys i (change (get_or ys i d))
  more_map change xs ys i old new d low at is changed =
      map-set f xs i new ∙ (λ j. set (is j) i ((changed ∙ ap change (sym (at_map xs i old d low at) ∙ ap (λ l. get_or l i d) is)) j))

  -- it is told of the new element at its place
  pub new_map : (xs : List A) (i : ℕ) (new : A) (d : B) → i < length xs → get_or (map f (set xs i new)) i d ≡ f new
  new_map xs i new d low = get_or-map f (set xs i new) i new d (rw (length-set xs i new) low) ∙ ap f (get_or-set_same xs i new new low)

get_or-first : {B : Type 0} (xs : List B) (i : ℕ) (d : B) → get_or (drop i xs) 0 d ≡ get_or xs i d
get_or-first xs i d = get_or-drop i xs 0 d ∙ ap (λ k. get_or xs k d) (omega arith)

-- elements of a list change one after another, each in the same way: those before a place have changed
pub record Changed {B : Type 0} (change : B → B) (before now : List B) (i : ℕ) : Type 0 where
  pub done : take i now ≡ map change (take i before)
  pub rest : drop i now ≡ drop i before

module _ {B : Type 0} (change : B → B) (before now : List B) where
  pub changed_more : (i : ℕ) (new d : B) → i < length now → length now ≡ length before → new ≡ change (get_or now i d) → Changed change before now i → Changed change before (set now i new) (i + 1)
  changed_more i new d low long is so_far =
      let low_before : i < length before = omega (arith, long) in
      let same : get_or now i d ≡ get_or before i d = sym (get_or-first now i d) ∙ ap (λ l. get_or l 0 d) so_far.rest ∙ get_or-first before i d in
      record {
        done = take_more_set now i new low ∙ (λ j. so_far.done j ++ (is ∙ ap change same) j ∷ []) ∙ sym (map-append change (take i before) (get_or before i d ∷ [])) ∙ ap (map change) (sym (take_more before i d low_before));
        rest = drop-set-lt (i + 1) now i new (omega arith) ∙ drop_more_same now before i so_far.rest;
      }

  pub changed_all : (i : ℕ) → length now ≤ i → length before ≤ i → Changed change before now i → now ≡ map change before
  changed_all i long long_before so_far = sym (take_all i now long) ∙ so_far.done ∙ ap (map change) (take_all i before long_before)

-- an element more
pub push_map : {A B : Type 0} (f : A → B) (xs now : List A) (x : A) (ys : List B) (y : B) → now ≡ xs ++ x ∷ [] → map f xs ≡ ys → f x ≡ y → map f now ≡ ys ++ y ∷ []
push_map f xs now x ys y is before here = ap (map f) is ∙ map-append f xs (x ∷ []) ∙ (λ j. before j ++ here j ∷ [])

pub push_replicate : {A B : Type 0} (f : A → B) (xs now : List A) (x : A) (n : ℕ) (y : B) → now ≡ xs ++ x ∷ [] → map f xs ≡ replicate n y → f x ≡ y → map f now ≡ replicate (n + 1) y
push_replicate f xs now x n y is before here = push_map f xs now x (replicate n y) y is before here ∙ replicate-append-replicate n 1 y

-- each element shows the same
module _ {A B : Type 0} (f : A → B) (xs : List A) (n : ℕ) (y : B) (are : map f xs ≡ replicate n y) where
  pub as_many : length xs ≡ n
  as_many = sym (length-map xs f) ∙ ap length are ∙ length-replicate n y

  pub each_shows : All (λ x. f x ≡ y) xs
  each_shows i d low =
      sym (get_or-map f xs i d y low) ∙ ap (λ l. get_or l i y) are ∙ get_or-replicate n i y y (omega (arith, low, as_many))

-- a number more
pub range_more : (n : ℕ) → range_with_len 1 (n + 1) ≡ range_with_len 1 n ++ (n + 1) ∷ []
range_more n = sym (map-id (range_with_len 1 (n + 1))) ∙ map-range_with_len_more (λ k. k) 1 n (n + 1) (omega arith) ∙ ap (λ l. l ++ (n + 1) ∷ []) (map-id (range_with_len 1 n))

-- the two elements of a list, taken from its end, where something is told of both
pub popped_two : {A : Type 0} (f : A → ℕ) (txs mid rest : List A) (second first : A) → txs ≡ mid ++ second ∷ [] → mid ≡ rest ++ first ∷ [] → map f txs ≡ 1 ∷ 2 ∷ [] → (f first ≡ 1) × (f second ≡ 2)
popped_two {A} f txs mid rest second first is mid_is told = by rest (is ∙ ap (λ l. l ++ second ∷ []) mid_is)
  where
    by : (rest : List A) → txs ≡ (rest ++ first ∷ []) ++ second ∷ [] → (f first ≡ 1) × (f second ≡ 2)
    by [] here = let both = sym (ap (map f) here) ∙ told in (ap (λ l. get_or l 0 0) both, ap (λ l. get_or l 1 0) both)
    by (x ∷ xs) here = absurd (omega (arith, ap length told, length-map txs f, ap length here, length-append ((x ∷ xs) ++ first ∷ []) (second ∷ []), length-append (x ∷ xs) (first ∷ [])))
