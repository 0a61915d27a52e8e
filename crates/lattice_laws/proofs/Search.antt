-- What a search by halves finds among entries in the order of their keys, and what an edit at that place does.
use Rattle.std.proofs.Common.{◌≡◌, ℕ, zero, suc, ◌<◌, ◌≤◌, IsTrue, List, [], ◌∷◌, ◌&&◌, length, set, slice_index_or, Some, None, Result, Ok, Err, IfOk, IfErr, cond, refl, sym, ap, subst, ◌∙◌, inl, inr, insert, arith}
use Rattle.std.specs.declared.cmp.Ordering.{Ordering}
use Rattle.std.specs.declared.cmp.Ordering.TheVariants.{Less, Equal, Greater}
use Rattle.std.specs.Ordering.{is_eq, is_lt, ordering_index}
use Rattle.std.specs.Cmp.{IsTotalOrder, alike_right, tied_back}
use Rattle.std.specs.List.Sorted.{IsSearchInRange, IsBinarySearchResult, IsNonDecreasingBy}
use Rattle.std.specs.FinMap.{find, is_sorted}
use Rattle.std.specs.FinMap.Entries.{below_all}
use Rattle.std.proofs.lemmas.Bool.{cases_lt}
use Rattle.lattice_laws.specs.Entries.{plain_entries, raised}
use Rattle.lattice_laws.specs.Places.{IsPlaceOf, IsGapFor}
use Rattle.lattice_laws.specs.Ascending.{first_below, ascending_tail, find_below}
use Rattle.lattice_laws.proofs.AscendingLemmas.{Greater_from_Less, Less_from_Greater, below_at, below_all_from_each, raised_past, raised_first, raised_before}

-- an order is at most `Greater`
index_at_most_2 : (r : Ordering) → ordering_index r ≤ 2
index_at_most_2 Less = omega arith
index_at_most_2 Equal = omega arith
index_at_most_2 Greater = omega arith

-- a lesser key compares as at most what a greater one does
index_rises : {K : Type 0} (cmp : K → K → Ordering) → IsTotalOrder cmp → (x y key : K) (r : Ordering) → cmp x y ≡ Less → cmp y key ≡ r → ordering_index (cmp x key) ≤ ordering_index r
index_rises cmp total x y key Less h is = subst (λ r. ordering_index r ≤ 0) (sym (total.trans x y key h is)) (omega arith)
index_rises cmp total x y key Equal h is = subst (λ r. ordering_index r ≤ 1) (sym h ∙ alike_right total y key x is) (omega arith)
index_rises cmp total x y key Greater h is = index_at_most_2 (cmp x key)

module _ {K V : Type 0} (cmp : K → K → Ordering) where
  -- keys rise from place to place
  ascending_at : (es : List (K × V)) (i j : ℕ) (d : K × V) → IsTrue (is_sorted cmp es) → i < j → j < length es → cmp (slice_index_or es i d).0 (slice_index_or es j d).0 ≡ Less
  ascending_at [] i j d rises lt in_range = absurd (omega arith)
  ascending_at (e ∷ es) i zero d rises lt in_range = absurd (omega arith)
  ascending_at (e ∷ es) zero (suc j) d rises lt in_range = below_at cmp e.0 es j d (omega arith) (first_below cmp e es rises)
  ascending_at (e ∷ es) (suc i) (suc j) d rises lt in_range = ascending_at es i j d (ascending_tail cmp e es rises) (omega arith) (omega arith)

  module _ (total : IsTotalOrder cmp) (key : K) where
    -- so the comparisons with a key rise, as a binary search asks
    comparisons_rise : (es : List (K × V)) → IsTrue (is_sorted cmp es) → IsNonDecreasingBy (λ entry. ordering_index (cmp entry.0 key)) es
    comparisons_rise es rises i j d le in_range =
        let index : ℕ → ℕ = λ k. ordering_index (cmp (slice_index_or es k d).0 key) in
        elim (cases_lt i j) [
          | inl lt ↦ index_rises cmp total (slice_index_or es i d).0 (slice_index_or es j d).0 key (cmp (slice_index_or es j d).0 key) (ascending_at es i j d rises lt in_range) refl
          | inr ge ↦
              let same : ◌≡◌ {A = ℕ} i j = omega arith in
              let equal : ◌≡◌ {A = ℕ} (index i) (index j) = ap index same in
              omega arith
        ]

    -- a search that hits has found the key
    pub found_place : (es : List (K × V)) (r : Result ℕ ℕ) → IsSearchInRange r (length es) → IsBinarySearchResult (λ entry. cmp entry.0 key) es r → IfOk r (IsPlaceOf cmp key es)
    found_place es (Ok at) in_range equal = record { in_range = in_range; ties = λ d. tied_back total (slice_index_or es at d).0 key (equal d) }
    found_place es (Err at) in_range parted = tt

    -- and one that misses has found the gap for it
    pub found_gap : (es : List (K × V)) (r : Result ℕ ℕ) → IsTrue (is_sorted cmp es) → IsSearchInRange r (length es) → IsBinarySearchResult (λ entry. cmp entry.0 key) es r → IfErr r (IsGapFor cmp key es)
    found_gap es (Ok at) rises in_range equal = tt
    found_gap es (Err at) rises in_range parted = record {
      in_range = in_range;
      below_before = λ j d lt. Greater_from_Less cmp total (slice_index_or es j d).0 key ((parted (comparisons_rise es rises)).0 j d (omega arith) lt);
      above_after = λ j d le lt. Less_from_Greater cmp total (slice_index_or es j d).0 key ((parted (comparisons_rise es rises)).1 j d le lt);
    }

    -- a key is above those before its place
    above_before_place : (e : K × V) (es : List (K × V)) (i : ℕ) → IsTrue (is_sorted cmp (e ∷ es)) → IsPlaceOf cmp key (e ∷ es) (suc i) → cmp key e.0 ≡ Greater
    above_before_place e es i rises at =
        let in_range : i < length es = omega (arith, at.in_range) in
        Greater_from_Less cmp total e.0 key (alike_right total key (slice_index_or es i e).0 e.0 (at.ties e) ∙ below_at cmp e.0 es i e in_range (first_below cmp e es rises))

  -- a place after the first is a place of the rest
  place_in_tail : (key : K) (e : K × V) (es : List (K × V)) (i : ℕ) → IsPlaceOf cmp key (e ∷ es) (suc i) → IsPlaceOf cmp key es i
  place_in_tail key e es i at = record { in_range = omega (arith, at.in_range); ties = λ d. at.ties d }

  -- and so is a gap
  gap_in_tail : (key : K) (e : K × V) (es : List (K × V)) (i : ℕ) → IsGapFor cmp key (e ∷ es) (suc i) → IsGapFor cmp key es i
  gap_in_tail key e es i gap = record {
    in_range = omega (arith, gap.in_range);
    below_before = λ j d lt. gap.below_before (suc j) d (omega arith);
    above_after = λ j d le lt. gap.above_after (suc j) d (omega arith) (omega arith);
  }

module _ {K L P : Type 0} (cmp : K → K → Ordering) (plain : L → P) where
  -- a key is below the keys of the entries just where it is below those of their plain values
  below_plain : (key : K) (es : List (K × L)) → below_all cmp key (plain_entries plain es) ≡ below_all cmp key es
  below_plain key [] = refl
  below_plain key (e ∷ es) = ap (λ b. is_lt (cmp key e.0) && b) (below_plain key es)

  -- and the keys are the same, so they rise alike
  pub ascending_plain : (es : List (K × L)) → is_sorted cmp (plain_entries plain es) ≡ is_sorted cmp es
  ascending_plain [] = refl
  ascending_plain (e ∷ es) = λ i. below_plain e.0 es i && ascending_plain es i

  -- a key that is in a gap before all is below all
  below_in_gap : (key : K) (es : List (K × L)) → IsGapFor cmp key es 0 → IsTrue (below_all cmp key (plain_entries plain es))
  below_in_gap key es gap = below_plain key es ∙ below_all_from_each cmp key es (λ i d in_range. gap.above_after i d (omega arith) in_range)

  -- a key in a gap is not found
  pub find_in_gap : (key : K) (es : List (K × L)) (i : ℕ) → IsGapFor cmp key es i → find cmp key (plain_entries plain es) ≡ None
  find_in_gap key es zero gap = find_below cmp key (plain_entries plain es) (below_in_gap key es gap)
  find_in_gap key [] (suc i) gap = refl
  find_in_gap key (e ∷ es) (suc i) gap =
      ap (λ r. cond (is_eq r) (Some (plain e.1)) (find cmp key (plain_entries plain es))) (gap.below_before 0 e (omega arith))
      ∙ find_in_gap key es i (gap_in_tail cmp key e es i gap)

  module _ (joined : P → P → P) where
    -- an entry put into the gap raises the map at its key
    pub raised_in_gap : (key : K) (value : L) (es : List (K × L)) (i : ℕ) → IsGapFor cmp key es i → plain_entries plain (insert es i (key, value)) ≡ raised cmp joined key (plain value) (plain_entries plain es)
    raised_in_gap key value es zero gap = sym (raised_before cmp joined key (plain value) (plain_entries plain es) (below_in_gap key es gap))
    raised_in_gap key value [] (suc i) gap = absurd (omega (arith, gap.in_range))
    raised_in_gap key value (e ∷ es) (suc i) gap =
        ap (λ rest. (e.0, plain e.1) ∷ rest) (raised_in_gap key value es i (gap_in_tail cmp key e es i gap))
        ∙ sym (raised_past cmp joined key (plain value) (e.0, plain e.1) (plain_entries plain es) (gap.below_before 0 e (omega arith)))

  module _ (total : IsTotalOrder cmp) where
    -- a key is found at its place
    pub find_at_place : (key : K) (es : List (K × L)) (i : ℕ) (d : K × L) → IsTrue (is_sorted cmp es) → IsPlaceOf cmp key es i → find cmp key (plain_entries plain es) ≡ Some (plain (slice_index_or es i d).1)
    find_at_place key [] i d rises at = absurd (omega (arith, at.in_range))
    find_at_place key (e ∷ es) zero d rises at = ap (λ r. cond (is_eq r) (Some (plain e.1)) (find cmp key (plain_entries plain es))) (at.ties e)
    find_at_place key (e ∷ es) (suc i) d rises at =
        ap (λ r. cond (is_eq r) (Some (plain e.1)) (find cmp key (plain_entries plain es))) (above_before_place cmp total key e es i rises at)
        ∙ find_at_place key es i d (ascending_tail cmp e es rises) (place_in_tail cmp key e es i at)

    -- an entry whose value is joined with another is the map raised at its key
    pub raised_at_place : (joined : P → P → P) (key : K) (value : P) (es : List (K × L)) (i : ℕ) (d new : K × L) → IsTrue (is_sorted cmp es) → IsPlaceOf cmp key es i → new.0 ≡ (slice_index_or es i d).0 → plain new.1 ≡ joined (plain (slice_index_or es i d).1) value → plain_entries plain (set es i new) ≡ raised cmp joined key value (plain_entries plain es)
    raised_at_place joined key value [] i d new rises at same_key is_join = absurd (omega (arith, at.in_range))
    raised_at_place joined key value (e ∷ es) zero d new rises at same_key is_join =
        (λ j. (same_key j, is_join j) ∷ plain_entries plain es)
        ∙ sym (raised_first cmp joined key value (e.0, plain e.1) (plain_entries plain es) (at.ties e))
    raised_at_place joined key value (e ∷ es) (suc i) d new rises at same_key is_join =
        ap (λ rest. (e.0, plain e.1) ∷ rest) (raised_at_place joined key value es i d new (ascending_tail cmp e es rises) (place_in_tail cmp key e es i at) same_key is_join)
        ∙ sym (raised_past cmp joined key value (e.0, plain e.1) (plain_entries plain es) (above_before_place cmp total key e es i rises at))

  -- an entry that is written over with an equal one changes nothing
  pub plain_after_same : (es : List (K × L)) (i : ℕ) (d new : K × L) → i < length es → new.0 ≡ (slice_index_or es i d).0 → plain new.1 ≡ plain (slice_index_or es i d).1 → plain_entries plain (set es i new) ≡ plain_entries plain es
  plain_after_same [] i d new in_range same_key same_value = refl
  plain_after_same (e ∷ es) zero d new in_range same_key same_value = λ j. (same_key j, same_value j) ∷ plain_entries plain es
  plain_after_same (e ∷ es) (suc i) d new in_range same_key same_value = ap (λ rest. (e.0, plain e.1) ∷ rest) (plain_after_same es i d new (omega arith) same_key same_value)
