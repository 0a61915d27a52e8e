-- Ascending keys, each one of so many: one more, some fewer, and how many there can be; and such keys of each mate.
use Rattle.std.specs.Prelude.{◌≡◌, ◌==◌, ℕ, zero, suc, ◌+◌, ◌-◌, ◌*◌, ◌^◌, ◌<◌, ◌≤◌, Bool, false, IsTrue, if◌then◌else◌, List, [], ◌∷◌, All, drop, length, map, replicate, slice_index_or, slice_set, sum_by, take, Result, Ok, Err}
use Rattle.std.specs.Cmp.Derive.{both_true}
use Rattle.std.specs.List.{insert, remove_range}
use Rattle.std.specs.List.Sorted.{IsBinarySearchResult, IsNonDecreasing}
use Rattle.std.specs.Ordering.{nat_cmp}
use Rattle.std.specs.Result.{MatchResult}
use Rattle.std.proofs.Common.{refl, sym, ap, subst, ◌∙◌, inl, inr, add-one, arith}
use Rattle.std.proofs.lemmas.Bool.{and_parts, eq-eqb, le-leb, le-ltb, leb-true, lt-ltb, ne_eqb, cases_order}
use Rattle.std.proofs.lemmas.List.{get_or-map, get_or_default, length-append, length-drop, length-map, length-take, map-set}
use Rattle.std.proofs.lemmas.List.Edits.{length-insert}
use Rattle.std.proofs.lemmas.List.Elements.{All-append, All-cons, All-drop, All-head, All-map, All-nil, All-replicate, All-set, All-tail, All-take, All-weaker}
use Rattle.std.proofs.lemmas.List.Sums.{sum_by-le, sum_by-set}
use Rattle.std.proofs.lemmas.List.Sorted.{IsNonDecreasingBy-from_all_adjacent, searched}
use Rattle.std.proofs.lemmas.Nat.{mul-lt}
use Rattle.merge_world.specs.World.{is_ascending}
use Rattle.merge_world.proofs.AscendingLemmas.{ascending_at}
use Rattle.gossip_rounds.specs.Changes.{AreKeys, PlainKeys, with_key}
use Rattle.gossip_rounds.proofs.BatchesLemmas.{with_key_ascends}

-- ascending keys do not fall
keys_rise : (keys : List ℕ) → IsTrue (is_ascending keys) → IsNonDecreasing keys
keys_rise keys ascending = IsNonDecreasingBy-from_all_adjacent (λ key. key) keys (λ k d low.
    let up : slice_index_or keys k 0 < slice_index_or keys (suc k) 0 = ascending_at keys k (omega (arith, low)) ascending in
    let next : slice_index_or keys (k + 1) d ≡ slice_index_or keys (suc k) 0 = rw add-one (get_or_default keys (suc k) d 0 (omega (arith, low))) in
    omega (arith, up, next, get_or_default keys k d 0 (omega (arith, low))))

-- ascending keys without the first ascend
tail_ascending : (first : ℕ) (keys : List ℕ) → IsTrue (is_ascending (first ∷ keys)) → IsTrue (is_ascending keys)
tail_ascending first [] ascending = refl
tail_ascending first (next ∷ keys) ascending = (and_parts _ _ ascending).1

-- the first of ascending keys is below the others
first_below : (first : ℕ) (keys : List ℕ) (place : ℕ) (d : ℕ) → IsTrue (is_ascending (first ∷ keys)) → place < length keys
    → first < slice_index_or keys place d
first_below first [] place d ascending low = absurd (omega (arith, low))
first_below first (next ∷ keys) zero d ascending low = omega (arith, leb-true (first + 1) next (and_parts _ _ ascending).0)
first_below first (next ∷ keys) (suc place) d ascending low =
    let below : first < next = omega (arith, leb-true (first + 1) next (and_parts _ _ ascending).0) in
    let above : next < slice_index_or keys place d =
    first_below next keys place d (tail_ascending first (next ∷ keys) ascending) (omega (arith, low)) in
    omega (arith, below, above)

-- how a key comes to others, by whether the first of them is above it, is it, or is below it
module _ (key next : ℕ) (keys : List ℕ) where
  -- the keys with it, by what two tests answer
  abbrev by_tests : Bool → Bool → List ℕ
  by_tests before same = if before then key ∷ next ∷ keys else if same then next ∷ keys else next ∷ with_key key keys

  goes_first : key < next → with_key key (next ∷ keys) ≡ key ∷ next ∷ keys
  goes_first below = ap (λ before. by_tests before (key == next)) (lt-ltb key next below)

  is_first : key ≡ next → with_key key (next ∷ keys) ≡ next ∷ keys
  is_first same = ap (λ before. by_tests before (key == next)) (le-ltb key next (omega (arith, same))) ∙ ap (by_tests false) (eq-eqb key next same)

  goes_on : next < key → with_key key (next ∷ keys) ≡ next ∷ with_key key keys
  goes_on above =
      ap (λ before. by_tests before (key == next)) (le-ltb key next (omega (arith, above)))
      ∙ ap (by_tests false) (ne_eqb key next (λ same. omega (arith, above, same)))

-- a key that is there changes nothing
with_key_there : (key : ℕ) (keys : List ℕ) (place : ℕ) → IsTrue (is_ascending keys) → place < length keys → slice_index_or keys place 0 ≡ key
    → with_key key keys ≡ keys
with_key_there key [] place ascending low is = absurd (omega (arith, low))
with_key_there key (next ∷ keys) zero ascending low is = is_first key next keys (sym is)
with_key_there key (next ∷ keys) (suc place) ascending low is =
    goes_on key next keys (omega (arith, is, first_below next keys place 0 ascending (omega (arith, low))))
    ∙ ap (λ rest. next ∷ rest) (with_key_there key keys place (tail_ascending next keys ascending) (omega (arith, low)) is)

-- a key that is not there goes in at its place
with_key_inserted : (key : ℕ) (keys : List ℕ) (place : ℕ) → place ≤ length keys → ((k : ℕ) → k < place → slice_index_or keys k 0 < key)
    → (place < length keys → key < slice_index_or keys place 0) → with_key key keys ≡ insert keys place key
with_key_inserted key [] zero upto below above = refl
with_key_inserted key [] (suc place) upto below above = absurd (omega (arith, upto))
with_key_inserted key (next ∷ keys) zero upto below above = goes_first key next keys (above (omega arith))
with_key_inserted key (next ∷ keys) (suc place) upto below above =
    goes_on key next keys (below zero (omega arith))
    ∙ ap (λ rest. next ∷ rest)
    (with_key_inserted key keys place (omega (arith, upto)) (λ k low. below (suc k) (omega (arith, low))) (λ low. above (omega (arith, low))))

-- what a binary search for a key finds tells what the keys are with it
pub with_key_searched : (key : ℕ) (keys : List ℕ) (found : Result ℕ ℕ) → IsTrue (is_ascending keys)
    → IsBinarySearchResult (λ other. nat_cmp other key) keys found
    → MatchResult found (λ place. with_key key keys ≡ keys) (λ place. with_key key keys ≡ insert keys place key)
with_key_searched key keys found ascending is =
    by_answer found (searched keys key found is (λ i j order low. keys_rise keys ascending i j 0 order low))
  where
    by_answer : (found : Result ℕ ℕ)
        → MatchResult found (λ place. (place < length keys) × (slice_index_or keys place 0 ≡ key))
        (λ place. (place ≤ length keys) × ((k : ℕ) → k < place → slice_index_or keys k 0 < key)
        × ((k : ℕ) → place ≤ k → k < length keys → key < slice_index_or keys k 0))
        → MatchResult found (λ place. with_key key keys ≡ keys) (λ place. with_key key keys ≡ insert keys place key)
    by_answer (Ok place) at = with_key_there key keys place ascending at.0 at.1
    by_answer (Err place) at = with_key_inserted key keys place at.0 at.1 (λ low. at.2 place (omega arith) low)

-- what holds of each key and of one more holds of each with that one
all_with_key : (P : ℕ → Type 0) (key : ℕ) (keys : List ℕ) → P key → All P keys → All P (with_key key keys)
all_with_key P key [] one all = All-cons P key [] one all
all_with_key P key (next ∷ keys) one all =
    elim (cases_order key next) [
      | inl same ↦ subst (All P) (sym (is_first key next keys same)) all
      | inr apart ↦ elim apart [
        | inl below ↦ subst (All P) (sym (goes_first key next keys below)) (All-cons P key (next ∷ keys) one all)
        | inr after ↦ subst (All P) (sym (goes_on key next keys after))
            (All-cons P next (with_key key keys) (All-head P next keys all) (all_with_key P key keys one (All-tail P next keys all)))
      ]
    ]

-- with one more that there is they are keys still
pub keys_with_key : {most : ℕ} {keys : List ℕ} (key : ℕ) → (1 ≤ key) × (key ≤ most) → AreKeys most keys → AreKeys most (with_key key keys)
keys_with_key {most} {keys} key within are = record {
  ascending = with_key_ascends key keys are.ascending;
  within = all_with_key (λ key. (1 ≤ key) × (key ≤ most)) key keys within are.within;
}

-- ascending keys stay so without some of them
drop_above : (first n : ℕ) (keys : List ℕ) → IsTrue (is_ascending (first ∷ keys)) → IsTrue (is_ascending (first ∷ drop n keys))
drop_above first zero keys ascending = ascending
drop_above first (suc n) [] ascending = refl
drop_above first (suc n) (next ∷ keys) ascending = drop_above first n keys (without_second keys ascending)
  where
    without_second : (keys : List ℕ) → IsTrue (is_ascending (first ∷ next ∷ keys)) → IsTrue (is_ascending (first ∷ keys))
    without_second [] ascending = refl
    without_second (key ∷ keys) ascending =
        let one : first < next = omega (arith, leb-true (first + 1) next (and_parts _ _ ascending).0) in
        let other : next < key = omega (arith, leb-true (next + 1) key (and_parts _ _ (and_parts _ _ ascending).1).0) in
        both_true (le-leb (first + 1) key (omega (arith, one, other))) (and_parts _ _ (and_parts _ _ ascending).1).1

without_above : (first from to : ℕ) (keys : List ℕ) → from ≤ to → IsTrue (is_ascending (first ∷ keys))
    → IsTrue (is_ascending (first ∷ remove_range keys from to))
without_above first zero to keys order ascending = drop_above first to keys ascending
without_above first (suc from) zero keys order ascending = absurd (omega (arith, order))
without_above first (suc from) (suc to) [] order ascending = refl
without_above first (suc from) (suc to) (next ∷ keys) order ascending =
    both_true (and_parts _ _ ascending).0 (without_above next from to keys (omega (arith, order)) (and_parts _ _ ascending).1)

without_ascending : (from to : ℕ) (keys : List ℕ) → from ≤ to → IsTrue (is_ascending keys) → IsTrue (is_ascending (remove_range keys from to))
without_ascending zero zero keys order ascending = ascending
without_ascending zero (suc to) [] order ascending = refl
without_ascending zero (suc to) (next ∷ keys) order ascending = without_ascending zero to keys (omega arith) (tail_ascending next keys ascending)
without_ascending (suc from) zero keys order ascending = absurd (omega (arith, order))
without_ascending (suc from) (suc to) [] order ascending = refl
without_ascending (suc from) (suc to) (next ∷ keys) order ascending = without_above next from to keys (omega (arith, order)) ascending

-- without some of them they are keys still
pub keys_without : {most : ℕ} {keys : List ℕ} (from to : ℕ) → from ≤ to → AreKeys most keys → AreKeys most (remove_range keys from to)
keys_without {most} {keys} from to order are = record {
  ascending = without_ascending from to keys order are.ascending;
  within =
      let P : ℕ → Type 0 = λ key. (1 ≤ key) × (key ≤ most) in
      All-append P (take from keys) (drop to keys) (All-take P from keys are.within) (All-drop P to keys are.within);
}

-- there are no more ascending keys than there are numbers from one up to another
few_between : (low most : ℕ) (keys : List ℕ) → IsTrue (is_ascending keys) → All (λ key. (low ≤ key) × (key ≤ most)) keys → low ≤ most + 1
    → low + length keys ≤ most + 1
few_between low most [] ascending within order = omega (arith, order)
few_between low most (key ∷ keys) ascending within order =
    let here = All-head (λ key. (low ≤ key) × (key ≤ most)) key keys within in
    let others = All-tail (λ key. (low ≤ key) × (key ≤ most)) key keys within in
    let rest = few_between (key + 1) most keys (tail_ascending key keys ascending)
    (λ k d there. (omega (arith, first_below key keys k d ascending there), (others k d there).1)) (omega (arith, here.1)) in
    omega (arith, here.0, rest)

-- there are no more keys than there can be
pub few_keys : {most : ℕ} {keys : List ℕ} → AreKeys most keys → length keys ≤ most
few_keys {most} {keys} are = omega (arith, few_between 1 most keys are.ascending are.within (omega arith))

-- and fewer where one more comes in
pub has_room : {most : ℕ} {keys : List ℕ} (key place : ℕ) → (1 ≤ key) × (key ≤ most) → AreKeys most keys → place ≤ length keys
    → with_key key keys ≡ insert keys place key → length keys < most
has_room {most} {keys} key place within are there is =
    omega (arith, few_keys (keys_with_key key within are), ap length is, length-insert keys place key there)

-- how many are left without some of them
pub length-remove_range : {X : Type 0} (items : List X) (from to : ℕ) → from ≤ to → to ≤ length items
    → length (remove_range items from to) + (to - from) ≡ length items
length-remove_range items from to order there =
    omega (arith, length-append (take from items) (drop to items), length-take from items, length-drop to items)

-- the keys of each mate are keys, each one of so many
abbrev pub AreKeysOfMates : ℕ → List PlainKeys → Type 0
AreKeysOfMates most mates = All (λ mate. (mate.most ≡ most) × AreKeys most mate.keys) mates

-- the keys of the mates, one by one
abbrev pub keys_of : List PlainKeys → List (List ℕ)
keys_of mates = map (λ mate. mate.keys) mates

-- a place among them is one among the mates
pub mate_there : (mates : List PlainKeys) (place : ℕ) → place < length (keys_of mates) → place < length mates
mate_there mates place low = rw length-map at low

-- those of one mate
pub keys_at : (mates : List PlainKeys) (place : ℕ) (mate : PlainKeys) → place < length mates → mate ≡ slice_index_or mates place mate
    → slice_index_or (keys_of mates) place [] ≡ mate.keys
keys_at mates place mate there is = get_or-map (λ (m : PlainKeys). m.keys) mates place mate [] there ∙ ap (λ (m : PlainKeys). m.keys) (sym is)

-- where one mate's keys change, so do they among all
pub keys_changed : (mates : List PlainKeys) (place : ℕ) (mate now : PlainKeys) (change : List ℕ → List ℕ) → place < length mates
    → mate ≡ slice_index_or mates place mate → now.keys ≡ change mate.keys
    → keys_of (slice_set mates place now) ≡ slice_set (keys_of mates) place (change (slice_index_or (keys_of mates) place []))
keys_changed mates place mate now change there is made =
    map-set (λ (m : PlainKeys). m.keys) mates place now
    ∙ ap (slice_set (keys_of mates) place) (made ∙ ap change (sym (keys_at mates place mate there is)))

-- and so does how many there are of all
pub pairs_changed : (mates : List PlainKeys) (place : ℕ) (mate now : PlainKeys) → place < length mates → mate ≡ slice_index_or mates place mate
    → sum_by length (keys_of (slice_set mates place now)) + length mate.keys ≡ sum_by length (keys_of mates) + length now.keys
pairs_changed mates place mate now there is =
    omega (
      arith,
      ap (sum_by length) (map-set (λ (m : PlainKeys). m.keys) mates place now),
      ap length (keys_at mates place mate there is),
      sum_by-set length (keys_of mates) place now.keys [] (rw length-map there),
    )

-- there are not too many to count
pub few_pairs : (most : ℕ) (mates : List PlainKeys) → AreKeysOfMates most mates → length mates < 2 ^ 16 → most < 2 ^ 16
    → sum_by length (keys_of mates) < 2 ^ 32
few_pairs most mates are few_mates few =
    let bound : sum_by length (keys_of mates) ≤ length (keys_of mates) * most =
    sum_by-le length most (keys_of mates) (All-map (λ keys. length keys ≤ most) (λ (m : PlainKeys). m.keys) mates
    (All-weaker (λ mate. (mate.most ≡ most) × AreKeys most mate.keys) (λ mate. length mate.keys ≤ most) (λ mate is. few_keys is.1) mates are)) in
    omega (arith, bound, mul-lt (length (keys_of mates)) most (2 ^ 16) (2 ^ 16) (rw length-map few_mates) few)

-- what is said of each mate's keys stays so where those of one change
pub mates_changed : (most : ℕ) (mates : List PlainKeys) (place : ℕ) (mate now : PlainKeys) → AreKeysOfMates most mates → place < length mates
    → mate ≡ slice_index_or mates place mate → now.most ≡ mate.most
    → (AreKeys most mate.keys → AreKeys most now.keys) → AreKeysOfMates most (slice_set mates place now)
mates_changed most mates place mate now are there is same change =
    let of_mate : (mate.most ≡ most) × AreKeys most mate.keys =
    subst (λ (m : PlainKeys). (m.most ≡ most) × AreKeys most m.keys) (sym is) (are place mate there) in
    All-set (λ mate. (mate.most ≡ most) × AreKeys most mate.keys) mates place now (same ∙ of_mate.0, change of_mate.1) are

-- mates without keys
pub no_keys : (most count : ℕ) → AreKeysOfMates most (replicate count (record { most = most; keys = [] }))
no_keys most count =
    All-replicate (λ mate. (mate.most ≡ most) × AreKeys most mate.keys) count (record { most = most; keys = [] })
    (refl, record { ascending = refl; within = All-nil (λ key. (1 ≤ key) × (key ≤ most)) })

-- have none
pub no_keys_of : (most count : ℕ) → keys_of (replicate count (record { most = most; keys = [] })) ≡ replicate count []
no_keys_of most zero = refl
no_keys_of most (suc count) = ap (λ rest. [] ∷ rest) (no_keys_of most count)
