-- In a valid config each key has the replicas that it should.
use Rattle.std.proofs.Common.{◌≡◌, ℕ, ◌<◌, ◌≤◌, ◌==◌, Bool, true, not, zero, suc, List, [], ◌∷◌, length, take, map, Option, Some, None, unwrap_or, IfSome, sym, ap, ◌∙◌, refl, subst, inl, inr, arith}
use Rattle.std.specs.List.{filter, list_any, All}
use Rattle.std.proofs.lemmas.Bool.{true≢false, cases_Bool, not_from_false, eqb-true, ne_eqb}
use Rattle.std.proofs.lemmas.List.{take_all, length-take, get_or-take}
use Rattle.std.proofs.lemmas.List.Elements.{All-take, All-head, All-tail, All-nil, All-cons}
use Rattle.std.proofs.lemmas.List.Sorted.{list_any-IsPermutation, All-permutation}
use Rattle.std.proofs.lemmas.Map.Views.{any-filter_same}
use Rattle.placement.specs.Hash.{hash_of}
use Rattle.placement.specs.Ring.{points_of, round, workers_met, walked}
use Rattle.placement.specs.Config.{AreDifferent, IsOneOf, ArePins, IsOwnFactor, IsValidConfig, IsRing, AreReplicas, EachHasReplicas, factor_of, pinned_or, replicas_on}
use Rattle.placement.specs.declared.ring.Point.{Point}
use Rattle.placement.specs.declared.config.KeyPlace.{KeyPlace}
use Rattle.placement.specs.declared.config.Config.{Config}
use Rattle.placement.proofs.RingPoints.{points_of_each, points_of_workers}
use Rattle.placement.proofs.RoundLemmas.{round_permutes}
use Rattle.placement.proofs.WorkersMet.{met_has, All-workers_met, workers_met_differ}

-- the numbers but this one
abbrev without : ℕ → List ℕ → List ℕ
without n numbers = filter (λ other. not (other == n)) numbers

-- a list is no shorter without a number
without_le : (n : ℕ) (numbers : List ℕ) → length (without n numbers) ≤ length numbers
without_le n [] = omega arith
without_le n (first ∷ numbers) = elim (cases_Bool (first == n)) [
  | inl here ↦ rw here (let rest = without_le n numbers in omega arith)
  | inr apart ↦ rw apart (let rest = without_le n numbers in omega arith)
]

-- Without a number that it has a list is shorter.
without_lt : (n : ℕ) (numbers : List ℕ) → list_any (λ other. other == n) numbers ≡ true → length (without n numbers) < length numbers
without_lt n [] has = absurd (true≢false (sym has))
without_lt n (first ∷ numbers) has = elim (cases_Bool (first == n)) [
  | inl here ↦ rw here (let rest = without_le n numbers in omega arith)
  | inr apart ↦ rw apart (let rest = without_lt n numbers (rw apart at has) in omega arith)
]

-- A number up to n is not the next.
above_none : (other k n : ℕ) → other ≡ k → k ≤ n → other ≡ suc n → ⊥
above_none other k n is known last = omega arith

-- A list that has each number from 1 to n has at least n elements.
has_each_to_length : (n : ℕ) (numbers : List ℕ) → ((k : ℕ) → 1 ≤ k → k ≤ n → list_any (λ other. other == k) numbers ≡ true) → n ≤ length numbers
has_each_to_length zero numbers has = omega arith
has_each_to_length (suc n) numbers has =
    let rest = without (suc n) numbers in
    let kept : ℕ → Bool = λ other. not (other == suc n) in
    let has_rest = λ (k : ℕ) (some : 1 ≤ k) (known : k ≤ n). any-filter_same (λ other. other == k) kept true (λ other is. not_from_false _ (ne_eqb other (suc n) (λ last. above_none other k n (eqb-true other k is) known last))) numbers ∙ has k some (omega arith) in
    let fewer = without_lt (suc n) numbers (has (suc n) (omega arith) (omega arith)) in
    let most : n ≤ length rest = has_each_to_length n rest has_rest in
    omega arith

-- Each worker is met on the way round.
each_worker_met : (workers hash : ℕ) (ring : List Point) → IsRing workers ring → (worker : ℕ) → 1 ≤ worker → worker ≤ workers → list_any (λ other. other == worker) (workers_met (round ring hash)) ≡ true
each_worker_met workers hash ring is worker some known =
    let same : Point → Bool = λ point. point.worker == worker in
    met_has (round ring hash) worker
    ∙ sym (list_any-IsPermutation same ring (round ring hash) (round_permutes ring hash))
    ∙ sym (list_any-IsPermutation same (points_of workers) ring is.all)
    ∙ points_of_each workers worker some known

-- Only workers are met on the way round.
only_workers_met : (workers hash : ℕ) (ring : List Point) → IsRing workers ring → All (IsOneOf workers) (workers_met (round ring hash))
only_workers_met workers hash ring is =
    let Known : Point → Type 0 = λ point. IsOneOf workers point.worker in
    All-workers_met (IsOneOf workers) (round ring hash) (All-permutation Known ring (round ring hash) (round_permutes ring hash) (All-permutation Known (points_of workers) ring is.all (points_of_workers workers workers (omega arith))))

-- The first of different numbers are different.
first_differ : (n : ℕ) (numbers : List ℕ) → AreDifferent numbers → AreDifferent (take n numbers)
first_differ n numbers differ = λ i j d before within.
    let inside : j < length numbers = omega (arith, length-take n numbers) in
    rw (get_or-take n numbers i d (omega (arith, length-take n numbers)), get_or-take n numbers j d (omega (arith, length-take n numbers))) (differ i j d before inside)

-- A key's own factor or else the one of all keys is at most the number of workers.
factor_within : (workers all : ℕ) (own : Option ℕ) (Unpinned : Type 0) → IsOneOf workers all → IfSome own (λ factor. IsOneOf workers factor × Unpinned) → IsOneOf workers (unwrap_or own all)
factor_within workers all None Unpinned is own = is
factor_within workers all (Some factor) Unpinned is own = own.0

-- The walk for a key without pins gives replicas.
walked_are_replicas : (config : Config) (ring : List Point) (key : KeyPlace) (hash : ℕ) → IsRing config.workers ring → IsOneOf config.workers (factor_of config key) → AreReplicas config key (walked ring hash (factor_of config key))
walked_are_replicas config ring key hash is within =
    let factor = factor_of config key in
    let met = workers_met (round ring hash) in
    let enough : config.workers ≤ length met = has_each_to_length config.workers met (each_worker_met config.workers hash ring is) in
    let least : 1 ≤ factor = within.0 in
    let most : factor ≤ config.workers = within.1 in
    let as_many : length (take factor met) ≡ factor = omega (arith, length-take factor met) in
    record {
      some = omega arith;
      are_workers = All-take (IsOneOf config.workers) factor met (only_workers_met config.workers hash ring is);
      different = first_differ factor met (workers_met_differ (round ring hash));
      as_many = λ none. as_many;
    }

-- The pins of a key are replicas, and so is the walk where it has none.
pinned_or_walked : (config : Config) (ring : List Point) (key : KeyPlace) (pins : List ℕ) → key.pins ≡ pins → IsRing config.workers ring → ArePins config.workers pins → IsOneOf config.workers (factor_of config key) → AreReplicas config key (pinned_or pins (walked ring (hash_of key.name) (factor_of config key)))
pinned_or_walked config ring key [] has is pinned within = walked_are_replicas config ring key (hash_of key.name) is within
pinned_or_walked config ring key (pin ∷ pins) has is pinned within = record {
  some = omega arith;
  are_workers = pinned.are_workers;
  different = pinned.different;
  as_many = λ none. cc;
}

-- Each key has its replicas.
each_has_replicas : (config : Config) (ring : List Point) (keys : List KeyPlace) → IsOneOf config.workers config.factor → IsRing config.workers ring → All (λ (key : KeyPlace). ArePins config.workers key.pins) keys → All (IsOwnFactor config.workers) keys → EachHasReplicas config keys (map (replicas_on ring config) keys)
each_has_replicas config ring [] factor is pins factors = tt
each_has_replicas config ring (key ∷ keys) factor is pins factors =
    let Pinned : KeyPlace → Type 0 = λ key. ArePins config.workers key.pins in
    let Own : KeyPlace → Type 0 = IsOwnFactor config.workers in (
      pinned_or_walked config ring key key.pins refl is (All-head Pinned key keys pins) (factor_within config.workers config.factor key.factor (key.pins ≡ []) factor (All-head Own key keys factors)),
      each_has_replicas config ring keys factor is (All-tail Pinned key keys pins) (All-tail Own key keys factors),
    )

-- A table of the replicas of the first keys, where these are all, has the replicas of each.
pub table_of_all : (config : Config) (ring : List Point) (keys : List KeyPlace) (done : ℕ) (table : List (List ℕ)) → IsValidConfig config → IsRing config.workers ring → keys ≡ config.keys → length keys ≤ done → table ≡ map (replicas_on ring config) (take done keys) → EachHasReplicas config config.keys table
table_of_all config ring keys done table valid is same all has =
    let P : List (List ℕ) → Type 0 = EachHasReplicas config config.keys in
    subst P (sym (has ∙ ap (map (replicas_on ring config)) (take_all done keys all ∙ same))) (each_has_replicas config ring config.keys (valid.factor_some, valid.factor_most) is valid.pins valid.factors)

-- Keys that have their replicas in vectors have at least one in each.
pub each_has_some : {V : Type 0} (items : V → List ℕ) (config : Config) (keys : List KeyPlace) (vectors : List V) → EachHasReplicas config keys (map items vectors) → All (λ (vector : V). 0 < length (items vector)) vectors
each_has_some items config [] [] each = All-nil (λ vector. 0 < length (items vector))
each_has_some items config (key ∷ keys) (vector ∷ vectors) each = All-cons (λ vector. 0 < length (items vector)) vector vectors each.0.some (each_has_some items config keys vectors each.1)
each_has_some items config [] (vector ∷ vectors) each = absurd each
each_has_some items config (key ∷ keys) [] each = absurd each

-- There are as many vectors as keys.
pub each_has_length : {V : Type 0} (items : V → List ℕ) (config : Config) (keys : List KeyPlace) (vectors : List V) → EachHasReplicas config keys (map items vectors) → length vectors ≡ length keys
each_has_length items config [] [] each = refl
each_has_length items config (key ∷ keys) (vector ∷ vectors) each = ap (λ (n : ℕ). suc n) (each_has_length items config keys vectors each.1)
each_has_length items config [] (vector ∷ vectors) each = absurd each
each_has_length items config (key ∷ keys) [] each = absurd each
