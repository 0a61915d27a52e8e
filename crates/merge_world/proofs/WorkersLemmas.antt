-- The greatest number of a worker that holds a key, and the maps of all workers before any put.
use Rattle.std.proofs.Common.{◌≡◌, ◌⊎◌, ⊎_elim, ℕ, zero, suc, ◌+◌, ◌-◌, ◌<◌, ◌^◌, Option, option_map, Result, Ok, Err, OnOk, OnErr, set, length-set, refl, List, [], ◌∷◌, length, map, max, take, get_or, sym, ◌∙◌, ap, arith}
use Rattle.std.specs.Prelude.{All, fold, zip}
use Rattle.std.proofs.lemmas.Grind.{fold-append}
use Rattle.std.proofs.lemmas.List.{get_or-map, get_or_default, get_or_past, length-map, take_more}
use Rattle.std.proofs.lemmas.List.Elements.{All-set}
use Rattle.std.proofs.lemmas.Slice.Zip.{length-zip}
use Rattle.composed_value.specs.Cell.{PlainCell}
use Rattle.composed_value.specs.declared.kind.Kind.{Kind}
use Rattle.composed_value.specs.declared.put.Put.{Put}
use Rattle.merge_world.specs.Effects.{changed_at, hears, opened, opening_map, takes, tells, with_heard, with_put}
use Rattle.merge_world.specs.declared.private_map.KeyCells.{KeyCells}
use Rattle.merge_world.proofs.AtLemmas.{changed_long}

-- one key more
pub workers_more : (placement : List (List ℕ)) (i key most : ℕ) (replicas : List ℕ) → i < length placement → key ≡ i + 1 → replicas ≡ get_or placement (key - 1) []
    → most ≡ fold max 0 (take i (map (fold max 0) placement)) → max most (fold max 0 replicas) ≡ fold max 0 (take (i + 1) (map (fold max 0) placement))
workers_more placement i key most replicas low is is_replicas is_most =
    let all = map (fold max 0) placement in
    let before : key - 1 ≡ i = omega (arith, is) in
    (λ j. max (is_most j) (fold max 0 ((is_replicas ∙ ap (λ n. get_or placement n []) before) j)))
    ∙ ap (max (fold max 0 (take i all))) (sym (get_or-map (fold max 0) placement i [] 0 low))
    ∙ sym (ap (fold max 0) (take_more all i 0 (rw length-map low)) ∙ fold-append max 0 (take i all) (get_or all i 0 ∷ []))

-- each map is as long as there are keys
pub opening_long : (placement : List (List ℕ)) (kinds : List Kind) (worker : ℕ) → length kinds ≡ length placement → length (opening_map placement kinds worker) ≡ length placement
opening_long placement kinds worker long = length-map (zip placement kinds) (λ (key : List ℕ × Kind). opened worker key.0 key.1) ∙ omega (arith, long, length-zip placement kinds)

-- what is heard leaves how many keys there are
hears_long : (entries : List (ℕ × PlainCell)) (map : List (Option KeyCells)) → length (hears entries map) ≡ length map
hears_long [] map = refl
hears_long (entry ∷ entries) map = hears_long entries (changed_at entry.0 (option_map (with_heard entry.1)) map) ∙ changed_long entry.0 (option_map (with_heard entry.1)) map

-- by the answer
pub long_taken : {U E : Type 0} (result : Result U E) (key : ℕ) (put : Put) (old new : List (Option KeyCells)) → OnOk result (new ≡ takes key put old) → OnErr result (new ≡ old) → length new ≡ length old
long_taken (Ok done) key put old new ok err = ap length ok ∙ changed_long key (option_map (with_put put)) old
long_taken (Err error) key put old new ok err = ap length err

pub long_heard : {U E : Type 0} (result : Result U E) (entries : List (ℕ × PlainCell)) (old new : List (Option KeyCells)) → OnOk result (new ≡ hears entries old) → OnErr result (new ≡ old) → length new ≡ length old
long_heard (Ok done) entries old new ok err = ap length ok ∙ hears_long entries old
long_heard (Err error) entries old new ok err = ap length err

-- so each map stays as long as there are keys
pub still_long : (maps : List (List (Option KeyCells))) (keys place : ℕ) (old new : List (Option KeyCells)) → (length maps < 2 ^ 16) × All (λ map. length map ≡ keys) maps → place < length maps → old ≡ get_or maps place old
    → length new ≡ length old → (length (set maps place new) < 2 ^ 16) × All (λ map. length map ≡ keys) (set maps place new)
still_long maps keys place old new long low here same = (
  rw (length-set maps place new) long.0,
  All-set (λ map. length map ≡ keys) maps place new (same ∙ ap length here ∙ long.1 place old low) long.1,
)

-- the map of a worker that is there, and of one that is not
pub map_at : (worker place : ℕ) (maps : List (List (Option KeyCells))) (map : List (Option KeyCells)) → worker ≡ suc place → place < length maps → map ≡ get_or maps place map → map ≡ get_or ([] ∷ maps) worker []
map_at worker place maps map is low here = here ∙ get_or_default maps place map [] low ∙ sym (ap (λ n. get_or ([] ∷ maps) n []) is)

pub no_map_at : (worker count : ℕ) (maps : List (List (Option KeyCells))) → count ≡ length maps → (worker ≡ 0) ⊎ (count < worker) → get_or ([] ∷ maps) worker [] ≡ []
no_map_at zero count maps is there = refl
no_map_at (suc i) count maps is there = get_or_past maps i [] (⊎_elim (λ zero. absurd (omega (arith, zero))) (λ (far : count < suc i). omega (arith, is, far)) there)

-- where nothing is held nothing is told
pub nothing_told : (keys : List ℕ) → tells keys [] ≡ []
nothing_told [] = refl
nothing_told (zero ∷ keys) = nothing_told keys
nothing_told (suc key ∷ keys) = nothing_told keys
