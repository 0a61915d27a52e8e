-- When cells are the same, and which workers and keys a settled world is looked through for.
use Rattle.std.specs.Prelude.{◌≡◌, ◌≢◌, ℕ, zero, suc, ◌+◌, ◌<◌, List, [], ◌∷◌, length, All, option_map, slice_index_or, Option, Some, None}
use Rattle.std.proofs.Common.{refl, sym, ap, subst, ◌∙◌, inl, inr, arith}
use Rattle.std.proofs.lemmas.Bool.{cases_lt}
use Rattle.std.proofs.lemmas.List.{get_or_past}
use Rattle.std.proofs.lemmas.Option.{none-some, same_Some}
use Rattle.composed_value.specs.Cell.{PlainCell, IsCell, AreOfOneKind, joined_cells}
use Rattle.composed_value.specs.CellLaws.{cell_laws}
use Rattle.merge_world.specs.Effects.{cells_at}
use Rattle.merge_world.specs.Heard.{AreHeardBy, IsHeardBy, IsKeyHeard, IsWorkerHeard}
use Rattle.merge_world.specs.World.{PlainWorld, IsSettled, cells_of, map_of}
use Rattle.merge_world.specs.declared.private_map.KeyCells.{KeyCells}
use Rattle.merge_world.proofs.PlacesLemmas.{changed_from}

-- two cells that hold each what the other holds are the same
pub both_hold : (a b : PlainCell) → IsCell a → IsCell b → AreOfOneKind a b → joined_cells a b ≡ b → joined_cells b a ≡ a → a ≡ b
both_hold a b is_a is_b fits there back = sym back ∙ cell_laws.commutative b a is_b is_a (sym fits) ∙ there

-- a cell holds what the same cell holds
pub same_hold : (a b : PlainCell) → IsCell b → a ≡ b → joined_cells a b ≡ b
same_hold a b is_b same = subst (λ x. joined_cells x b ≡ b) (sym same) (cell_laws.idempotent b is_b)

-- what is not nothing stands at some place
placed : {A : Type 0} (none : A) (items : List A) (number : ℕ) → slice_index_or (none ∷ items) number none ≢ none → (place : ℕ) × (number ≡ place + 1) × (place < length items)
placed none items zero some = absurd (some refl)
placed none items (suc place) some = elim (cases_lt place (length items)) [
  | inl low ↦ (place, omega arith, low)
  | inr past ↦ absurd (some (get_or_past items place none past))
]

-- so do the cells of a key
cells_placed : (map : List (Option KeyCells)) (key : ℕ) (cells : KeyCells) → cells_at map key ≡ Some cells → (place : ℕ) × (key ≡ place + 1) × (place < length map)
cells_placed map key cells is = placed None map key (λ none. none-some cells (sym none ∙ is))

-- and the map of a worker that holds a key
worker_placed : (world : PlainWorld) (worker key : ℕ) (cells : KeyCells) → cells_of world worker key ≡ Some cells → (place : ℕ) × (worker ≡ place + 1) × (place < length world.maps)
worker_placed world worker key cells is =
    placed [] world.maps worker (λ none. omega (arith, (cells_placed [] key cells (subst (λ map. cells_at map key ≡ Some cells) none is)).2))

-- and the key has replicas, where the maps are of the placement's length
key_placed : (world : PlainWorld) → All (λ map. length map ≡ length world.placement) world.maps → (worker key : ℕ) (cells : KeyCells) → cells_of world worker key ≡ Some cells
    → (place : ℕ) × (key ≡ place + 1) × (place < length world.placement)
key_placed world long worker key cells is =
    let at = worker_placed world worker key cells is in
    let of_map = cells_placed (map_of world worker) key cells is in
    let next : worker ≡ suc at.0 = omega (arith, at.1) in
    let same : length (map_of world worker) ≡ length world.placement = subst (λ w. length (map_of world w) ≡ length world.placement) (sym next) (long at.0 [] at.2) in
    (of_map.0, of_map.1, omega (arith, of_map.2, same))

-- where each other worker that has a map heard a cell, each other worker that holds the key did
pub others_from_places : (world : PlainWorld) (worker key : ℕ) (cell : PlainCell) → ((place : ℕ) → place < length world.maps → place + 1 ≢ worker → IsHeardBy world key cell (place + 1)) → AreHeardBy world worker key cell
others_from_places world worker key cell each other apart cells is =
    let at = worker_placed world other key cells is in
    subst (λ o. o ≢ worker → IsHeardBy world key cell o) (sym at.1) (each at.0 at.2) apart cells is

-- what a worker took itself of a key was heard, where its own cell of the key was
pub key_from_own : (world : PlainWorld) (worker key : ℕ) (own : PlainCell) → Some own ≡ option_map (λ cells. cells.own) (cells_of world worker key) → AreHeardBy world worker key own → IsKeyHeard world worker key
key_from_own world worker key own is_own heard cells is some =
    subst (AreHeardBy world worker key) (same_Some own cells.own (is_own ∙ ap (option_map (λ (c : KeyCells). c.own)) is)) heard

-- and the other way round, where it took something
pub own_from_key : (world : PlainWorld) (worker key : ℕ) (own : PlainCell) → Some own ≡ option_map (λ cells. cells.own) (cells_of world worker key) → own.clock ≢ [] → IsKeyHeard world worker key → AreHeardBy world worker key own
own_from_key world worker key own is_own some heard =
    let from = changed_from (λ (c : KeyCells). c.own) (cells_of world worker key) own (sym is_own) in
    subst (λ (cell : PlainCell). cell.clock ≢ [] → AreHeardBy world worker key cell) from.2 (heard from.0 from.1) some

-- each key that is held is one of the placement's
pub keys_from_places : (world : PlainWorld) → All (λ map. length map ≡ length world.placement) world.maps → (worker : ℕ) → ((place : ℕ) → place < length world.placement → IsKeyHeard world worker (place + 1)) → IsWorkerHeard world worker
keys_from_places world long worker each key cells is =
    let at = key_placed world long worker key cells is in
    subst (IsKeyHeard world worker) (sym at.1) (each at.0 at.2) cells is

-- each worker that holds a key has a map
pub workers_from_places : (world : PlainWorld) → ((place : ℕ) → place < length world.maps → IsWorkerHeard world (place + 1)) → IsSettled world
workers_from_places world each worker other key cells of_other is is_other some apart =
    let at = worker_placed world worker key cells is in
    subst (IsWorkerHeard world) (sym at.1) (each at.0 at.2) key cells is some other apart of_other is_other

-- what each worker took itself was heard, so what one did
pub worker_from_settled : (world : PlainWorld) (worker : ℕ) → IsSettled world → IsWorkerHeard world worker
worker_from_settled world worker settled key cells is some other apart of_other is_other = settled worker other key cells of_other is is_other some apart

-- what holds below a number and at it holds below the next
pub below_more : (Holds : ℕ → Type 0) (number : ℕ) → ((place : ℕ) → place < number → Holds place) → Holds number → (place : ℕ) → place < number + 1 → Holds place
below_more Holds number below here place low = elim (cases_lt place number) [
  | inl lower ↦ below place lower
  | inr past ↦ let same : number ≡ place = omega (arith, low, past) in subst Holds same here
]
