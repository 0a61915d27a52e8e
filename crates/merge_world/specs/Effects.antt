-- The private map of a worker: how puts and gossip change it, and what it tells.
use Rattle.std.specs.Prelude.{ℕ, zero, suc, ◌==◌, Bool, true, false, if◌then◌else◌, leb, List, [], ◌∷◌, filter_map, fold, map, option_map, slice_index_or, zip, Option, Some, None}
use Rattle.std.specs.List.{list_any}
use Rattle.composed_value.specs.Cell.{PlainCell, empty_cell, joined_cells, one_put_cell}
use Rattle.composed_value.specs.Kind.{kind_of_value}
use Rattle.composed_value.specs.declared.kind.Kind.{Kind}
use Rattle.composed_value.specs.declared.kind.Kind.TheVariants.{Max, Or, Set, Map, Last, Versions, Counter, OrSet}
use Rattle.composed_value.specs.declared.put.Put.{Put}
use Rattle.merge_world.specs.declared.private_map.KeyCells.{KeyCells}

-- two kinds are one
abbrev pub is_kind : Kind → Kind → Bool
is_kind Max Max = true
is_kind Or Or = true
is_kind Set Set = true
is_kind Map Map = true
is_kind Last Last = true
is_kind Versions Versions = true
is_kind Counter Counter = true
is_kind OrSet OrSet = true
is_kind _ _ = false

-- the item of a number, counted from 1, changes
abbrev pub changed_at : {A : Type 0} → ℕ → (A → A) → List A → List A
changed_at zero change items = items
changed_at number change [] = []
changed_at (suc zero) change (item ∷ items) = change item ∷ items
changed_at (suc (suc i)) change (item ∷ items) = item ∷ changed_at (suc i) change items

-- the cells of a key, counted from 1, and nothing where the worker does not hold it
abbrev pub cells_at : List (Option KeyCells) → ℕ → Option KeyCells
cells_at map key = slice_index_or (None ∷ map) key None

-- a cell of the same kind is joined in, and another changes nothing
abbrev pub merged : PlainCell → PlainCell → PlainCell
merged into cell = if is_kind (kind_of_value cell.value) (kind_of_value into.value) then joined_cells into cell else into

-- a put with a number is merged into the own and the whole cell
abbrev pub with_put : Put → KeyCells → KeyCells
with_put put cells =
    if leb 1 put.number then record { own = merged cells.own (one_put_cell put); whole = merged cells.whole (one_put_cell put) } else cells

-- a cell that was heard is merged into the whole cell
abbrev pub with_heard : PlainCell → KeyCells → KeyCells
with_heard cell cells = record { own = cells.own; whole = merged cells.whole cell }

-- a worker takes a put on a key
abbrev pub takes : ℕ → Put → List (Option KeyCells) → List (Option KeyCells)
takes key put = changed_at key (option_map (with_put put))

-- it tells of its keys what it took itself
abbrev pub told_of : List (Option KeyCells) → ℕ → Option (ℕ × PlainCell)
told_of map key = option_map (λ cells. (key, cells.own)) (cells_at map key)

abbrev pub tells : List ℕ → List (Option KeyCells) → List (ℕ × PlainCell)
tells keys map = filter_map (told_of map) keys

-- it hears what another told
abbrev pub hears : List (ℕ × PlainCell) → List (Option KeyCells) → List (Option KeyCells)
hears entries map = fold (λ now entry. changed_at entry.0 (option_map (with_heard entry.1)) now) map entries

-- the cells of no puts
abbrev pub empty_cells : Kind → KeyCells
empty_cells kind = record { own = empty_cell kind; whole = empty_cell kind }

-- what a worker has before any put of a key that lives at these replicas: empty cells where it is one of them
abbrev pub opened : ℕ → List ℕ → Kind → Option KeyCells
opened worker replicas kind = if list_any (λ replica. replica == worker) replicas then Some (empty_cells kind) else None

abbrev pub opening_map : List (List ℕ) → List Kind → ℕ → List (Option KeyCells)
opening_map placement kinds worker = map (λ (key : List ℕ × Kind). opened worker key.0 key.1) (zip placement kinds)
