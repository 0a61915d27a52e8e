-- The protocol alone: workers, messages, and the events that there can be, in any order.
use Rattle.std.specs.Prelude.{◌≡◌, ◌≢◌, ◌==◌, ◌&&◌, ℕ, ◌+◌, ◌≤◌, Bool, true, false, IsTrue, leb, if◌then◌else◌, List, [], ◌∷◌, ◌++◌, Contains, is_some, fold, length, map, max, slice_get, slice_index_or, Option, Some, None, ⊤}
use Rattle.std.specs.List.{list_all, range_with_len}
use Rattle.clock_lattice.specs.Clock.{count_of}
use Rattle.composed_value.specs.Cell.{PlainCell}
use Rattle.composed_value.specs.Keyed.{kind_at, puts_on}
use Rattle.composed_value.specs.Kind.{kind_of, kind_of_value}
use Rattle.composed_value.specs.Put.{IsPut}
use Rattle.composed_value.specs.Sound.{IsSoundCell}
use Rattle.composed_value.specs.declared.kind.Kind.{Kind}
use Rattle.composed_value.specs.declared.put.Put.{Put}
use Rattle.placement.specs.Asked.{replicas_of}
use Rattle.placement.specs.Config.{home_of}
use Rattle.merge_world.specs.Effects.{cells_at, changed_at, hears, is_kind, opening_map, takes, tells}
use Rattle.merge_world.specs.declared.event.Event.{Event}
use Rattle.merge_world.specs.declared.event.Event.TheVariants as events
use Rattle.merge_world.specs.declared.private_map.KeyCells.{KeyCells}
use Rattle.merge_world.specs.declared.world.Message.{Message}
use Rattle.merge_world.specs.declared.world.Took.{Took}
use Rattle.merge_world.specs.declared.world.Took.TheVariants.{Done, Strange}

-- the replicas of each key, its kind, the private map of each worker, and all messages that were sent
pub record PlainWorld : Type 0 where
  pub placement : List (List ℕ)
  pub kinds : List Kind
  pub maps : List (List (Option KeyCells))
  pub pool : List Message

-- keys and workers are counted from 1, messages from 0
abbrev pub map_of : PlainWorld → ℕ → List (Option KeyCells)
map_of world worker = slice_index_or ([] ∷ world.maps) worker []

abbrev pub cells_of : PlainWorld → ℕ → ℕ → Option KeyCells
cells_of world worker key = cells_at (map_of world worker) key

-- a key is held by both
abbrev pub is_shared : PlainWorld → ℕ → ℕ → ℕ → Bool
is_shared world worker mate key = is_some (cells_of world worker key) && is_some (cells_of world mate key)

-- each key is below the next
abbrev pub is_ascending : List ℕ → Bool
is_ascending [] = true
is_ascending (key ∷ []) = true
is_ascending (key ∷ next ∷ keys) = leb (key + 1) next && is_ascending (next ∷ keys)

-- a put is the session's next on the key, and of its kind
abbrev pub is_next_of : Put → PlainCell → Bool
is_next_of put own = is_kind (kind_of put.payload) (kind_of_value own.value) && (put.number == count_of put.session own.clock + 1)

abbrev pub is_next : Put → Option KeyCells → Bool
is_next put None = false
is_next put (Some cells) = is_next_of put cells.own

abbrev pub is_for : ℕ → Option Message → Bool
is_for worker None = false
is_for worker (Some message) = message.mate == worker

-- Which events can be: a session's next put comes to its home, a worker tells another 1 to 16 ascending keys that both hold,
-- and a message comes to the worker that it is for.
abbrev pub can_be : PlainWorld → Event → Bool
can_be world (events.Put worker key put) = leb 1 put.session && (home_of (replicas_of world.placement key) put.session == worker) && is_next put (cells_of world worker key)
can_be world (events.Get worker key) = leb 1 worker && leb worker (length world.maps) && leb 1 key && leb key (length world.placement)
can_be world (events.Send worker mate keys) =
    if worker == mate then false else (leb 1 (length keys) && leb (length keys) 16 && is_ascending keys && list_all (is_shared world worker mate) keys)
can_be world (events.Deliver worker message) = is_for worker (slice_get world.pool message)

-- what a worker hears of a message
abbrev pub entries_of : Option Message → List (ℕ × PlainCell)
entries_of None = []
entries_of (Some message) = message.entries

-- an event that there can be told of: its put is one that there can be
abbrev pub IsEvent : Event → Type 0
IsEvent (events.Put worker key put) = 1 ≤ put.number → IsPut put
IsEvent event = ⊤

-- what an event changes
abbrev pub after : PlainWorld → Event → PlainWorld
after world (events.Put worker key put) = record world { maps = changed_at worker (takes key put) world.maps }
after world (events.Get worker key) = world
after world (events.Send worker mate keys) = record world {
  pool = world.pool ++ record { worker = worker; mate = mate; entries = tells keys (map_of world worker); delivered = false } ∷ [];
}
after world (events.Deliver worker message) = record world {
  maps = changed_at worker (hears (entries_of (slice_get world.pool message))) world.maps;
  pool = changed_at (message + 1) (λ m. record m { delivered = true }) world.pool;
}

abbrev pub took_of : Bool → Took
took_of true = Done
took_of false = Strange

-- an event that cannot be changes nothing
abbrev pub stepped : PlainWorld → Event → PlainWorld
stepped world event = if can_be world event then after world event else world

abbrev pub ran : PlainWorld → List Event → PlainWorld
ran = fold stepped

-- the puts that were taken, each with its key
abbrev pub put_of : PlainWorld → Event → List (ℕ × Put)
put_of world (events.Put worker key put) = if can_be world (events.Put worker key put) then (key, put) ∷ [] else []
put_of world event = []

abbrev pub puts_taken : PlainWorld → List Event → List (ℕ × Put)
puts_taken world [] = []
puts_taken world (event ∷ rest) = put_of world event ++ puts_taken (stepped world event) rest

-- the workers that hold keys are numbered up to the greatest
abbrev pub workers_of : List (List ℕ) → ℕ
workers_of placement = fold max 0 (map (fold max 0) placement)

-- nothing was put, and nothing told
abbrev pub opening : List (List ℕ) → List Kind → PlainWorld
opening placement kinds = record {
  placement = placement;
  kinds = kinds;
  maps = map (opening_map placement kinds) (range_with_len 1 (workers_of placement));
  pool = [];
}

-- each own and each whole cell is sound for the puts that were taken
abbrev pub AreSound : List (ℕ × Put) → PlainWorld → Type 0
AreSound puts world =
    (worker key : ℕ) (cells : KeyCells) → cells_of world worker key ≡ Some cells
    → IsSoundCell (kind_at world.kinds key) (puts_on key puts) cells.own × IsSoundCell (kind_at world.kinds key) (puts_on key puts) cells.whole

-- the message was heard, by this worker, and it told this cell of the key
pub record IsHeard (worker key : ℕ) (cell : PlainCell) (message : Message) : Type 0 where
  pub to_worker : message.mate ≡ worker
  pub heard : IsTrue message.delivered
  pub told : Contains message.entries (key, cell)

-- what each worker took itself of a key was heard, as it is now, by each other that holds the key
abbrev pub IsSettled : PlainWorld → Type 0
IsSettled world =
    (worker other key : ℕ) (cells of_other : KeyCells) → cells_of world worker key ≡ Some cells → cells_of world other key ≡ Some of_other
    → cells.own.clock ≢ [] → other ≢ worker
    → (message : Message) × Contains world.pool message × IsHeard other key cells.own message

-- all replicas of each key are equal
abbrev pub AreEqual : PlainWorld → Type 0
AreEqual world =
    (worker other key : ℕ) (cells of_other : KeyCells) → cells_of world worker key ≡ Some cells → cells_of world other key ≡ Some of_other → of_other.whole ≡ cells.whole
