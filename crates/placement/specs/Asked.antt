-- In which order a session asks the replicas of a key, where a table has those of each key.
use Rattle.std.specs.Prelude.{ℕ, ◌-◌, ◌%◌, ◌==◌, not, List, [], ◌∷◌, length, filter, slice_index_or}
use Rattle.placement.specs.Config.{home_of}

-- the replicas of a key, of a table that has those of each key
abbrev pub replicas_of : List (List ℕ) → ℕ → List ℕ
replicas_of table key = slice_index_or table (key - 1) []

-- the replica that takes a session's puts on a key
abbrev pub home_at : List (List ℕ) → ℕ → ℕ → ℕ
home_at table session key = home_of (replicas_of table key) session

-- the replicas that are not the home, as they are listed
abbrev pub others : ℕ → List ℕ → List ℕ
others home replicas = filter (λ replica. not (replica == home)) replicas

-- the order in which a session asks the replicas of a key: its home, then the others as they are listed
abbrev pub ask_order : List (List ℕ) → ℕ → ℕ → List ℕ
ask_order table session key = home_at table session key ∷ others (home_at table session key) (replicas_of table key)

-- the last of them
abbrev pub last_asked : List (List ℕ) → ℕ → ℕ → ℕ
last_asked table session key = let order = ask_order table session key in slice_index_or order (length order - 1) 0

-- the one that an ask goes to, by its number from 1: they are asked in their order, round and round
abbrev pub asked : List (List ℕ) → ℕ → ℕ → ℕ → ℕ
asked table session key ask = let order = ask_order table session key in slice_index_or order ((ask - 1) % length order) 0
