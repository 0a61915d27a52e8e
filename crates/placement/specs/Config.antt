-- Which configs are valid, and where keys live.
use Rattle.std.specs.Prelude.{◌≡◌, ℕ, ◌-◌, ◌%◌, ◌≤◌, List, [], ◌∷◌, All, map, length, slice_index_or, unwrap_or, IfSome, IsSorted, IsPermutation, AllPairs, ◌≢◌}
use Rattle.placement.specs.Hash.{hash_of}
use Rattle.placement.specs.Ring.{point_cmp, points_of, ring_of, walked}
use Rattle.placement.specs.declared.ring.Point.{Point}
use Rattle.placement.specs.declared.config.KeyPlace.{KeyPlace}
use Rattle.placement.specs.declared.config.Config.{Config}

-- no number stands twice
abbrev pub AreDifferent : List ℕ → Type 0
AreDifferent numbers = AllPairs (λ a b. a ≢ b) numbers

-- one of the numbers from 1 to the last
abbrev pub IsOneOf : ℕ → ℕ → Type 0
IsOneOf last n = (1 ≤ n) × (n ≤ last)

-- the pins of a key are different workers
pub record ArePins (workers : ℕ) (pins : List ℕ) : Type 0 where
  pub are_workers : All (IsOneOf workers) pins
  pub different : AreDifferent pins

-- a replication factor of a key's own is at most the number of workers, and stands at no key with pins
abbrev pub IsOwnFactor : ℕ → KeyPlace → Type 0
IsOwnFactor workers key = IfSome key.factor (λ factor. IsOneOf workers factor × (key.pins ≡ []))

pub record IsValidConfig (config : Config) : Type 0 where
  pub workers_some : 1 ≤ config.workers
  pub workers_most : config.workers ≤ 8
  pub factor_some : 1 ≤ config.factor
  pub factor_most : config.factor ≤ config.workers
  pub keys_most : length config.keys ≤ 128
  pub pins : All (λ key. ArePins config.workers key.pins) config.keys
  pub factors : All (IsOwnFactor config.workers) config.keys

-- the replication factor of a key: its own, where it has one, and else the config's
abbrev pub factor_of : Config → KeyPlace → ℕ
factor_of config key = unwrap_or key.factor config.factor

-- the points of all workers in ascending order
pub record IsRing (workers : ℕ) (points : List Point) : Type 0 where
  pub ascending : IsSorted point_cmp points
  pub all : IsPermutation (points_of workers) points

-- the pins, where there are any
abbrev pub pinned_or : List ℕ → List ℕ → List ℕ
pinned_or [] walked = walked
pinned_or (pin ∷ pins) walked = pin ∷ pins

-- where a key lives: at its pins in their order, else at the workers met first on the ring from the hash of its name onwards
abbrev pub replicas_on : List Point → Config → KeyPlace → List ℕ
replicas_on ring config key = pinned_or key.pins (walked ring (hash_of key.name) (factor_of config key))

-- The table has the replicas of each key, in the order of the keys.
pub record IsPlacement (config : Config) (table : List (List ℕ)) : Type 0 where
  pub ring : List Point
  pub is_ring : IsRing config.workers ring
  pub replicas : table ≡ map (replicas_on ring config) config.keys

-- the replicas of each key of the config, in the order of the keys
unfoldable pub placed : Config → List (List ℕ)
placed config = map (replicas_on (ring_of config.workers) config) config.keys

-- the replica that takes a session's puts on a key with these replicas
abbrev pub home_of : List ℕ → ℕ → ℕ
home_of replicas session = slice_index_or replicas ((session - 1) % length replicas) 0

-- in a valid config the replicas of a key are different workers, at least one; those of a key without pins are as many as its factor says
pub record AreReplicas (config : Config) (key : KeyPlace) (replicas : List ℕ) : Type 0 where
  pub some : 1 ≤ length replicas
  pub are_workers : All (IsOneOf config.workers) replicas
  pub different : AreDifferent replicas
  pub as_many : key.pins ≡ [] → length replicas ≡ factor_of config key

-- each of these keys has the replicas of the table in its place
abbrev pub EachHasReplicas : Config → List KeyPlace → List (List ℕ) → Type 0
EachHasReplicas config [] [] = Unit {0}
EachHasReplicas config (key ∷ keys) (replicas ∷ table) = AreReplicas config key replicas × EachHasReplicas config keys table
EachHasReplicas config [] (replicas ∷ table) = ⊥
EachHasReplicas config (key ∷ keys) [] = ⊥
