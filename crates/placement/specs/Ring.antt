-- The ring: points of workers in the order of their hashes, and the workers met first from a hash onwards.
use Rattle.std.specs.Prelude.{ℕ, not, cond, ◌==◌, nat_lt, nat_le, List, [], ◌∷◌, ◌++◌, take, filter, map, codes}
use Rattle.std.specs.List.{flat_map, range_with_len}
use Rattle.std.specs.Fmt.{decimal}
use Rattle.std.specs.Ordering.{ordering_then, nat_cmp, is_lt}
use Rattle.std.specs.declared.cmp.Ordering.{Ordering}
use Rattle.placement.specs.Hash.{hash_of}
use Rattle.placement.specs.declared.ring.Point.{Point}

-- by hash, then worker, then index
abbrev pub point_cmp : Point → Point → Ordering
point_cmp a b = ordering_then (nat_cmp a.hash b.hash) (ordering_then (nat_cmp a.worker b.worker) (nat_cmp a.index b.index))

-- the points from a hash onwards, once round: those that are not below it, and then those that are
abbrev pub round : List Point → ℕ → List Point
round points hash = filter (λ point. nat_le hash point.hash) points ++ filter (λ point. nat_lt point.hash hash) points

-- the workers of these points in the order met, each once
abbrev pub workers_met : List Point → List ℕ
workers_met [] = []
workers_met (point ∷ points) = point.worker ∷ filter (λ worker. not (worker == point.worker)) (workers_met points)

-- the different workers met first from the hash onwards, at most `factor` of them
abbrev pub walked : List Point → ℕ → ℕ → List ℕ
walked points hash factor = take factor (workers_met (round points hash))

-- a worker's point on the ring: the hash of `w<worker>#<index>`
abbrev pub point_of : ℕ → ℕ → Point
point_of worker index = record { hash = hash_of (codes "w" ++ decimal worker ++ codes "#" ++ decimal index); worker = worker; index = index }

-- the 16 points of each of the workers 1 to `workers`
abbrev pub points_of : ℕ → List Point
points_of workers = flat_map (λ worker. map (point_of worker) (range_with_len 0 16)) (range_with_len 1 workers)

-- a point put before the first of these that is not below it
abbrev pub with_point : Point → List Point → List Point
with_point point [] = point ∷ []
with_point point (first ∷ points) = cond (is_lt (point_cmp first point)) (first ∷ with_point point points) (point ∷ first ∷ points)

-- these points in ascending order, put in one after the other
abbrev pub sorted_points : List Point → List Point
sorted_points [] = []
sorted_points (point ∷ points) = with_point point (sorted_points points)

-- the points of all workers in ascending order
unfoldable pub ring_of : ℕ → List Point
ring_of workers = sorted_points (points_of workers)
