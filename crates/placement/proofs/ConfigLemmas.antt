-- The points of the workers have one ascending order, so a config has one ring and one placement.
use Rattle.std.specs.Prelude.{◌≡◌, ℕ, Bool, true, false, cond, List, [], ◌∷◌, map, IsSorted, IsPermutation}
use Rattle.std.proofs.Common.{refl, ap, ◌∙◌}
use Rattle.std.proofs.lemmas.Cmp.{on_total, then_total}
use Rattle.std.proofs.lemmas.List.Elements.{All-cons}
use Rattle.std.proofs.lemmas.List.Sorted.{IsPermutation-refl, IsPermutation-sym, IsPermutation-cons, IsPermutation-middle, IsPermutation-trans, All-permutation}
use Rattle.std.specs.Cmp.{IsTotalOrder, nat_cmp_total}
use Rattle.std.specs.FinMap.{IsAntisymmetric, nat_cmp-IsAntisymmetric}
use Rattle.std.specs.Ordering.{nat_cmp, is_lt}
use Rattle.lattice_laws.specs.Ties.{both_tie}
use Rattle.placement.specs.Config.{IsRing, IsPlacement, replicas_on, placed}
use Rattle.placement.specs.Ring.{point_cmp, points_of, with_point, sorted_points, ring_of}
use Rattle.placement.proofs.SortedLemmas.{sorted_none, sorted_one, sorted_cons, sorted_before, sorted_tail, none_below_first, not_above, one_sorted}
use Rattle.placement.specs.declared.config.Config.{Config}
use Rattle.placement.specs.declared.ring.Point.{Point}

pub point_total : IsTotalOrder point_cmp
point_total = then_total (on_total (λ p. p.hash) nat_cmp_total) (then_total (on_total (λ p. p.worker) nat_cmp_total) (on_total (λ p. p.index) nat_cmp_total))

-- points that tie are one
pub point_exact : IsAntisymmetric point_cmp
point_exact a b e =
    let by_hash = both_tie (nat_cmp a.hash b.hash) _ e in
    let by_worker = both_tie (nat_cmp a.worker b.worker) _ by_hash.1 in
    let hash = nat_cmp-IsAntisymmetric a.hash b.hash by_hash.0 in
    let worker = nat_cmp-IsAntisymmetric a.worker b.worker by_worker.0 in
    let index = nat_cmp-IsAntisymmetric a.index b.index by_worker.1 in
    λ i. record { hash = hash i; worker = worker i; index = index i }

-- the points with one more, where that comes after the first or before it
with_permutes_as : (point first : Point) (points : List Point) (after : Bool) → IsPermutation (point ∷ points) (with_point point points) → IsPermutation (point ∷ first ∷ points) (cond after (first ∷ with_point point points) (point ∷ first ∷ points))
with_permutes_as point first points true rest = IsPermutation-trans _ (first ∷ point ∷ points) _ (IsPermutation-sym _ _ (IsPermutation-middle (first ∷ []) point points)) (IsPermutation-cons first _ _ rest)
with_permutes_as point first points false rest = IsPermutation-refl (point ∷ first ∷ points)

-- A point is put among others, and nothing else changes.
with_permutes : (point : Point) (points : List Point) → IsPermutation (point ∷ points) (with_point point points)
with_permutes point [] = IsPermutation-refl (point ∷ [])
with_permutes point (first ∷ points) = with_permutes_as point first points (is_lt (point_cmp first point)) (with_permutes point points)

-- the same of the order of the points
with_sorted_as : (point first : Point) (points : List Point) (after : Bool) → is_lt (point_cmp first point) ≡ after → IsSorted point_cmp (first ∷ points) → IsSorted point_cmp (with_point point points) → IsSorted point_cmp (cond after (first ∷ with_point point points) (point ∷ first ∷ points))
with_sorted_as point first points true is up rest =
    let After : Point → Type 0 = λ other. is_lt (point_cmp other first) ≡ false in
    sorted_before point_cmp first (with_point point points) (All-permutation After (point ∷ points) (with_point point points) (with_permutes point points) (All-cons After point points (not_above point_cmp point_total first point is) (none_below_first point_cmp point_total first points up))) rest
with_sorted_as point first points false is up rest = sorted_cons point_cmp point first points is up

-- A point is put among ascending ones in its place.
with_sorted : (point : Point) (points : List Point) → IsSorted point_cmp points → IsSorted point_cmp (with_point point points)
with_sorted point [] up = sorted_one point_cmp point
with_sorted point (first ∷ points) up = with_sorted_as point first points (is_lt (point_cmp first point)) refl up (with_sorted point points (sorted_tail point_cmp first points up))

-- sorted points are the same points
pub sorted_permutes : (points : List Point) → IsPermutation points (sorted_points points)
sorted_permutes [] = IsPermutation-refl []
sorted_permutes (point ∷ points) = IsPermutation-trans _ (point ∷ sorted_points points) _ (IsPermutation-cons point _ _ (sorted_permutes points)) (with_permutes point (sorted_points points))

-- in ascending order
pub sorted_ascend : (points : List Point) → IsSorted point_cmp (sorted_points points)
sorted_ascend [] = sorted_none point_cmp
sorted_ascend (point ∷ points) = with_sorted point (sorted_points points) (sorted_ascend points)

-- The workers have a ring.
pub is_ring : (workers : ℕ) → IsRing workers (ring_of workers)
unfolding ring_of
is_ring workers = record {
  ascending = sorted_ascend (points_of workers);
  all = sorted_permutes (points_of workers);
}

-- They have no other.
pub ring_is : (workers : ℕ) (points : List Point) → IsRing workers points → points ≡ ring_of workers
ring_is workers points is =
    let ring = is_ring workers in
    one_sorted point_cmp point_total point_exact (points_of workers) points (ring_of workers) is.ascending ring.ascending is.all ring.all

-- A config has a placement.
pub is_placement : (config : Config) → IsPlacement config (placed config)
unfolding placed
is_placement config = record { ring = ring_of config.workers; is_ring = is_ring config.workers; replicas = refl }

-- It has no other.
pub placement_is : (config : Config) (table : List (List ℕ)) → IsPlacement config table → table ≡ placed config
unfolding placed
placement_is config table is = is.replicas ∙ ap (λ ring. map (replicas_on ring config) config.keys) (ring_is config.workers is.ring is.is_ring)
