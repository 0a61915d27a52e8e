-- The points of the workers, one worker at a time.
use Rattle.std.proofs.Common.{◌≡◌, ◌≤◌, ◌==◌, ◌||◌, Bool, true, zero, suc, inl, inr, add-one, ℕ, ◌+◌, List, [], ◌∷◌, ◌++◌, map, sym, ap, ◌∙◌, refl, arith}
use Rattle.std.specs.List.{flat_map, range_with_len, list_any, All}
use Rattle.std.proofs.lemmas.List.{map-id, append-nil, append_assoc}
use Rattle.std.proofs.lemmas.List.FromFn.{map-range_with_len_more}
use Rattle.std.proofs.lemmas.List.Concat.{flat_map-append}
use Rattle.std.proofs.lemmas.List.Folds.{list_any-append}
use Rattle.std.proofs.lemmas.List.Elements.{All-nil, All-append, All-map, All-same}
use Rattle.std.proofs.lemmas.Bool.{or_left, or_right, eq-eqb, cases_lt}
use Rattle.placement.specs.Config.{IsOneOf}
use Rattle.placement.specs.Ring.{point_of, points_of}
use Rattle.placement.specs.declared.ring.Point.{Point}

-- one more number in a row
pub range_more : (start n : ℕ) → range_with_len start (n + 1) ≡ range_with_len start n ++ (start + n) ∷ []
range_more start n = sym (map-id (range_with_len start (n + 1))) ∙ map-range_with_len_more (λ (k : ℕ). k) start n (start + n) refl ∙ ap (λ (ks : List ℕ). ks ++ (start + n) ∷ []) (map-id (range_with_len start n))

-- the points of a row of workers and of one more
points_more : (points : ℕ → List Point) (start n : ℕ) → flat_map points (range_with_len start (n + 1)) ≡ flat_map points (range_with_len start n) ++ points (start + n)
points_more points start n = ap (flat_map points) (range_more start n) ∙ flat_map-append points (range_with_len start n) ((start + n) ∷ []) ∙ ap (λ (ps : List Point). flat_map points (range_with_len start n) ++ ps) (append-nil (points (start + n)))

-- the points of one more worker
pub points_of_more : (workers : ℕ) → points_of (workers + 1) ≡ points_of workers ++ map (point_of (workers + 1)) (range_with_len 0 16)
points_of_more workers =
    let next : 1 + workers ≡ workers + 1 = omega arith in
    points_more (λ worker. map (point_of worker) (range_with_len 0 16)) 1 workers ∙ ap (λ (worker : ℕ). points_of workers ++ map (point_of worker) (range_with_len 0 16)) next

-- Each of the workers has a point.
pub points_of_each : (workers worker : ℕ) → 1 ≤ worker → worker ≤ workers → list_any (λ (point : Point). point.worker == worker) (points_of workers) ≡ true
points_of_each zero worker some known = absurd (omega arith)
points_of_each (suc workers) worker some known =
    let same : Point → Bool = λ point. point.worker == worker in
    let last = map (point_of (workers + 1)) (range_with_len 0 16) in
    let step : list_any same (points_of (suc workers)) ≡ (list_any same (points_of workers) || list_any same last) =
    ap (λ (n : ℕ). list_any same (points_of n)) (sym (add-one workers)) ∙ ap (list_any same) (points_of_more workers) ∙ list_any-append same (points_of workers) last in
    step ∙ elim (cases_lt workers worker) [
      | inl new ↦ (let is : workers + 1 ≡ worker = omega arith in or_right (list_any same (points_of workers)) (list_any same last) (or_left _ _ (eq-eqb (workers + 1) worker is)))
      | inr before ↦ or_left (list_any same (points_of workers)) (list_any same last) (points_of_each workers worker some before)
    ]

-- Each point belongs to one of the workers.
pub points_of_workers : (workers most : ℕ) → workers ≤ most → All (λ (point : Point). IsOneOf most point.worker) (points_of workers)
points_of_workers zero most few = All-nil (λ (point : Point). IsOneOf most point.worker)
points_of_workers (suc workers) most few =
    let Known : Point → Type 0 = λ point. IsOneOf most point.worker in
    let last = map (point_of (workers + 1)) (range_with_len 0 16) in
    let step : points_of (suc workers) ≡ points_of workers ++ last = ap points_of (sym (add-one workers)) ∙ points_of_more workers in
    All-same Known (points_of (suc workers)) (points_of workers ++ last) step
    (All-append Known (points_of workers) last (points_of_workers workers most (omega arith)) (All-map Known (point_of (workers + 1)) (range_with_len 0 16) (λ k d within. (omega arith, omega arith))))

-- One more point of the worker stands after those so far.
pub point_pushed : (worker index : ℕ) (before points : List Point) (point : Point) → points ≡ before ++ map (point_of worker) (range_with_len 0 index) → point ≡ point_of worker index → points ++ point ∷ [] ≡ before ++ map (point_of worker) (range_with_len 0 (index + 1))
point_pushed worker index before points point so_far is =
    let front = map (point_of worker) (range_with_len 0 index) in
    let next : map (point_of worker) (range_with_len 0 (index + 1)) ≡ front ++ point_of worker index ∷ [] = map-range_with_len_more (point_of worker) 0 index index (omega arith) in
    rw (so_far, is, next) (append_assoc before front (point_of worker index ∷ []))
