-- The workers met at points, and at more points after them.
use Rattle.std.proofs.Common.{◌≡◌, ◌≢◌, ℕ, ◌<◌, ◌≤◌, Bool, true, false, not, cond, ◌==◌, ◌||◌, List, [], ◌∷◌, ◌++◌, length, take, sym, refl, ap, ◌∙◌, inl, inr, arith}
use Rattle.std.specs.List.{filter, list_any, All}
use Rattle.std.proofs.lemmas.Bool.Decides.{nat_tests}
use Rattle.std.proofs.lemmas.Bool.{true≢false, not-true, eqb-true, eq-eqb, not_from_true, not_from_false, cases_Bool}
use Rattle.std.proofs.lemmas.List.{append-nil, length-take, length-append, take_all, take-append-le}
use Rattle.std.proofs.lemmas.List.Elements.{filter-append, filter_passes, All-nil, All-cons, All-head, All-tail, All-filter, All-weaker}
use Rattle.std.proofs.lemmas.List.Kept.{AllPairs-cons, AllPairs-filter}
use Rattle.placement.specs.Config.{AreDifferent}
use Rattle.std.proofs.lemmas.Map.Views.{any-filter_same}
use Rattle.placement.specs.Ring.{workers_met}
use Rattle.placement.specs.declared.ring.Point.{Point}

-- the workers of later points that no earlier point has, in the order met
abbrev pub met_after : List Point → List Point → List ℕ
met_after [] later = workers_met later
met_after (point ∷ earlier) later = filter (λ worker. not (worker == point.worker)) (met_after earlier later)

-- First come the workers of the earlier points, and then the new ones.
pub workers_met-append : (earlier later : List Point) → workers_met (earlier ++ later) ≡ workers_met earlier ++ met_after earlier later
workers_met-append [] later = refl
workers_met-append (point ∷ earlier) later =
    let other : ℕ → Bool = λ worker. not (worker == point.worker) in
    ap (λ (workers : List ℕ). point.worker ∷ filter other workers) (workers_met-append earlier later) ∙ ap (λ (workers : List ℕ). point.worker ∷ workers) (filter-append other (workers_met earlier) (met_after earlier later))

-- A number that equals the one does not equal the other.
differs : (n a b : ℕ) → (n == b) ≡ true → (a == b) ≡ false → (n == a) ≡ false
differs n a b is apart = grind (arith, nat_tests)

-- Whether a worker is in the rest without the first point's worker, or is that worker, is whether it is in the whole.
has_first_or_rest : (first worker : ℕ) (workers : List ℕ) → list_any (λ other. other == worker) (first ∷ filter (λ other. not (other == first)) workers) ≡ ((first == worker) || list_any (λ other. other == worker) workers)
has_first_or_rest first worker workers =
    let same : ℕ → Bool = λ other. other == worker in
    let kept : ℕ → Bool = λ other. not (other == first) in
    elim (cases_Bool (first == worker)) as (λ _. ((first == worker) || list_any same (filter kept workers)) ≡ ((first == worker) || list_any same workers)) [
      | inl here ↦ rw here refl
      | inr apart ↦ rw (apart, any-filter_same same kept true (λ other is. not_from_false _ (differs other first worker is apart)) workers) refl
    ]

-- a filter that keeps no such number
kept_none : (test : ℕ → Bool) (b : Bool) (n : ℕ) → test n ≡ false → filter test (cond b [] (n ∷ [])) ≡ []
kept_none test true n fails = refl
kept_none test false n fails = rw fails refl

-- a filter that keeps the number
kept_one : (test : ℕ → Bool) (b : Bool) (n : ℕ) → test n ≡ true → filter test (cond b [] (n ∷ [])) ≡ cond b [] (n ∷ [])
kept_one test true n passes = refl
kept_one test false n passes = rw passes refl

-- A worker is met exactly where it has one of the points.
pub met_has : (points : List Point) (worker : ℕ) → list_any (λ other. other == worker) (workers_met points) ≡ list_any (λ (point : Point). point.worker == worker) points
met_has [] worker = refl
met_has (point ∷ points) worker = has_first_or_rest point.worker worker (workers_met points) ∙ ap (λ (b : Bool). (point.worker == worker) || b) (met_has points worker)

-- What holds of the worker of each point holds of each worker met.
pub All-workers_met : (P : ℕ → Type 0) (points : List Point) → All (λ point. P point.worker) points → All P (workers_met points)
All-workers_met P [] all = All-nil P
All-workers_met P (point ∷ points) all = All-cons P point.worker (filter (λ worker. not (worker == point.worker)) (workers_met points)) (All-head (λ p. P p.worker) point points all) (All-filter (λ worker. not (worker == point.worker)) P (workers_met points) (All-workers_met P points (All-tail (λ p. P p.worker) point points all)))

-- No worker is met twice.
pub workers_met_differ : (points : List Point) → AreDifferent (workers_met points)
workers_met_differ [] = λ i j d below within. absurd (omega arith)
workers_met_differ (point ∷ points) =
    let kept : ℕ → Bool = λ worker. not (worker == point.worker) in
    let rest = filter kept (workers_met points) in
    let Apart : ℕ → ℕ → Type 0 = λ a b. a ≢ b in
    let apart : All (Apart point.worker) rest = All-weaker (λ worker. kept worker ≡ true) (Apart point.worker) (λ worker passes same. true≢false (sym (eq-eqb worker point.worker (sym same)) ∙ not-true _ passes)) rest (filter_passes kept (workers_met points)) in
    AllPairs-cons Apart point.worker rest apart (AllPairs-filter Apart kept (workers_met points) (workers_met_differ points))

-- at most one number
at_most_one : (known : Bool) (n : ℕ) → length (cond known [] (n ∷ [])) ≤ 1
at_most_one true n = omega arith
at_most_one false n = omega arith

-- One later point brings its worker, unless an earlier point has it.
met_after_one : (earlier : List Point) (point : Point) → met_after earlier (point ∷ []) ≡ cond (list_any (λ worker. worker == point.worker) (workers_met earlier)) [] (point.worker ∷ [])
met_after_one [] point = refl
met_after_one (first ∷ earlier) point =
    let kept : ℕ → Bool = λ worker. not (worker == first.worker) in
    let known = list_any (λ worker. worker == point.worker) (workers_met earlier) in
    ap (filter kept) (met_after_one earlier point) ∙ rw (has_first_or_rest first.worker point.worker (workers_met earlier)) (elim (cases_Bool (first.worker == point.worker)) as (λ _. filter kept (cond known [] (point.worker ∷ [])) ≡ cond ((first.worker == point.worker) || known) [] (point.worker ∷ [])) [
      | inl here ↦ rw here (kept_none kept known point.worker (not_from_true _ (eq-eqb point.worker first.worker (sym (eqb-true first.worker point.worker here)))))
      | inr apart ↦ rw apart (kept_one kept known point.worker (not_from_false _ (differs point.worker first.worker point.worker (eq-eqb point.worker point.worker refl) apart)))
    ])

-- The workers met at one more point, where there are fewer than are wanted.
met_one_more : (factor : ℕ) (points : List Point) (point : Point) (workers : List ℕ) (known : Bool) → workers ≡ take factor (workers_met points) → length workers < factor → list_any (λ worker. worker == point.worker) workers ≡ known → workers ++ cond known [] (point.worker ∷ []) ≡ take factor (workers_met (points ++ point ∷ []))
met_one_more factor points point workers known is few found =
    let met = workers_met points in
    let all : workers ≡ met = is ∙ take_all factor met (omega (arith, length-take factor met, ap length is)) in
    let more : workers_met (points ++ point ∷ []) ≡ workers ++ cond known [] (point.worker ∷ []) =
    workers_met-append points (point ∷ []) ∙ ap (λ (new : List ℕ). met ++ new) (met_after_one points point) ∙ rw (sym all, found) refl in
    let fits : length (workers ++ cond known [] (point.worker ∷ [])) ≤ factor = omega (arith, length-append workers (cond known [] (point.worker ∷ [])), at_most_one known point.worker) in
    sym (ap (take factor) more ∙ take_all factor (workers ++ cond known [] (point.worker ∷ [])) fits)

-- A new worker is met at one more point.
pub met_new : (factor : ℕ) (points : List Point) (point : Point) (workers : List ℕ) → workers ≡ take factor (workers_met points) → length workers < factor → list_any (λ worker. worker == point.worker) workers ≡ false → workers ++ point.worker ∷ [] ≡ take factor (workers_met (points ++ point ∷ []))
met_new factor points point workers is few new = met_one_more factor points point workers false is few new

-- A worker that is met again changes nothing.
pub met_again : (factor : ℕ) (points : List Point) (point : Point) (workers : List ℕ) → workers ≡ take factor (workers_met points) → length workers < factor → list_any (λ worker. worker == point.worker) workers ≡ true → workers ≡ take factor (workers_met (points ++ point ∷ []))
met_again factor points point workers is few again = sym (append-nil workers) ∙ met_one_more factor points point workers true is few again

-- Once there are enough workers, more points change nothing.
pub met_enough : (factor : ℕ) (points later : List Point) (workers : List ℕ) → workers ≡ take factor (workers_met points) → factor ≤ length workers → workers ≡ take factor (workers_met (points ++ later))
met_enough factor points later workers is enough =
    let met = workers_met points in
    is ∙ sym (ap (take factor) (workers_met-append points later) ∙ take-append-le factor met (met_after points later) (omega (arith, length-take factor met, ap length is)))
