-- A clock more that a session had from a worker.
use Rattle.std.specs.Prelude.{◌≡◌, ◌≢◌, ◌↔◌, ℕ, ◌-◌, ◌<◌, ◌^◌, ◌==◌, ◌&&◌, Bool, true, false, cond, IsTrue, List, [], ◌∷◌, ◌++◌, length, slice_index_or, slice_set, Option, Some, None, IfSome, All, unwrap_or}
use Rattle.std.specs.List.{cons_option}
use Rattle.std.specs.Cmp.{nat_cmp_total, unsigned_tied}
use Rattle.std.proofs.Common.{refl, sym, ap, subst, ◌∙◌, inl, inr, arith}
use Rattle.std.proofs.lemmas.Bool.{cases_eq, ne_eqb, eq-eqb}
use Rattle.std.proofs.lemmas.Cmp.{tied_itself}
use Rattle.std.specs.Ordering.{is_eq}
use Rattle.std.proofs.lemmas.List.{append-nil, length-set, get_or-set_same, get_or-set_other}
use Rattle.std.proofs.lemmas.List.Elements.{filter_map-append, All-append, All-nil, All-cons, All-pop}
use Rattle.clock_lattice.specs.Clock.{IsClock, joined_clocks, covers}
use Rattle.clock_lattice.specs.ClockLaws.{covers_through}
use Rattle.clock_lattice.proofs.CoverageLemmas.{clock_coverage}
use Rattle.clock_lattice.specs.Needs.{IsNeeds, clock_at, joined_needs, one_need}
use Rattle.clock_lattice.proofs.NeedsLemmas.{clock-joined, clock_at_is_clock, one_need_is_needs}
use Rattle.session_known.specs.Lawful.{had_from, earlier_from}
use Rattle.placement.specs.Config.{IsOneOf}
use Rattle.session_known.specs.declared.report.Answer.{Answer}
use Rattle.session_known.specs.declared.script.Line.{Line}
use Rattle.anna_check.specs.ClocksSeen.{AreJoined, clock_from}

-- the clock at the key that it was given
at_its_key : (key : ℕ) (clock : List (ℕ × ℕ)) → clock_at key (one_need key clock) ≡ clock
at_its_key key [] = refl
at_its_key key (entry ∷ clock) = ap (λ r. unwrap_or (cond (is_eq r) (Some (entry ∷ clock)) None) []) (tied_itself nat_cmp_total key)

-- and none at another
at_other_key : (key other : ℕ) (clock : List (ℕ × ℕ)) → other ≢ key → clock_at other (one_need key clock) ≡ []
at_other_key key other [] apart = refl
at_other_key key other (entry ∷ clock) apart = ap (λ t. unwrap_or (cond t (Some (entry ∷ clock)) None) []) (unsigned_tied other key ∙ ne_eqb other key apart)

-- a clock joined with one more, where there is one
abbrev with_more : List (ℕ × ℕ) → Option (List (ℕ × ℕ)) → List (ℕ × ℕ)
with_more old None = old
with_more old (Some clock) = joined_clocks old clock

-- what covers the join covers what was there and the one more
covers_more : (clock old : List (ℕ × ℕ)) (more : Option (List (ℕ × ℕ))) (earlier : List (List (ℕ × ℕ))) → IsClock clock → IfSome more (λ more. IsClock old × IsClock more) → IsTrue (covers clock old) ↔ All (λ before. IsTrue (covers clock before)) earlier
    → IsTrue (covers clock (with_more old more)) ↔ All (λ before. IsTrue (covers clock before)) (earlier ++ cons_option more [])
covers_more clock old None earlier is are both = subst (λ all. IsTrue (covers clock old) ↔ All (λ before. IsTrue (covers clock before)) all) (sym (append-nil earlier)) both
covers_more clock old (Some more) earlier is are both =
    let Covered : List (ℕ × ℕ) → Type 0 = λ before. IsTrue (covers clock before) in
    let parts = clock_coverage.join_covers old more are.0 are.1 in (
      (λ whole. All-append Covered earlier (more ∷ []) (both.0 (covers_through clock (joined_clocks old more) old whole parts.0)) (All-cons Covered more [] (covers_through clock (joined_clocks old more) more whole parts.1) (All-nil Covered))),
      (λ all.
          let split = All-pop Covered (earlier ++ more ∷ []) earlier (Some more) refl all in
          clock_coverage.join_is_least old more clock are.0 are.1 is (both.1 split.0) split.1),
    )

-- a test that ends with one that fails
and_false : (t : Bool) → (t && false) ≡ false
and_false true = refl
and_false false = refl

module _ (had : List (List (ℕ × List (ℕ × ℕ)))) (key worker : ℕ) (clock : List (ℕ × ℕ)) where
  -- the clock, at its key and worker alone
  abbrev one_more : ℕ → ℕ → Option (List (ℕ × ℕ))
  one_more its_key by = cond ((key == its_key) && (worker == by)) (Some clock) None

  -- all that was had, with the clock at its key and worker
  abbrev pub had_more : List (List (ℕ × List (ℕ × ℕ)))
  had_more = slice_set had (worker - 1) (joined_needs (slice_index_or had (worker - 1) []) (one_need key clock))

  -- what is had from each is what was, with the one more
  from_each : (its_key by : ℕ) → IsOneOf (length had) worker → IsOneOf (length had) by → key < 2 ^ 16 → IsClock clock → IsNeeds (slice_index_or had (worker - 1) []) → clock_from had_more its_key by ≡ with_more (clock_from had its_key by) (one_more its_key by)
  from_each its_key by some_worker some_by fits is are =
      let old = slice_index_or had (worker - 1) [] in
      let here : slice_index_or had_more (worker - 1) [] ≡ joined_needs old (one_need key clock) = get_or-set_same had (worker - 1) _ [] (omega (arith, some_worker)) in
      elim (cases_eq worker by) [
        | inl same ↦
            let is_by : clock_from had_more its_key by ≡ joined_clocks (clock_at its_key old) (clock_at its_key (one_need key clock)) =
            ap (λ n. clock_from had_more its_key n) (sym same) ∙ ap (clock_at its_key) here ∙ clock-joined its_key old (one_need key clock) are (one_need_is_needs key clock fits is) in
            let was : clock_at its_key old ≡ clock_from had its_key by = ap (clock_from had its_key) same in
            elim (cases_eq key its_key) [
              | inl same_key ↦
                  is_by
                  ∙ ap (joined_clocks (clock_at its_key old)) (ap (λ k. clock_at k (one_need key clock)) (sym same_key) ∙ at_its_key key clock)
                  ∙ ap (λ old. joined_clocks old clock) was
                  ∙ ap (with_more (clock_from had its_key by)) (sym (ap (λ s. cond (s && (worker == by)) (Some clock) None) (eq-eqb key its_key same_key) ∙ ap (λ t. cond t (Some clock) None) (eq-eqb worker by same)))
              | inr apart_key ↦
                  is_by
                  ∙ ap (joined_clocks (clock_at its_key old)) (at_other_key key its_key clock (λ e. apart_key (sym e)))
                  ∙ was
                  ∙ ap (with_more (clock_from had its_key by)) (sym (ap (λ s. cond (s && (worker == by)) (Some clock) None) (ne_eqb key its_key apart_key)))
            ]
        | inr apart ↦
            ap (clock_at its_key) (get_or-set_other had (worker - 1) (by - 1) _ [] (λ e. apart (omega (arith, e, some_worker, some_by))))
            ∙ ap (with_more (clock_from had its_key by)) (sym (ap (λ t. cond ((key == its_key) && t) (Some clock) None) (ne_eqb worker by apart) ∙ ap (λ t. cond t (Some clock) None) (and_false (key == its_key))))
      ]

  -- where there is one more, it and what was had there are clocks
  clocks_there : (its_key by : ℕ) → IsClock clock → IsNeeds (slice_index_or had (worker - 1) []) → IfSome (one_more its_key by) (λ more. IsClock (clock_from had its_key by) × IsClock more)
  clocks_there its_key by is are = elim (cases_eq worker by) [
    | inl same ↦ both_where (key == its_key && worker == by) (subst (λ n. IsClock (clock_from had its_key n)) same (clock_at_is_clock its_key _ are))
    | inr apart ↦ subst (λ more. IfSome more (λ more. IsClock (clock_from had its_key by) × IsClock more)) (sym (ap (λ t. cond ((key == its_key) && t) (Some clock) None) (ne_eqb worker by apart) ∙ ap (λ t. cond t (Some clock) None) (and_false (key == its_key)))) tt
  ]
    where
      both_where : (t : Bool) → IsClock (clock_from had its_key by) → IfSome (cond t (Some clock) None) (λ more. IsClock (clock_from had its_key by) × IsClock more)
      both_where true is_old = (is_old, is)
      both_where false is_old = tt

-- a line's clock from a worker stands after the earlier ones
earlier_more : (key worker : ℕ) (earlier : List (Line × Answer)) (answered : Line × Answer) (more : Option (List (ℕ × ℕ))) → had_from key worker answered ≡ more → earlier_from key worker (earlier ++ answered ∷ []) ≡ earlier_from key worker earlier ++ cons_option more []
earlier_more key worker earlier answered more is = filter_map-append (had_from key worker) earlier (answered ∷ []) ∙ ap (λ found. earlier_from key worker earlier ++ cons_option found []) is

-- The clocks had are joined after one more answer.
pub joined_more : (workers : ℕ) (earlier : List (Line × Answer)) (line : Line) (answer : Answer) (had : List (List (ℕ × List (ℕ × ℕ)))) (key worker : ℕ) (clock : List (ℕ × ℕ)) → IsOneOf (length had) worker → key < 2 ^ 16 → IsClock clock → IsNeeds (slice_index_or had (worker - 1) [])
    → ((its_key by : ℕ) → had_from its_key by (line, answer) ≡ one_more had key worker clock its_key by) → AreJoined workers earlier had → AreJoined workers (earlier ++ (line, answer) ∷ []) (had_more had key worker clock)
joined_more workers earlier line answer had key worker clock some_worker fits is are from before = record {
  workers_are = length-set had (worker - 1) _ ∙ before.workers_are;
  join = λ its_key by covering some_by is_clock.
      let some_by_had : IsOneOf (length had) by = (some_by.0, omega (arith, some_by.1, before.workers_are)) in
      let more = one_more had key worker clock its_key by in
      let both = covers_more covering (clock_from had its_key by) more (earlier_from its_key by earlier) is_clock (clocks_there had key worker clock its_key by is are) (before.join its_key by covering some_by is_clock) in
      subst (λ (at : List (ℕ × ℕ) × List (List (ℕ × ℕ))). IsTrue (covers covering at.0) ↔ All (λ before. IsTrue (covers covering before)) at.1)
      (λ i. (sym (from_each had key worker clock its_key by some_worker some_by_had fits is are) i, sym (earlier_more its_key by earlier (line, answer) more (from its_key by)) i)) both;
}

-- An answer without a clock changes nothing.
pub joined_same : (workers : ℕ) (earlier : List (Line × Answer)) (line : Line) (answer : Answer) (had : List (List (ℕ × List (ℕ × ℕ)))) → ((key worker : ℕ) → had_from key worker (line, answer) ≡ None) → AreJoined workers earlier had → AreJoined workers (earlier ++ (line, answer) ∷ []) had
joined_same workers earlier line answer had none before = record {
  workers_are = before.workers_are;
  join = λ key worker clock within is.
      subst (λ all. IsTrue (covers clock (clock_from had key worker)) ↔ All (λ before. IsTrue (covers clock before)) all)
      (sym (earlier_more key worker earlier (line, answer) None (none key worker) ∙ append-nil (earlier_from key worker earlier))) (before.join key worker clock within is);
}
