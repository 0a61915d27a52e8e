-- The steps of a pass over two maps in the order of their keys: what they push, and what they leave to do.
use Rattle.std.proofs.Common.{◌≡◌, ◌↔◌, ℕ, zero, suc, ◌<◌, ◌≤◌, ◌+◌, ◌-◌, ◌≢◌, IsTrue, true, false, List, [], ◌∷◌, ◌++◌, length, take, drop, get_or, slice_index_or, slice_get, is_some, eqb, Bool, Option, Some, None, refl, sym, ap, subst, ◌∙◌, arith}
use mathlib.Core.Bool.{false≢true}
use borrow.Author.Tests.{eqb-true, eq-eqb}
use Rattle.std.specs.Option.{MatchOption, unwrap_or}
use Rattle.std.specs.Bool.{then_some}
use Rattle.std.specs.declared.cmp.Ordering.{Ordering}
use Rattle.std.specs.declared.cmp.Ordering.TheVariants.{Less, Equal, Greater}
use Rattle.std.specs.Ordering.{is_lt, is_gt}
use Rattle.std.specs.Cmp.{IsTotalOrder, tied_itself, tied_back}
use Rattle.std.specs.FinMap.{is_sorted, IsAntisymmetric}
use Rattle.std.specs.FinMap.Entries.{below_all}
use Rattle.std.proofs.lemmas.List.{append_assoc, map-append, append-nil, drop_more, drop-drop, drop-map, drop_all, take_rest, length-drop, length-map}
use Rattle.lattice_laws.specs.Entries.{plain_entries, raised, joined_maps}
use Rattle.lattice_laws.specs.Merging.{first_side, IsJoinStep, IsAtMost, NeverAtMost, IsPassed}
use Rattle.lattice_laws.specs.Ascending.{below_first, below_others, first_below, ascending_tail, below_cons, below_tied}
use Rattle.lattice_laws.proofs.AscendingLemmas.{Greater_from_Less, Less_from_Greater, below_through, raised_past, raised_first, raised_before}

-- the orders are three
Less≢Greater : Less ≢ Greater
Less≢Greater h = false≢true (sym (ap is_lt h))

Less≢Equal : Less ≢ Equal
Less≢Equal h = false≢true (sym (ap is_lt h))

Equal≢Greater : Equal ≢ Greater
Equal≢Greater h = false≢true (ap is_gt h)

module _ {K P : Type 0} (cmp : K → K → Ordering) (joined : P → P → P) (total : IsTotalOrder cmp) where
  -- an entry below all of the second map comes first in the join
  joined_past : (e : K × P) (a b : List (K × P)) → IsTrue (below_all cmp e.0 b) → joined_maps cmp joined (e ∷ a) b ≡ e ∷ joined_maps cmp joined a b
  joined_past e a [] below = refl
  joined_past e a (f ∷ b) below =
      ap (λ x. joined_maps cmp joined x b) (raised_past cmp joined f.0 f.1 e a (Greater_from_Less cmp total e.0 f.0 (below_first cmp e.0 f b below)))
      ∙ joined_past e (raised cmp joined f.0 f.1 a) b (below_others cmp e.0 f b below)

  -- the first map's entry comes first where its key is the lesser
  joined_first_mine : (e f : K × P) (a b : List (K × P)) → cmp e.0 f.0 ≡ Less → IsTrue (is_sorted cmp (f ∷ b)) → joined_maps cmp joined (e ∷ a) (f ∷ b) ≡ e ∷ joined_maps cmp joined a (f ∷ b)
  joined_first_mine e f a b h rises = joined_past e a (f ∷ b) (below_cons cmp e.0 f b h (below_through cmp total e.0 f.0 b h (first_below cmp f b rises)))

  -- both come first, joined, where the keys tie
  joined_first_both : (e f : K × P) (a b : List (K × P)) → cmp e.0 f.0 ≡ Equal → IsTrue (is_sorted cmp (f ∷ b)) → joined_maps cmp joined (e ∷ a) (f ∷ b) ≡ (e.0, joined e.1 f.1) ∷ joined_maps cmp joined a b
  joined_first_both e f a b h rises =
      ap (λ x. joined_maps cmp joined x b) (raised_first cmp joined f.0 f.1 e a (tied_back total e.0 f.0 h))
      ∙ joined_past (e.0, joined e.1 f.1) a b (below_tied cmp total e.0 f.0 b h (first_below cmp f b rises))

  -- the second map's entry comes first where its key is below all of the first map
  joined_first_below : (f : K × P) (a b : List (K × P)) → IsTrue (below_all cmp f.0 a) → IsTrue (is_sorted cmp (f ∷ b)) → joined_maps cmp joined a (f ∷ b) ≡ f ∷ joined_maps cmp joined a b
  joined_first_below f a b below rises =
      ap (λ x. joined_maps cmp joined x b) (raised_before cmp joined f.0 f.1 a below)
      ∙ joined_past f a b (first_below cmp f b rises)

  -- as it is where it is below the first key
  joined_first_theirs : (e f : K × P) (a b : List (K × P)) → cmp e.0 f.0 ≡ Greater → IsTrue (is_sorted cmp (e ∷ a)) → IsTrue (is_sorted cmp (f ∷ b)) → joined_maps cmp joined (e ∷ a) (f ∷ b) ≡ f ∷ joined_maps cmp joined (e ∷ a) b
  joined_first_theirs e f a b h mine theirs =
      let less = Less_from_Greater cmp total e.0 f.0 h in
      joined_first_below f (e ∷ a) b (below_cons cmp f.0 e a less (below_through cmp total f.0 e.0 a less (first_below cmp e a mine))) theirs

  -- the join of no entries and a map is the map
  joined_none : (b : List (K × P)) → IsTrue (is_sorted cmp b) → joined_maps cmp joined [] b ≡ b
  joined_none [] rises = refl
  joined_none (f ∷ b) rises = joined_first_below f [] b refl rises ∙ ap (λ x. f ∷ x) (joined_none b (ascending_tail cmp f b rises))

-- the first entry of a join is pushed, and the rest of the join is left
pushed_first : {X : Type 0} (done later : List X) (e : X) (all rest : List X) → later ≡ done ++ e ∷ [] → all ≡ e ∷ rest → later ++ rest ≡ done ++ all
pushed_first done later e all rest pushed is = ap (λ l. l ++ rest) pushed ∙ append_assoc done (e ∷ []) rest ∙ ap (λ r. done ++ r) (sym is)

module _ {K L P : Type 0} (cmp : K → K → Ordering) (joined : P → P → P) (total : IsTotalOrder cmp) (plain : L → P) where
  -- the plain value of one pushed entry
  plain_pushed : (done later : List (K × L)) (entry : K × L) (e : K × P) → later ≡ done ++ entry ∷ [] → entry.0 ≡ e.0 → plain entry.1 ≡ e.1 → plain_entries plain later ≡ plain_entries plain done ++ e ∷ []
  plain_pushed done later entry e pushed same_key same_value =
      ap (plain_entries plain) pushed ∙ map-append (λ x. (x.0, plain x.1)) done (entry ∷ [])
      ∙ (λ i. plain_entries plain done ++ (same_key i, same_value i) ∷ [])

  -- the first map's entry was pushed
  pub step_of_mine : (done mine theirs later : List (K × L)) (d entry : K × L) → first_side cmp (plain_entries plain mine) (plain_entries plain theirs) ≡ Less → 0 < length mine + length theirs → IsTrue (is_sorted cmp (plain_entries plain theirs)) → later ≡ done ++ entry ∷ [] → entry.0 ≡ (slice_index_or mine 0 d).0 → plain entry.1 ≡ plain (slice_index_or mine 0 d).1 → IsJoinStep cmp joined (plain_entries plain done) (plain_entries plain mine) (plain_entries plain theirs) (plain_entries plain later) 1 0
  step_of_mine done [] [] later d entry side some rises pushed same_key same_value = absurd (omega (arith, some))
  step_of_mine done [] (f ∷ b) later d entry side some rises pushed same_key same_value = absurd (Less≢Greater (sym side))
  step_of_mine done (m ∷ a) [] later d entry side some rises pushed same_key same_value = record {
    mine_in_range = omega arith;
    theirs_in_range = omega arith;
    is_some = omega arith;
    goes_on = pushed_first (plain_entries plain done) (plain_entries plain later) (m.0, plain m.1) _ (plain_entries plain a) (plain_pushed done later entry (m.0, plain m.1) pushed same_key same_value) refl;
  }
  step_of_mine done (m ∷ a) (f ∷ b) later d entry side some rises pushed same_key same_value = record {
    mine_in_range = omega arith;
    theirs_in_range = omega arith;
    is_some = omega arith;
    goes_on = pushed_first (plain_entries plain done) (plain_entries plain later) (m.0, plain m.1) _ _ (plain_pushed done later entry (m.0, plain m.1) pushed same_key same_value)
        (joined_first_mine cmp joined total (m.0, plain m.1) (f.0, plain f.1) (plain_entries plain a) (plain_entries plain b) side rises);
  }

  -- the join of both first entries was pushed
  pub step_of_both : (done mine theirs later : List (K × L)) (d d' entry : K × L) → first_side cmp (plain_entries plain mine) (plain_entries plain theirs) ≡ Equal → IsTrue (is_sorted cmp (plain_entries plain theirs)) → later ≡ done ++ entry ∷ [] → entry.0 ≡ (slice_index_or mine 0 d).0 → plain entry.1 ≡ joined (plain (slice_index_or mine 0 d).1) (plain (slice_index_or theirs 0 d').1) → IsJoinStep cmp joined (plain_entries plain done) (plain_entries plain mine) (plain_entries plain theirs) (plain_entries plain later) 1 1
  step_of_both done [] [] later d d' entry side rises pushed same_key is_join = absurd (Less≢Equal side)
  step_of_both done (m ∷ a) [] later d d' entry side rises pushed same_key is_join = absurd (Less≢Equal side)
  step_of_both done [] (f ∷ b) later d d' entry side rises pushed same_key is_join = absurd (Equal≢Greater (sym side))
  step_of_both done (m ∷ a) (f ∷ b) later d d' entry side rises pushed same_key is_join = record {
    mine_in_range = omega arith;
    theirs_in_range = omega arith;
    is_some = omega arith;
    goes_on = pushed_first (plain_entries plain done) (plain_entries plain later) (m.0, joined (plain m.1) (plain f.1)) _ _ (plain_pushed done later entry (m.0, joined (plain m.1) (plain f.1)) pushed same_key is_join)
        (joined_first_both cmp joined total (m.0, plain m.1) (f.0, plain f.1) (plain_entries plain a) (plain_entries plain b) side rises);
  }

  -- the second map's entry was pushed
  pub step_of_theirs : (done mine theirs later : List (K × L)) (d entry : K × L) → first_side cmp (plain_entries plain mine) (plain_entries plain theirs) ≡ Greater → IsTrue (is_sorted cmp (plain_entries plain mine)) → IsTrue (is_sorted cmp (plain_entries plain theirs)) → later ≡ done ++ entry ∷ [] → entry.0 ≡ (slice_index_or theirs 0 d).0 → plain entry.1 ≡ plain (slice_index_or theirs 0 d).1 → IsJoinStep cmp joined (plain_entries plain done) (plain_entries plain mine) (plain_entries plain theirs) (plain_entries plain later) 0 1
  step_of_theirs done [] [] later d entry side mine_rises rises pushed same_key same_value = absurd (Less≢Greater side)
  step_of_theirs done (m ∷ a) [] later d entry side mine_rises rises pushed same_key same_value = absurd (Less≢Greater side)
  step_of_theirs done [] (f ∷ b) later d entry side mine_rises rises pushed same_key same_value = record {
    mine_in_range = omega arith;
    theirs_in_range = omega arith;
    is_some = omega arith;
    goes_on = pushed_first (plain_entries plain done) (plain_entries plain later) (f.0, plain f.1) _ _ (plain_pushed done later entry (f.0, plain f.1) pushed same_key same_value)
        (joined_first_below cmp joined total (f.0, plain f.1) [] (plain_entries plain b) refl rises);
  }
  step_of_theirs done (m ∷ a) (f ∷ b) later d entry side mine_rises rises pushed same_key same_value = record {
    mine_in_range = omega arith;
    theirs_in_range = omega arith;
    is_some = omega arith;
    goes_on = pushed_first (plain_entries plain done) (plain_entries plain later) (f.0, plain f.1) _ _ (plain_pushed done later entry (f.0, plain f.1) pushed same_key same_value)
        (joined_first_theirs cmp joined total (m.0, plain m.1) (f.0, plain f.1) (plain_entries plain a) (plain_entries plain b) side mine_rises rises);
  }

-- equal lists have equal first elements
same_first : {X : Type 0} (x y : X) (xs ys : List X) → x ∷ xs ≡ y ∷ ys → x ≡ y
same_first x y xs ys e = ap (λ l. slice_index_or l 0 x) e

-- and equal rests
same_rest : {X : Type 0} (x y : X) (xs ys : List X) → x ∷ xs ≡ y ∷ ys → xs ≡ ys
same_rest x y xs ys e = ap (drop 1) e

module _ {K P : Type 0} (cmp : K → K → Ordering) (joined : P → P → P) (total : IsTotalOrder cmp) where
  -- no entries are at most whatever comes
  pub passed_by_none : (entry : K × P) → IsPassed cmp joined [] entry 0
  passed_by_none entry = record {
    in_range = omega arith;
    goes_on = λ rest mine rises. (λ _. joined_none cmp joined total rest (ascending_tail cmp entry rest rises), λ _. joined_none cmp joined total (entry ∷ rest) rises);
  }

  -- a map with a key below all of another is not at most that one
  pub never_below : (e entry : K × P) (a : List (K × P)) → cmp e.0 entry.0 ≡ Less → NeverAtMost cmp joined (e ∷ a) entry
  never_below e entry a h rest rises at_most =
      let same : e ≡ entry = same_first e entry _ rest (sym (joined_first_mine cmp joined total e entry a rest h rises) ∙ at_most) in
      Less≢Equal (sym h ∙ ap (λ x. cmp e.0 x.0) (sym same) ∙ tied_itself total e.0)

  -- nor is one whose value at the key is not at most the other's
  pub never_at_key : (e entry : K × P) (a : List (K × P)) → cmp e.0 entry.0 ≡ Equal → joined e.1 entry.1 ≢ entry.1 → NeverAtMost cmp joined (e ∷ a) entry
  never_at_key e entry a h differs rest rises at_most =
      let same : ◌≡◌ {A = K × P} (e.0, joined e.1 entry.1) entry = same_first (e.0, joined e.1 entry.1) entry _ rest (sym (joined_first_both cmp joined total e entry a rest h rises) ∙ at_most) in
      differs (ap (λ x. x.1) same)

  -- a key of the other map below all of the first is passed by
  pub passed_by_above : (e entry : K × P) (a : List (K × P)) → cmp e.0 entry.0 ≡ Greater → IsPassed cmp joined (e ∷ a) entry 0
  passed_by_above e entry a h = record {
    in_range = omega arith;
    goes_on = λ rest mine rises.
        let first = joined_first_theirs cmp joined total e entry a rest h mine rises in
        (λ at_most. same_rest entry entry _ rest (sym first ∙ at_most), λ at_most. first ∙ ap (λ x. entry ∷ x) at_most);
  }

  -- an entry whose value is at most the other's at that key is passed with it
  pub passed_by_both : IsAntisymmetric cmp → (e entry : K × P) (a : List (K × P)) → cmp e.0 entry.0 ≡ Equal → joined e.1 entry.1 ≡ entry.1 → IsPassed cmp joined (e ∷ a) entry 1
  passed_by_both exact e entry a h covered = record {
    in_range = omega arith;
    goes_on = λ rest mine rises.
        let both : ◌≡◌ {A = K × P} (e.0, joined e.1 entry.1) entry = λ i. (exact e.0 entry.0 h i, covered i) in
        let first : joined_maps cmp joined (e ∷ a) (entry ∷ rest) ≡ entry ∷ joined_maps cmp joined a rest = joined_first_both cmp joined total e entry a rest h rises ∙ ap (λ x. x ∷ joined_maps cmp joined a rest) both in
        (λ at_most. same_rest entry entry _ rest (sym first ∙ at_most), λ at_most. first ∙ ap (λ x. entry ∷ x) at_most);
  }

module _ {K L P : Type 0} (cmp : K → K → Ordering) (joined : P → P → P) (total : IsTotalOrder cmp) (plain : L → P) where
  -- where there is no first entry, nothing is left to pass
  pub nothing_to_pass : (mine : List (K × L)) (entry : K × P) → None ≡ slice_get mine 0 → IsPassed cmp joined (plain_entries plain mine) entry 0
  nothing_to_pass [] entry is = passed_by_none cmp joined total entry
  nothing_to_pass (m ∷ a) entry is = absurd (false≢true (ap is_some is))

  -- the entry comes too late for the first entry
  pub too_late : (mine : List (K × L)) (first : K × L) (entry : K × P) → Some first ≡ slice_get mine 0 → cmp first.0 entry.0 ≡ Less → NeverAtMost cmp joined (plain_entries plain mine) entry
  too_late [] first entry is h = absurd (false≢true (sym (ap is_some is)))
  too_late (m ∷ a) first entry is h = never_below cmp joined total (m.0, plain m.1) entry (plain_entries plain a) (ap (λ o. cmp (unwrap_or o first).0 entry.0) (sym is) ∙ h)

  -- the entry comes before the first entry
  pub too_early : (mine : List (K × L)) (first : K × L) (entry : K × P) → Some first ≡ slice_get mine 0 → cmp first.0 entry.0 ≡ Greater → IsPassed cmp joined (plain_entries plain mine) entry 0
  too_early [] first entry is h = absurd (false≢true (sym (ap is_some is)))
  too_early (m ∷ a) first entry is h = passed_by_above cmp joined total (m.0, plain m.1) entry (plain_entries plain a) (ap (λ o. cmp (unwrap_or o first).0 entry.0) (sym is) ∙ h)

  -- the entry has the first entry's key, and covers it or does not
  in_time : IsAntisymmetric cmp → (mine : List (K × L)) (first : K × L) (entry : K × P) (covers : Bool) → Some first ≡ slice_get mine 0 → cmp first.0 entry.0 ≡ Equal → IsTrue covers ↔ (joined (plain first.1) entry.1 ≡ entry.1) → MatchOption (then_some covers 1) (NeverAtMost cmp joined (plain_entries plain mine) entry) (IsPassed cmp joined (plain_entries plain mine) entry)
  in_time exact [] first entry covers is h says = absurd (false≢true (sym (ap is_some is)))
  in_time exact (m ∷ a) first entry true is h says =
      passed_by_both cmp joined total exact (m.0, plain m.1) entry (plain_entries plain a) (ap (λ o. cmp (unwrap_or o first).0 entry.0) (sym is) ∙ h)
      (ap (λ o. joined (plain (unwrap_or o first).1) entry.1) (sym is) ∙ says.0 refl)
  in_time exact (m ∷ a) first entry false is h says =
      never_at_key cmp joined total (m.0, plain m.1) entry (plain_entries plain a) (ap (λ o. cmp (unwrap_or o first).0 entry.0) (sym is) ∙ h)
      (λ covered. false≢true (says.1 (ap (λ o. joined (plain (unwrap_or o first).1) entry.1) is ∙ covered)))

  -- as the answer of the pass has it
  pub in_time_answers : IsAntisymmetric cmp → (mine : List (K × L)) (first : K × L) (entry : K × P) (covers : Bool) (answer : Option ℕ) → Some first ≡ slice_get mine 0 → cmp first.0 entry.0 ≡ Equal → IsTrue covers ↔ (joined (plain first.1) entry.1 ≡ entry.1) → answer ≡ then_some covers 1 → MatchOption answer (NeverAtMost cmp joined (plain_entries plain mine) entry) (IsPassed cmp joined (plain_entries plain mine) entry)
  in_time_answers exact mine first entry covers answer is h says answers =
      subst (λ r. MatchOption r (NeverAtMost cmp joined (plain_entries plain mine) entry) (IsPassed cmp joined (plain_entries plain mine) entry)) (sym answers)
      (in_time exact mine first entry covers is h says)

-- What is pushed so far, and the join of what is left of both maps, is the whole join.
pub record JoinGoesOn {K L P : Type 0} (cmp : K → K → Ordering) (joined : P → P → P) (plain : L → P) (mine theirs all : List (K × L)) (of_mine of_theirs : ℕ) : Type 0 where
  pub mine_in_range : of_mine ≤ length mine
  pub theirs_in_range : of_theirs ≤ length theirs
  pub goes_on : plain_entries plain all ++ joined_maps cmp joined (plain_entries plain (drop of_mine mine)) (plain_entries plain (drop of_theirs theirs)) ≡ joined_maps cmp joined (plain_entries plain mine) (plain_entries plain theirs)

-- The one map is at most the other just where what is left of it is at most what is left of the other.
pub record AtMostGoesOn {K L P : Type 0} (cmp : K → K → Ordering) (joined : P → P → P) (plain : L → P) (mine theirs : List (K × L)) (found passed_by : ℕ) : Type 0 where
  pub in_range : found ≤ length mine
  pub goes_on : IsAtMost cmp joined (plain_entries plain mine) (plain_entries plain theirs) ↔ IsAtMost cmp joined (plain_entries plain (drop found mine)) (plain_entries plain (drop passed_by theirs))

module _ {K L P : Type 0} (cmp : K → K → Ordering) (plain : L → P) where
  -- what is left of a map rises too
  ascending_drop : (es : List (K × L)) (n : ℕ) → IsTrue (is_sorted cmp (plain_entries plain es)) → IsTrue (is_sorted cmp (plain_entries plain (drop n es)))
  ascending_drop es zero rises = rises
  ascending_drop [] (suc n) rises = rises
  ascending_drop (e ∷ es) (suc n) rises = ascending_drop es n (ascending_tail cmp (e.0, plain e.1) (plain_entries plain es) rises)

  -- seen as the slice from a place on
  pub ascending_from : (es : List (K × L)) (n : ℕ) → IsTrue (is_sorted cmp (plain_entries plain es)) → IsTrue (is_sorted cmp (plain_entries plain (take (length es - n) (drop n es))))
  ascending_from es n rises = ap (λ rest. is_sorted cmp (plain_entries plain rest)) (take_rest es n) ∙ ascending_drop es n rises

-- what is left after more is taken
plain_dropped : {K L P : Type 0} (plain : L → P) (es : List (K × L)) (n more : ℕ) → plain_entries plain (drop (n + more) es) ≡ drop more (plain_entries plain (drop n es))
plain_dropped plain es n more = sym (drop-map (λ entry. (entry.0, plain entry.1)) more (drop n es) ∙ ap (plain_entries plain) (drop-drop more n es))

-- what is taken of what is left is in range
taken_in_range : {K L P : Type 0} (plain : L → P) (es : List (K × L)) (n more : ℕ) → n ≤ length es → more ≤ length (plain_entries plain (drop n es)) → n + more ≤ length es
taken_in_range plain es n more before in_range =
    let same : ◌≡◌ {A = ℕ} (length (plain_entries plain (drop n es))) (length (drop n es)) = length-map (drop n es) (λ entry. (entry.0, plain entry.1)) in
    let left : ◌≡◌ {A = ℕ} (length (drop n es)) (length es - n) = length-drop n es in
    omega arith

module _ {K L P : Type 0} (cmp : K → K → Ordering) (joined : P → P → P) (plain : L → P) (mine theirs : List (K × L)) where
  -- one more step
  pub join_goes_on : (all later : List (K × L)) (n m of_mine of_theirs : ℕ) → JoinGoesOn cmp joined plain mine theirs all n m → IsJoinStep cmp joined (plain_entries plain all) (plain_entries plain (take (length mine - n) (drop n mine))) (plain_entries plain (take (length theirs - m) (drop m theirs))) (plain_entries plain later) of_mine of_theirs → JoinGoesOn cmp joined plain mine theirs later (n + of_mine) (m + of_theirs)
  join_goes_on all later n m of_mine of_theirs so_far taken =
      let of_slices : List (K × L) → List (K × L) → Type 0 = λ a b. IsJoinStep cmp joined (plain_entries plain all) (plain_entries plain a) (plain_entries plain b) (plain_entries plain later) of_mine of_theirs in
      let step : of_slices (drop n mine) (drop m theirs) = subst (λ b. of_slices (drop n mine) b) (take_rest theirs m) (subst (λ a. of_slices a (take (length theirs - m) (drop m theirs))) (take_rest mine n) taken) in
      record {
        mine_in_range = taken_in_range plain mine n of_mine so_far.mine_in_range step.mine_in_range;
        theirs_in_range = taken_in_range plain theirs m of_theirs so_far.theirs_in_range step.theirs_in_range;
        goes_on = (λ i. plain_entries plain later ++ joined_maps cmp joined (plain_dropped plain mine n of_mine i) (plain_dropped plain theirs m of_theirs i)) ∙ step.goes_on ∙ so_far.goes_on;
      }

  -- where nothing is left, the whole join is done
  pub join_done : (all : List (K × L)) (n m : ℕ) → JoinGoesOn cmp joined plain mine theirs all n m → length mine ≤ n → length theirs ≤ m → plain_entries plain all ≡ joined_maps cmp joined (plain_entries plain mine) (plain_entries plain theirs)
  join_done all n m so_far no_mine no_theirs =
      sym (append-nil (plain_entries plain all))
      ∙ (λ i. plain_entries plain all ++ joined_maps cmp joined (plain_entries plain (sym (drop_all n mine no_mine) i)) (plain_entries plain (sym (drop_all m theirs no_theirs) i)))
      ∙ so_far.goes_on

  -- an entry of the second map and what follows it, as plain values
  plain_from : (m : ℕ) (entry : K × L) → m < length theirs → entry ≡ get_or theirs m entry → plain_entries plain (drop m theirs) ≡ (entry.0, plain entry.1) ∷ plain_entries plain (drop (m + 1) theirs)
  plain_from m entry in_range is = ap (plain_entries plain) (drop_more theirs m entry in_range ∙ ap (λ x. x ∷ drop (m + 1) theirs) (sym is))

  -- an entry is passed, with what it covers
  pub at_most_goes_on : (n m more : ℕ) (entry : K × L) → AtMostGoesOn cmp joined plain mine theirs n m → m < length theirs → entry ≡ get_or theirs m entry → IsTrue (is_sorted cmp (plain_entries plain mine)) → IsTrue (is_sorted cmp (plain_entries plain theirs)) → IsPassed cmp joined (plain_entries plain (take (length mine - n) (drop n mine))) (entry.0, plain entry.1) more → AtMostGoesOn cmp joined plain mine theirs (n + more) (m + 1)
  at_most_goes_on n m more entry so_far in_range is mine_rises theirs_rise taken =
      let whole = IsAtMost cmp joined (plain_entries plain mine) (plain_entries plain theirs) in
      let left = plain_entries plain (drop n mine) in
      let rest = plain_entries plain (drop (m + 1) theirs) in
      let first : K × P = (entry.0, plain entry.1) in
      let from : plain_entries plain (drop m theirs) ≡ first ∷ rest = plain_from m entry in_range is in
      let step : IsPassed cmp joined left first more = subst (λ a. IsPassed cmp joined (plain_entries plain a) first more) (take_rest mine n) taken in
      let before : whole ↔ IsAtMost cmp joined left (first ∷ rest) = subst (λ b. whole ↔ IsAtMost cmp joined left b) from so_far.goes_on in
      let now = step.goes_on rest (ascending_drop cmp plain mine n mine_rises) (subst (λ b. IsTrue (is_sorted cmp b)) from (ascending_drop cmp plain theirs m theirs_rise)) in
      let after : whole ↔ IsAtMost cmp joined (drop more left) rest = (λ h. now.0 (before.0 h), λ h. before.1 (now.1 h)) in
      record {
        in_range = taken_in_range plain mine n more so_far.in_range step.in_range;
        goes_on = subst (λ a. whole ↔ IsAtMost cmp joined a rest) (sym (plain_dropped plain mine n more)) after;
      }

  -- an entry that what is left can not be at most decides the whole question
  pub never_at_most : (n m : ℕ) (entry : K × L) → AtMostGoesOn cmp joined plain mine theirs n m → m < length theirs → entry ≡ get_or theirs m entry → IsTrue (is_sorted cmp (plain_entries plain theirs)) → NeverAtMost cmp joined (plain_entries plain (take (length mine - n) (drop n mine))) (entry.0, plain entry.1) → ¬ (IsAtMost cmp joined (plain_entries plain mine) (plain_entries plain theirs))
  never_at_most n m entry so_far in_range is theirs_rise never at_most =
      let rest = plain_entries plain (drop (m + 1) theirs) in
      let first : K × P = (entry.0, plain entry.1) in
      let from : plain_entries plain (drop m theirs) ≡ first ∷ rest = plain_from m entry in_range is in
      let here : IsAtMost cmp joined (plain_entries plain (drop n mine)) (first ∷ rest) = subst (λ b. IsAtMost cmp joined (plain_entries plain (drop n mine)) b) from (so_far.goes_on.0 at_most) in
      never rest (subst (λ b. IsTrue (is_sorted cmp b)) from (ascending_drop cmp plain theirs m theirs_rise))
      (subst (λ a. IsAtMost cmp joined (plain_entries plain a) (first ∷ rest)) (sym (take_rest mine n)) here)

  -- where nothing is left of the second map, nothing must be left of the first
  pub at_most_done : (n m : ℕ) → AtMostGoesOn cmp joined plain mine theirs n m → length theirs ≤ m → IsTrue (eqb n (length mine)) ↔ IsAtMost cmp joined (plain_entries plain mine) (plain_entries plain theirs)
  at_most_done n m so_far no_theirs =
      let left = plain_entries plain (drop n mine) in
      let whole = IsAtMost cmp joined (plain_entries plain mine) (plain_entries plain theirs) in
      let at_end : whole ↔ (left ≡ []) = subst (λ b. whole ↔ IsAtMost cmp joined left (plain_entries plain b)) (drop_all m theirs no_theirs) so_far.goes_on in (
        λ all_found.
            let end : ◌≡◌ {A = ℕ} n (length mine) = eqb-true n (length mine) all_found in
            at_end.1 (ap (plain_entries plain) (drop_all n mine (omega arith))),
        λ at_most.
            let none : ◌≡◌ {A = ℕ} (length left) 0 = ap length (at_end.0 at_most) in
            let same : ◌≡◌ {A = ℕ} (length left) (length (drop n mine)) = length-map (drop n mine) (λ entry. (entry.0, plain entry.1)) in
            let lasting : ◌≡◌ {A = ℕ} (length (drop n mine)) (length mine - n) = length-drop n mine in
            let in_range : n ≤ length mine = so_far.in_range in
            eq-eqb n (length mine) (omega arith),
      )
