-- The cell of a list of puts is the join of their one-put cells: each part is what the list says, and the members alone decide it.
use Rattle.std.specs.Prelude.{◌≡◌, ℕ, ◌<◌, ◌==◌, max, Bool, true, false, cond, List, [], ◌∷◌, ◌++◌, map, unwrap_or, Some, None, All, Contains}
use Rattle.std.proofs.Common.{sym, ap, subst, ◌∙◌, append_assoc, append-nil, lit<}
use Rattle.std.proofs.lemmas.List.{map-append}
use Rattle.std.proofs.lemmas.List.Elements.{All-head, All-tail, All-weaker, All-contains, All-contains_itself, All-append, filter-append}
use Rattle.std.specs.Cmp.{unsigned_tied}
use Rattle.lattice_laws.specs.Greatest.{IsGreatestOrZero}
use Rattle.lattice_laws.proofs.GreatestOfListsLemmas.{greatest_or_zero_of_none, greatest_or_zero_of_one, greatest_or_zero_of_both, greatest_or_zero_by_members, greatest_or_zero_is_single}
use Rattle.lattice_laws.specs.Joins.{joined_all, SameMembers}
use Rattle.lattice_laws.proofs.MembersLemmas.{same_map, same_filter}
use Rattle.clock_lattice.specs.Clock.{count_of, one_count}
use Rattle.clock_lattice.specs.ClockLaws.{count-joined}
use Rattle.clock_lattice.proofs.ClockLemmas.{same_counts, empty_is_clock, one_count_is_clock, one_count_entry}
use Rattle.clock_lattice.specs.Needs.{clock_at}
use Rattle.clock_lattice.proofs.NeedsLemmas.{clock-joined, same_clocks, clock_at_is_clock, empty_are_needs}
use Rattle.composed_value.specs.Cell.{PlainCell, IsCell, joined_cells, empty_cell, one_put_cell, cell_of}
use Rattle.composed_value.specs.CellLaws.{cell_laws, same_parts}
use Rattle.composed_value.specs.PlainValue.{IsPutOf, IsCellOf, puts_of_session}
use Rattle.composed_value.proofs.PlainValueLemmas.{value_has_kind, value_of_none, value_of_one, value_of_both, value_by_members, value_is_single}
use Rattle.composed_value.specs.Put.{value_of_put}
use Rattle.composed_value.proofs.ValidValueLemmas.{empty_is_value, value_of_put_is_value}
use Rattle.composed_value.specs.declared.kind.Kind.{Kind}
use Rattle.composed_value.specs.declared.put.Put.{Put}

-- the numbers of a session's puts in two lists
numbers-append : (session : ℕ) (xs ys : List Put) → map (λ put. put.number) (puts_of_session session (xs ++ ys)) ≡ map (λ put. put.number) (puts_of_session session xs) ++ map (λ put. put.number) (puts_of_session session ys)
numbers-append session xs ys =
    ap (map (λ put. put.number)) (filter-append (λ put. session == put.session) xs ys)
    ∙ map-append (λ put. put.number) (puts_of_session session xs) (puts_of_session session ys)

-- the count of a session in the clock of one put is the number of the put, if it is the session's
count_of_one : (session : ℕ) (put : Put) → 0 < put.number → IsGreatestOrZero (map (λ put. put.number) (puts_of_session session (put ∷ []))) (count_of session (one_count put.session put.number))
count_of_one session put some =
    subst (λ clock. IsGreatestOrZero (map (λ put. put.number) (puts_of_session session (put ∷ []))) (count_of session clock)) (sym (one_count_entry put.session put.number some))
    (subst (λ ties. IsGreatestOrZero (map (λ put. put.number) (cond (session == put.session) (put ∷ []) [])) (unwrap_or (cond ties (Some put.number) None) 0)) (sym (unsigned_tied session put.session))
    (by_test (session == put.session)))
  where
    by_test : (t : Bool) → IsGreatestOrZero (map (λ put. put.number) (cond t (put ∷ []) [])) (unwrap_or (cond t (Some put.number) None) 0)
    by_test true = greatest_or_zero_of_one put.number
    by_test false = greatest_or_zero_of_none

-- the cell of no puts
pub cell_of_none : (kind : Kind) → IsCellOf kind [] (empty_cell kind)
cell_of_none kind = record {
  clock = λ session. greatest_or_zero_of_none;
  top = greatest_or_zero_of_none;
  value = value_of_none kind;
  needs = λ key session. greatest_or_zero_of_none;
}

-- the cell of one put
pub cell_of_one : (kind : Kind) (put : Put) → IsPutOf kind put → IsCellOf kind (put ∷ []) (one_put_cell put)
cell_of_one kind put is = record {
  clock = λ session. count_of_one session put is.is_put.number_some;
  top = greatest_or_zero_of_one put.lamport;
  value = value_of_one kind put is;
  needs = λ key session. greatest_or_zero_of_one (count_of session (clock_at key put.needs));
}

-- the cell of two lists of puts is the join of their cells
pub cell_of_both : (kind : Kind) (xs ys : List Put) (a b : PlainCell) → IsCell a → IsCell b → IsCellOf kind xs a → IsCellOf kind ys b → IsCellOf kind (xs ++ ys) (joined_cells a b)
cell_of_both kind xs ys a b is_a is_b of_a of_b = record {
  clock = λ session.
      subst (λ all. IsGreatestOrZero all (count_of session (joined_cells a b).clock)) (sym (numbers-append session xs ys))
      (subst (IsGreatestOrZero (map (λ put. put.number) (puts_of_session session xs) ++ map (λ put. put.number) (puts_of_session session ys))) (sym (count-joined session a.clock b.clock is_a.clock_is is_b.clock_is)) (greatest_or_zero_of_both _ _ _ _ (of_a.clock session) (of_b.clock session)));
  top = subst (λ all. IsGreatestOrZero all (max a.top b.top)) (sym (map-append (λ put. put.lamport) xs ys)) (greatest_or_zero_of_both _ _ _ _ of_a.top of_b.top);
  value = value_of_both kind xs ys a.value b.value of_a.value of_b.value;
  needs = λ key session.
      subst (λ all. IsGreatestOrZero all (count_of session (clock_at key (joined_cells a b).needs))) (sym (map-append (λ put. count_of session (clock_at key put.needs)) xs ys))
      (subst (IsGreatestOrZero _)
      (sym (ap (count_of session) (clock-joined key a.needs b.needs is_a.needs_are is_b.needs_are) ∙ count-joined session _ _ (clock_at_is_clock key a.needs is_a.needs_are) (clock_at_is_clock key b.needs is_b.needs_are)))
      (greatest_or_zero_of_both _ _ _ _ (of_a.needs key session) (of_b.needs key session)));
}

-- lists with the same members have the same cell
pub cell_of_members : (kind : Kind) (xs ys : List Put) (cell : PlainCell) → SameMembers xs ys → IsCellOf kind xs cell → IsCellOf kind ys cell
cell_of_members kind xs ys cell same of_xs = record {
  clock = λ session. greatest_or_zero_by_members _ _ _ (same_map (λ put. put.number) _ _ (same_filter (λ put. session == put.session) xs ys same)) (of_xs.clock session);
  top = greatest_or_zero_by_members _ _ _ (same_map (λ put. put.lamport) xs ys same) of_xs.top;
  value = value_by_members kind xs ys cell.value same of_xs.value;
  needs = λ key session. greatest_or_zero_by_members _ _ _ (same_map (λ put. count_of session (clock_at key put.needs)) xs ys same) (of_xs.needs key session);
}

-- and a list has one cell
pub cell_of_is_single : (kind : Kind) (puts : List Put) (a b : PlainCell) → IsCell a → IsCell b → IsCellOf kind puts a → IsCellOf kind puts b → a ≡ b
cell_of_is_single kind puts a b is_a is_b of_a of_b = same_parts a b
    (same_counts a.clock b.clock is_a.clock_is is_b.clock_is (λ session. greatest_or_zero_is_single _ _ _ (of_a.clock session) (of_b.clock session)))
    (same_clocks a.needs b.needs is_a.needs_are is_b.needs_are (λ key.
    same_counts (clock_at key a.needs) (clock_at key b.needs) (clock_at_is_clock key a.needs is_a.needs_are) (clock_at_is_clock key b.needs is_b.needs_are) (λ session.
    greatest_or_zero_is_single _ _ _ (of_a.needs key session) (of_b.needs key session))))
    (greatest_or_zero_is_single _ _ _ of_a.top of_b.top)
    (value_is_single kind puts a.value b.value of_a.value of_b.value)

-- the empty cell, and the cell of one put, are cells
pub empty_is_cell : (kind : Kind) → IsCell (empty_cell kind)
empty_is_cell kind = record { clock_is = empty_is_clock; needs_are = empty_are_needs; top_fits = lit< tt; value_is = empty_is_value kind }

pub one_put_is_cell : (kind : Kind) (put : Put) → IsPutOf kind put → IsCell (one_put_cell put)
one_put_is_cell kind put is = record {
  clock_is = one_count_is_clock put.session put.number is.is_put.session_fits is.is_put.number_fits;
  needs_are = is.is_put.needs_are;
  top_fits = is.is_put.lamport_fits;
  value_is = value_of_put_is_value put is.is_put;
}

-- A cell of puts, joined with the one-put cells of further puts, is the cell of all of them.
joined_from : (kind : Kind) (done rest : List Put) (cell : PlainCell) → IsCell cell → IsCellOf kind done cell → All (IsPutOf kind) rest → IsCell (joined_all joined_cells cell (map one_put_cell rest)) × IsCellOf kind (done ++ rest) (joined_all joined_cells cell (map one_put_cell rest))
joined_from kind done [] cell is of_done all = (is, subst (λ puts. IsCellOf kind puts cell) (sym (append-nil done)) of_done)
joined_from kind done (put ∷ rest) cell is of_done all =
    let of_kind = All-head (IsPutOf kind) put rest all in
    let one = one_put_is_cell kind put of_kind in
    let of_one = cell_of_one kind put of_kind in
    let fits = value_has_kind kind done cell.value of_done.value ∙ sym (value_has_kind kind (put ∷ []) (value_of_put put) of_one.value) in
    let later = joined_from kind (done ++ put ∷ []) rest (joined_cells cell (one_put_cell put)) (cell_laws.closed cell (one_put_cell put) is one fits).0 (cell_of_both kind done (put ∷ []) cell (one_put_cell put) is one of_done of_one) (All-tail (IsPutOf kind) put rest all) in
    (later.0, subst (λ puts. IsCellOf kind puts (joined_all joined_cells (joined_cells cell (one_put_cell put)) (map one_put_cell rest))) (append_assoc done (put ∷ []) rest) later.1)

-- the cell of a list of puts is a cell, and what the list says
pub cell_of_is_cell : (kind : Kind) (puts : List Put) → All (IsPutOf kind) puts → IsCell (cell_of kind puts) × IsCellOf kind puts (cell_of kind puts)
cell_of_is_cell kind puts all = joined_from kind [] puts (empty_cell kind) (empty_is_cell kind) (cell_of_none kind) all

-- so it depends on the members alone
pub cell_of_by_members : (kind : Kind) (xs ys : List Put) → All (IsPutOf kind) xs → SameMembers xs ys → cell_of kind xs ≡ cell_of kind ys
cell_of_by_members kind xs ys all same =
    let all_ys = All-weaker (Contains ys) (IsPutOf kind) (λ put has_it. All-contains (IsPutOf kind) xs put all ((same put).1 has_it)) ys (All-contains_itself ys) in
    let of_xs = cell_of_is_cell kind xs all in
    let of_ys = cell_of_is_cell kind ys all_ys in
    cell_of_is_single kind ys (cell_of kind xs) (cell_of kind ys) of_xs.0 of_ys.0 (cell_of_members kind xs ys (cell_of kind xs) same of_xs.1) of_ys.1

-- and the cell of two lists together is the join of their cells
pub cell_of-append : (kind : Kind) (xs ys : List Put) → All (IsPutOf kind) xs → All (IsPutOf kind) ys → cell_of kind (xs ++ ys) ≡ joined_cells (cell_of kind xs) (cell_of kind ys)
cell_of-append kind xs ys all_xs all_ys =
    let of_xs = cell_of_is_cell kind xs all_xs in
    let of_ys = cell_of_is_cell kind ys all_ys in
    let of_all = cell_of_is_cell kind (xs ++ ys) (All-append (IsPutOf kind) xs ys all_xs all_ys) in
    let fits = value_has_kind kind xs _ of_xs.1.value ∙ sym (value_has_kind kind ys _ of_ys.1.value) in
    cell_of_is_single kind (xs ++ ys) (cell_of kind (xs ++ ys)) (joined_cells (cell_of kind xs) (cell_of kind ys)) of_all.0 (cell_laws.closed _ _ of_xs.0 of_ys.0 fits).0 of_all.1 (cell_of_both kind xs ys _ _ of_xs.0 of_ys.0 of_xs.1 of_ys.1)
