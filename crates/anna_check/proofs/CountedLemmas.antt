-- The cell of the puts that a clock counts: from that of the puts that a clock before counts, and by its own clock.
use Rattle.std.specs.Prelude.{◌≡◌, ℕ, ◌<◌, ◌==◌, Bool, true, cond, ◌||◌, IsTrue, List, [], ◌∷◌, ◌++◌, filter, All, Contains}
use Rattle.std.proofs.Common.{refl, sym, ap, subst, ◌∙◌, inl, inr, arith}
use Rattle.std.proofs.lemmas.Bool.{leb-true, le-leb, lt-leb, eq-eqb, eqb-true, or_cases, or_left, or_right}
use Rattle.std.proofs.lemmas.Bool.Decides.{nat_tests}
use Rattle.std.proofs.lemmas.List.Elements.{All-head, All-tail, All-append, All-contains, All-filter, All-weaker, Contains-append_left, Contains-append_right}
use Rattle.lattice_laws.proofs.GreatestOfListsLemmas.{in_either}
use Rattle.lattice_laws.specs.Joins.{SameMembers}
use Rattle.lattice_laws.proofs.MembersLemmas.{contains_filter, contains_filtered, contains_map, contains_mapped}
use Rattle.clock_lattice.specs.Clock.{count_of, covers}
use Rattle.clock_lattice.specs.ClockLaws.{counts_from_covers}
use Rattle.composed_value.specs.Cell.{PlainCell, joined_cells, empty_cell, cell_of}
use Rattle.composed_value.proofs.CellOfLemmas.{cell_of_is_cell, cell_of_by_members, cell_of-append}
use Rattle.composed_value.specs.Kind.{kind_of_value}
use Rattle.composed_value.specs.PlainValue.{IsPutOf, IsCellOf, puts_of_session}
use Rattle.composed_value.proofs.PlainValueLemmas.{value_has_kind}
use Rattle.composed_value.specs.declared.kind.Kind.{Kind}
use Rattle.composed_value.specs.declared.put.Put.{Put}
use Rattle.composed_value.specs.Sound.{is_counted, counted}
use Rattle.anna_check.specs.Counted.{is_newly_counted, IsOfItsPuts}

-- the cell of those puts of a kind that pass a test has a value of the kind
pub kind_of_passing : (kind : Kind) (test : Put → Bool) (puts : List Put) (cell : PlainCell) → All (IsPutOf kind) puts → cell ≡ cell_of kind (filter test puts) → kind_of_value cell.value ≡ kind
kind_of_passing kind test puts cell all is =
    ap (λ (cell : PlainCell). kind_of_value cell.value) is
    ∙ value_has_kind kind (filter test puts) (cell_of kind (filter test puts)).value (cell_of_is_cell kind (filter test puts) (All-filter test (IsPutOf kind) puts all)).1.value

-- ---- from the cell of those that an earlier clock counts

-- what either of two tests passes, the test of either passes, and nothing else
same_by_either : {X : Type 0} (one other either : X → Bool) → ((x : X) → either x ≡ (one x || other x)) → (xs : List X) → SameMembers (filter one xs ++ filter other xs) (filter either xs)
same_by_either one other either is xs x = (
  in_either (filter one xs) (filter other xs) (Contains (filter either xs) x) x
      (λ has_it. let both = contains_filtered one xs x has_it in contains_filter either xs x both.0 (is x ∙ or_left (one x) (other x) both.1))
      (λ has_it. let both = contains_filtered other xs x has_it in contains_filter either xs x both.0 (is x ∙ or_right (one x) (other x) both.1)),
  (λ has_it.
      let both = contains_filtered either xs x has_it in
      elim (or_cases (one x) (other x) (sym (is x) ∙ both.1)) [
        | inl passes ↦ Contains-append_left (filter one xs) (filter other xs) x (contains_filter one xs x both.0 passes)
        | inr passes ↦ Contains-append_right (filter one xs) (filter other xs) x (contains_filter other xs x both.0 passes)
      ]),
)

-- a clock counts what one that it covers does, and what it counts newly
counted_before_or_newly : (before clock : List (ℕ × ℕ)) → IsTrue (covers clock before) → (put : Put) → is_counted clock put ≡ (is_counted before put || is_newly_counted before clock put)
counted_before_or_newly before clock is put =
    let more = counts_from_covers clock before is put.session in
    grind (arith, nat_tests)

-- The cell of the puts that its clock counts, joined with that of the puts that a clock which covers it counts newly, is the cell of all that this clock counts.
pub counted_on : (kind : Kind) (puts : List Put) (clock before : List (ℕ × ℕ)) (cell added : PlainCell) → All (IsPutOf kind) puts → IsOfItsPuts kind puts cell → before ≡ cell.clock → covers clock cell.clock ≡ true
    → added ≡ cell_of kind (filter (is_newly_counted before clock) puts) → joined_cells cell added ≡ cell_of kind (counted puts clock)
counted_on kind puts clock before cell added all of_its_puts before_is is added_is =
    let old : List Put = counted puts cell.clock in
    let new : List Put = filter (is_newly_counted cell.clock clock) puts in
    let all_old = All-filter (is_counted cell.clock) (IsPutOf kind) puts all in
    let all_new = All-filter (is_newly_counted cell.clock clock) (IsPutOf kind) puts all in
    let added_new : added ≡ cell_of kind new = added_is ∙ ap (λ clock_before. cell_of kind (filter (is_newly_counted clock_before clock) puts)) before_is in
    (λ i. joined_cells (of_its_puts i) (added_new i))
    ∙ sym (cell_of-append kind old new all_old all_new)
    ∙ cell_of_by_members kind (old ++ new) (counted puts clock) (All-append (IsPutOf kind) old new all_old all_new)
    (same_by_either (is_counted cell.clock) (is_newly_counted cell.clock clock) (is_counted clock) (counted_before_or_newly cell.clock clock is) puts)

-- the empty clock counts no puts
none_counted : (puts : List Put) → All (λ put. 0 < put.number) puts → filter (is_counted []) puts ≡ []
none_counted [] all = refl
none_counted (put ∷ puts) all =
    ap (λ t. cond t (put ∷ filter (is_counted []) puts) (filter (is_counted []) puts)) (lt-leb put.number 0 (All-head (λ put. 0 < put.number) put puts all))
    ∙ none_counted puts (All-tail (λ put. 0 < put.number) put puts all)

-- The empty cell is that of the puts that its clock counts.
pub empty_of_its_puts : (kind : Kind) (puts : List Put) → All (λ put. 0 < put.number) puts → IsOfItsPuts kind puts (empty_cell kind)
empty_of_its_puts kind puts all = ap (cell_of kind) (sym (none_counted puts all))

-- The cell of the puts that are counted newly after the empty clock is the cell of all that the clock counts.
pub counted_from_none : (kind : Kind) (puts : List Put) (clock before : List (ℕ × ℕ)) (cell : PlainCell) → All (IsPutOf kind) puts → before ≡ [] → cell ≡ cell_of kind (filter (is_newly_counted before clock) puts) → cell ≡ cell_of kind (counted puts clock)
counted_from_none kind puts clock before cell all none is =
    let new : List Put = filter (is_newly_counted [] clock) puts in
    let none_before = none_counted puts (All-weaker (IsPutOf kind) (λ put. 0 < put.number) (λ put is. is.is_put.number_some) puts all) in
    is
    ∙ ap (λ clock_before. cell_of kind (filter (is_newly_counted clock_before clock) puts)) none
    ∙ cell_of_by_members kind new (counted puts clock) (All-filter (is_newly_counted [] clock) (IsPutOf kind) puts all)
    (subst (λ old. SameMembers (old ++ new) (counted puts clock)) none_before
    (same_by_either (is_counted []) (is_newly_counted [] clock) (is_counted clock) (counted_before_or_newly [] clock refl) puts))

-- ---- by its own clock

module _ (kind : Kind) (puts : List Put) (clock : List (ℕ × ℕ)) (cell : PlainCell) (all : All (IsPutOf kind) puts) (holds : IsCellOf kind (counted puts clock) cell) where
  -- a put that the clock counts is counted by the clock of the cell of such puts
  counted_in_cell : (put : Put) → Contains (counted puts clock) put → is_counted cell.clock put ≡ true
  counted_in_cell put has_it =
      let of_session = contains_filter (λ (other : Put). put.session == other.session) (counted puts clock) put has_it (eq-eqb put.session put.session refl) in
      le-leb put.number (count_of put.session cell.clock) ((holds.clock put.session).0 put.number (contains_map (λ (other : Put). other.number) (puts_of_session put.session (counted puts clock)) put of_session))

  -- and the other way round
  counted_by_clock : (put : Put) → Contains puts put → is_counted cell.clock put ≡ true → is_counted clock put ≡ true
  counted_by_clock put has_it counts =
      let within = leb-true put.number (count_of put.session cell.clock) counts in
      elim (holds.clock put.session).1 [
        | inl greatest ↦
            let found = contains_mapped (λ (other : Put). other.number) (puts_of_session put.session (counted puts clock)) (count_of put.session cell.clock) greatest in
            let of_session = contains_filtered (λ (other : Put). put.session == other.session) (counted puts clock) found.0 found.1 in
            let other_counts = leb-true found.0.number (count_of found.0.session clock) (contains_filtered (is_counted clock) puts found.0 of_session.0).1 in
            let same : count_of put.session clock ≡ count_of found.0.session clock = ap (λ session. count_of session clock) (eqb-true put.session found.0.session of_session.1) in
            le-leb put.number (count_of put.session clock) (omega (arith, within, found.2, other_counts, same))
        | inr none ↦ absurd (omega (arith, within, none, (All-contains (IsPutOf kind) puts put all has_it).is_put.number_some))
      ]

-- The cell of the puts that a clock counts is that of those that its own clock counts.
pub of_its_puts : (kind : Kind) (puts : List Put) (clock : List (ℕ × ℕ)) → All (IsPutOf kind) puts → IsOfItsPuts kind puts (cell_of kind (counted puts clock))
of_its_puts kind puts clock all =
    let by_clock : List Put = counted puts clock in
    let cell : PlainCell = cell_of kind by_clock in
    let all_counted = All-filter (is_counted clock) (IsPutOf kind) puts all in
    let holds = (cell_of_is_cell kind by_clock all_counted).1 in
    cell_of_by_members kind by_clock (counted puts cell.clock) all_counted (λ put. (
      (λ has_it. contains_filter (is_counted cell.clock) puts put (contains_filtered (is_counted clock) puts put has_it).0 (counted_in_cell kind puts clock cell all holds put has_it)),
      (λ has_it.
          let both = contains_filtered (is_counted cell.clock) puts put has_it in
          contains_filter (is_counted clock) puts put both.0 (counted_by_clock kind puts clock cell all holds put both.0 both.1)),
    ))
