-- Sound cells stay sound: a join of two is sound, and so is one that takes the next put of a session.
use Rattle.std.specs.Prelude.{◌≡◌, ◌≢◌, ℕ, ◌+◌, ◌<◌, ◌≤◌, ◌==◌, max, cond, ◌⊎◌, List, [], ◌∷◌, ◌++◌, length, map, slice_index_or, unwrap_or, Some, None, Contains}
use Rattle.std.proofs.Common.{refl, sym, ap, subst, ◌∙◌, inl, inr, arith}
use Rattle.std.proofs.lemmas.Bool.{leb-true, le-leb, eq-eqb, cases_lt}
use Rattle.std.proofs.lemmas.Bool.Decides.{eqb_tells}
use Rattle.std.proofs.lemmas.List.{map-append, get_or_default}
use Rattle.std.proofs.lemmas.List.Elements.{All-contains, Contains-append_left, Contains-append_right, Contains-push}
use Rattle.std.specs.Cmp.{unsigned_tied}
use Rattle.lattice_laws.specs.Greatest.{IsGreatestOrZero}
use Rattle.lattice_laws.proofs.GreatestOfListsLemmas.{in_either, in_one, greatest_or_zero_of_both, greatest_or_zero_by_members}
use Rattle.lattice_laws.specs.Joins.{SameMembers}
use Rattle.lattice_laws.proofs.MembersLemmas.{contains_filter, contains_filtered, same_map}
use Rattle.clock_lattice.specs.Clock.{IsClock, count_of, joined_clocks, one_count}
use Rattle.clock_lattice.specs.ClockLaws.{count-joined}
use Rattle.clock_lattice.proofs.ClockLemmas.{one_count_entry}
use Rattle.clock_lattice.specs.Needs.{clock_at}
use Rattle.clock_lattice.proofs.NeedsLemmas.{clock-joined, clock_at_is_clock}
use Rattle.composed_value.specs.Cell.{PlainCell, IsCell, joined_cells, one_put_cell}
use Rattle.composed_value.proofs.CellOfLemmas.{cell_of_one, one_put_is_cell}
use Rattle.composed_value.specs.PlainValue.{IsPutOf, IsValueOf, puts_of_session}
use Rattle.composed_value.proofs.PlainValueLemmas.{value_of_both, value_by_members}
use Rattle.composed_value.specs.Sound.{is_counted, counted, IsSoundCell, AreNumbered, AreAccepted}
use Rattle.composed_value.specs.declared.kind.Kind.{Kind}
use Rattle.composed_value.specs.declared.put.Put.{Put}

-- a put on the key is counted where its number is at most the count of its session, and the other way round
in_counted : (puts : List Put) (clock : List (ℕ × ℕ)) (put : Put) → Contains puts put → put.number ≤ count_of put.session clock → Contains (counted puts clock) put
in_counted puts clock put has_it within =
    contains_filter (is_counted clock) puts put has_it (le-leb put.number (count_of put.session clock) within)

from_counted : (puts : List Put) (clock : List (ℕ × ℕ)) (put : Put) → Contains (counted puts clock) put → Contains puts put × (put.number ≤ count_of put.session clock)
from_counted puts clock put has_it =
    let both = contains_filtered (is_counted clock) puts put has_it in
    (both.0, leb-true put.number (count_of put.session clock) both.1)

-- what either of two clocks counts, their join counts, and nothing else
pub counted-joined : (puts : List Put) (a b : List (ℕ × ℕ)) → IsClock a → IsClock b → SameMembers (counted puts a ++ counted puts b) (counted puts (joined_clocks a b))
counted-joined puts a b is_a is_b put =
    let joined = count-joined put.session a b is_a is_b in (
      in_either (counted puts a) (counted puts b) (Contains (counted puts (joined_clocks a b)) put) put
          (λ in_a. let from = from_counted puts a put in_a in in_counted puts (joined_clocks a b) put from.0 (omega (arith, joined, from.1)))
          (λ in_b. let from = from_counted puts b put in_b in in_counted puts (joined_clocks a b) put from.0 (omega (arith, joined, from.1))),
      (λ has_it.
          let from = from_counted puts (joined_clocks a b) put has_it in
          elim (cases_lt (count_of put.session a) put.number) [
            | inl above_a ↦ Contains-append_right (counted puts a) (counted puts b) put (in_counted puts b put from.0 (omega (arith, joined, from.1, above_a)))
            | inr within_a ↦ Contains-append_left (counted puts a) (counted puts b) put (in_counted puts a put from.0 within_a)
          ]),
    )

-- value, top and needs of the cell are those of the puts
record IsHeld (kind : Kind) (puts : List Put) (cell : PlainCell) : Type 0 where
  value_is : IsValueOf kind puts cell.value
  top_is : IsGreatestOrZero (map (λ put. put.lamport) puts) cell.top
  needs_are : (needed session : ℕ) → IsGreatestOrZero (map (λ put. count_of session (clock_at needed put.needs)) puts) (count_of session (clock_at needed cell.needs))

-- a sound cell holds what its clock counts
held_by_sound : (kind : Kind) (puts : List Put) (cell : PlainCell) → IsSoundCell kind puts cell → IsHeld kind (counted puts cell.clock) cell
held_by_sound kind puts cell sound = record { value_is = sound.shown.value_is; top_is = sound.shown.top_is; needs_are = sound.needs }

-- the greatest of what each put of two lists has, 0 for none, is that of any list with the members of both
greatest_of_members : (of_put : Put → ℕ) (xs ys all : List Put) (a b : ℕ) → SameMembers (xs ++ ys) all → IsGreatestOrZero (map of_put xs) a → IsGreatestOrZero (map of_put ys) b → IsGreatestOrZero (map of_put all) (max a b)
greatest_of_members of_put xs ys all a b same of_xs of_ys =
    greatest_or_zero_by_members (map of_put (xs ++ ys)) (map of_put all) (max a b) (same_map of_put (xs ++ ys) all same)
    (subst (λ numbers. IsGreatestOrZero numbers (max a b)) (sym (map-append of_put xs ys)) (greatest_or_zero_of_both (map of_put xs) (map of_put ys) a b of_xs of_ys))

-- the join of two cells is sound where it counts what they hold, and no more than was accepted
sound_of_both : (kind : Kind) (puts : List Put) (xs ys : List Put) (a b : PlainCell) → IsCell a → IsCell b → IsHeld kind xs a → IsHeld kind ys b
    → SameMembers (xs ++ ys) (counted puts (joined_clocks a.clock b.clock))
    → ((session : ℕ) → count_of session (joined_clocks a.clock b.clock) ≤ length (puts_of_session session puts))
    → IsSoundCell kind puts (joined_cells a b)
sound_of_both kind puts xs ys a b is_a is_b by_a by_b same counts = record {
  shown = record {
    counts = counts;
    value_is = value_by_members kind (xs ++ ys) (counted puts (joined_clocks a.clock b.clock)) (joined_cells a b).value same (value_of_both kind xs ys a.value b.value by_a.value_is by_b.value_is);
    top_is = greatest_of_members (λ put. put.lamport) xs ys (counted puts (joined_clocks a.clock b.clock)) a.top b.top same by_a.top_is by_b.top_is;
  };
  needs = λ needed session.
      let of_put : Put → ℕ = λ put. count_of session (clock_at needed put.needs) in
      subst (IsGreatestOrZero (map of_put (counted puts (joined_clocks a.clock b.clock))))
      (sym (ap (count_of session) (clock-joined needed a.needs b.needs is_a.needs_are is_b.needs_are)
      ∙ count-joined session (clock_at needed a.needs) (clock_at needed b.needs) (clock_at_is_clock needed a.needs is_a.needs_are) (clock_at_is_clock needed b.needs is_b.needs_are)))
      (greatest_of_members of_put xs ys (counted puts (joined_clocks a.clock b.clock)) (count_of session (clock_at needed a.needs)) (count_of session (clock_at needed b.needs)) same (by_a.needs_are needed session) (by_b.needs_are needed session));
}

-- a join of two sound cells is sound
pub sound_join : (kind : Kind) (puts : List Put) (a b : PlainCell) → IsCell a → IsCell b → IsSoundCell kind puts a → IsSoundCell kind puts b → IsSoundCell kind puts (joined_cells a b)
sound_join kind puts a b is_a is_b sound_a sound_b =
    sound_of_both kind puts (counted puts a.clock) (counted puts b.clock) a b is_a is_b
    (held_by_sound kind puts a sound_a) (held_by_sound kind puts b sound_b)
    (counted-joined puts a.clock b.clock is_a.clock_is is_b.clock_is)
    (λ session. omega (arith, count-joined session a.clock b.clock is_a.clock_is is_b.clock_is, sound_a.shown.counts session, sound_b.shown.counts session))

-- the clock of n puts of a session counts n of it, and none of another
count_in_one : (session n of_session : ℕ) → 0 < n → count_of of_session (one_count session n) ≡ unwrap_or (cond (of_session == session) (Some n) None) 0
count_in_one session n of_session some =
    ap (count_of of_session) (one_count_entry session n some) ∙ ap (λ ties. unwrap_or (cond ties (Some n) None) 0) (unsigned_tied of_session session)

-- a clock that takes the next put of a session counts it there, and what it counted of others
count-next : (clock : List (ℕ × ℕ)) (put : Put) → IsClock clock → IsClock (one_put_cell put).clock → put.number ≡ count_of put.session clock + 1 → (session : ℕ)
    → ((session ≡ put.session) × (count_of session (joined_clocks clock (one_put_cell put).clock) ≡ put.number)) ⊎ ((session ≢ put.session) × (count_of session (joined_clocks clock (one_put_cell put).clock) ≡ count_of session clock))
count-next clock put is_clock is_one next session =
    let joined = count-joined session clock (one_put_cell put).clock is_clock is_one in
    let one = count_in_one put.session put.number session (omega (arith, next)) in
    elim (eqb_tells session put.session) [
      | inl same ↦
          let of_one : count_of session (one_put_cell put).clock ≡ put.number = one ∙ ap (λ ties. unwrap_or (cond ties (Some put.number) None) 0) same.0 in
          let of_clock : count_of session clock ≡ count_of put.session clock = ap (λ s. count_of s clock) same.1 in
          inl (same.1, omega (arith, joined, of_one, of_clock, next))
      | inr other ↦
          let of_one : count_of session (one_put_cell put).clock ≡ 0 = one ∙ ap (λ ties. unwrap_or (cond ties (Some put.number) None) 0) other.0 in
          inr (other.1, omega (arith, joined, of_one))
    ]

-- of numbered puts no two have the same number
none_before : (puts : List Put) (x y : Put) → AreNumbered puts → (in_x : Contains puts x) (in_y : Contains puts y) → x.number ≡ y.number → in_x.0 < in_y.0 → ⊥
none_before puts x y are in_x in_y same before =
    are.different in_x.0 in_y.0 x before in_y.1 (ap (λ put. put.number) in_x.2 ∙ same ∙ ap (λ put. put.number) (sym (get_or_default puts in_y.0 x y in_y.1 ∙ in_y.2)))

-- so the number tells the put
same_number : (puts : List Put) (x y : Put) → AreNumbered puts → Contains puts x → Contains puts y → x.number ≡ y.number → x ≡ y
same_number puts x y are in_x in_y same =
    elim (cases_lt in_x.0 in_y.0) [
      | inl before ↦ absurd (none_before puts x y are in_x in_y same before)
      | inr not_before ↦ elim (cases_lt in_y.0 in_x.0) [
        | inl later ↦ absurd (none_before puts y x are in_y in_x (sym same) later)
        | inr not_later ↦
            let places : in_x.0 ≡ in_y.0 = omega (arith, not_before, not_later) in
            sym in_x.2 ∙ ap (λ k. slice_index_or puts k x) places ∙ get_or_default puts in_y.0 x y in_y.1 ∙ in_y.2
      ]
    ]

-- and of accepted puts on a key, session and number tell the put
same_put : (kind : Kind) (puts : List Put) (x y : Put) → AreAccepted kind puts → Contains puts x → Contains puts y → x.session ≡ y.session → x.number ≡ y.number → x ≡ y
same_put kind puts x y are has_x has_y same_session same =
    let in_session = λ (put : Put) (has_it : Contains puts put) (is : x.session ≡ put.session). contains_filter (λ p. x.session == p.session) puts put has_it (eq-eqb x.session put.session is) in
    same_number (puts_of_session x.session puts) x y (are.numbered x.session) (in_session x has_x refl) (in_session y has_y same_session) same

-- what a clock and the next put of a session count
pub counted-next : (kind : Kind) (puts : List Put) (clock : List (ℕ × ℕ)) (put : Put) → AreAccepted kind puts → IsClock clock → Contains puts put → put.number ≡ count_of put.session clock + 1 → SameMembers (counted puts clock ++ put ∷ []) (counted puts (joined_clocks clock (one_put_cell put).clock))
counted-next kind puts clock put are is_clock has_it next x =
    let after : List (ℕ × ℕ) = joined_clocks clock (one_put_cell put).clock in
    let is_one = (one_put_is_cell kind put (All-contains (IsPutOf kind) puts put are.of_kind has_it)).clock_is in
    let counts = count-next clock put is_clock is_one next in (
      in_either (counted puts clock) (put ∷ []) (Contains (counted puts after) x) x
          (λ before.
          let from = from_counted puts clock x before in
          let joined = count-joined x.session clock (one_put_cell put).clock is_clock is_one in
          in_counted puts after x from.0 (omega (arith, joined, from.1)))
          (λ here.
          let of_session = elim (counts put.session) as (λ _. put.number ≤ count_of put.session after) [ inl same ↦ omega (arith, same.1) | inr other ↦ absurd (other.0 refl) ] in
          in_one (Contains (counted puts after)) put x (in_counted puts after put has_it of_session) here),
      (λ counted_after.
          let from = from_counted puts after x counted_after in
          let was_counted = λ (within : x.number ≤ count_of x.session clock). Contains-append_left (counted puts clock) (put ∷ []) x (in_counted puts clock x from.0 within) in
          elim (counts x.session) [
            | inl same ↦ elim (cases_lt x.number put.number) [
              | inl before ↦
                  let of_clock : count_of x.session clock ≡ count_of put.session clock = ap (λ s. count_of s clock) same.0 in
                  was_counted (omega (arith, before, next, of_clock))
              | inr not_before ↦
                  let it_is = same_put kind puts put x are has_it from.0 (sym same.0) (omega (arith, not_before, from.1, same.1)) in
                  subst (Contains (counted puts clock ++ put ∷ [])) it_is (Contains-push (counted puts clock) put)
            ]
            | inr other ↦ was_counted (omega (arith, from.1, other.1))
          ]),
    )

-- a sound cell that counts n puts of a session on the key is sound with the session's put n + 1
pub sound_next : (kind : Kind) (puts : List Put) (cell : PlainCell) (put : Put) → AreAccepted kind puts → IsCell cell → IsSoundCell kind puts cell → Contains puts put → put.number ≡ count_of put.session cell.clock + 1 → IsSoundCell kind puts (joined_cells cell (one_put_cell put))
sound_next kind puts cell put are is_cell sound has_it next =
    let is_put = All-contains (IsPutOf kind) puts put are.of_kind has_it in
    let one = cell_of_one kind put is_put in
    let is_one = one_put_is_cell kind put is_put in
    sound_of_both kind puts (counted puts cell.clock) (put ∷ []) cell (one_put_cell put) is_cell is_one
    (held_by_sound kind puts cell sound) (record { value_is = one.value; top_is = one.top; needs_are = one.needs })
    (counted-next kind puts cell.clock put are is_cell.clock_is has_it next)
    (λ session.
    let made : List Put = puts_of_session session puts in
    elim (count-next cell.clock put is_cell.clock_is is_one.clock_is next session) [
      | inl same ↦
          let in_puts = contains_filter (λ p. session == p.session) puts put has_it (eq-eqb session put.session same.0) in
          let within = All-contains (λ p. (1 ≤ p.number) × (p.number ≤ length made)) made put (are.numbered session).within in_puts in
          omega (arith, same.1, within.1)
      | inr other ↦ omega (arith, other.1, sound.shown.counts session)
    ])
