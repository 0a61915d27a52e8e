-- A reply is sound exactly where it shows the clock, top and value of the cell of the puts that its clock counts.
use Rattle.std.specs.Prelude.{◌≡◌, ◌↔◌, ℕ, zero, suc, ◌-◌, ◌≤◌, ◌==◌, true, false, List, [], ◌∷◌, length, map, filter, slice_index_or, Option, Some, None, IfSome, Contains, All}
use Rattle.std.proofs.Common.{refl, sym, ap, subst, ◌∙◌, arith, inl, inr}
use Rattle.std.specs.List.{list_all}
use Rattle.std.proofs.lemmas.Bool.{eqb-true, le-leb, leb-true, true≢false}
use Rattle.std.proofs.lemmas.List.Sums.{AllPass-from_list_all, list_all-from_AllPass}
use Rattle.std.proofs.lemmas.List.Elements.{Contains-get_or, All-contains, All-filter}
use Rattle.clock_lattice.specs.Clock.{IsClock, count_of}
use Rattle.clock_lattice.proofs.ClockLemmas.{same_counts}
use Rattle.clock_lattice.specs.Needs.{IsNeeds}
use Rattle.lattice_laws.specs.Greatest.{IsGreatestOrZero}
use Rattle.lattice_laws.proofs.GreatestOfListsLemmas.{greatest_or_zero_is_single}
use Rattle.lattice_laws.proofs.MembersLemmas.{contains_filter, contains_filtered, contains_map, contains_mapped}
use Rattle.composed_value.specs.Cell.{PlainCell, IsCell, cell_of}
use Rattle.composed_value.specs.PlainValue.{IsPutOf, IsValueOf, IsCellOf, puts_of_session}
use Rattle.composed_value.proofs.CellOfLemmas.{cell_of_is_single, cell_of_is_cell}
use Rattle.composed_value.proofs.PlainValueLemmas.{value_is_single}
use Rattle.composed_value.specs.Sound.{is_counted, IsSound, AreSoundNeeds, counted}
use Rattle.composed_value.specs.declared.kind.Kind.{Kind}
use Rattle.composed_value.specs.declared.put.Put.{Put}
use Rattle.composed_value.specs.declared.value.Value.{Value}
use Rattle.session_known.specs.Lawful.{IsSoundReply, AreSoundWhereShown}
use Rattle.session_known.specs.Legal.{IsLawfulFinal}
use Rattle.composed_value.specs.Keyed.{puts_on, kind_at}
use Rattle.session_known.specs.Accepted.{made_on, AreNext}
use Rattle.session_known.proofs.NumberedLemmas.{number_at, numbered_from_next}
use Rattle.session_known.specs.declared.report.FinalCell.{FinalCell}
use Rattle.session_known.specs.declared.report.Shown.{Shown}
use Rattle.anna_check.specs.Counted.{AreNeedsShown, IsCellShown, IsCellFinal}

-- of puts numbered 1, 2 and so on, the one of a number
put_of_number : (made : List Put) → AreNext 0 made → (n : ℕ) → 1 ≤ n → n ≤ length made → (put : Put) × Contains made put × (put.number ≡ n)
put_of_number [] are n some within = absurd (omega (arith, some, within))
put_of_number (first ∷ others) are n some within =
    let made : List Put = first ∷ others in
    let number = number_at 0 made are (n - 1) first (omega (arith, some, within)) in
    (slice_index_or made (n - 1) first, Contains-get_or made (n - 1) first (omega (arith, some, within)), omega (arith, number, some))

-- and each has a number from 1 to how many there are
pub number_within : (made : List Put) → AreNext 0 made → (put : Put) → Contains made put → (1 ≤ put.number) × (put.number ≤ length made)
number_within made are put has_it = All-contains (λ (put : Put). (1 ≤ put.number) × (put.number ≤ length made)) made put (numbered_from_next made are).within has_it

module _ (puts : List Put) (numbered : (session : ℕ) → AreNext 0 (puts_of_session session puts)) (clock : List (ℕ × ℕ)) where
  -- a put of the session whose number is counted
  is_counted_of : (session : ℕ) (put : Put) → Contains (puts_of_session session puts) put → put.number ≤ count_of session clock → Contains (puts_of_session session (counted puts clock)) put
  is_counted_of session put has_it within =
      let both = contains_filtered (λ (put : Put). session == put.session) puts put has_it in
      let counts = le-leb put.number (count_of put.session clock) (subst (λ session. put.number ≤ count_of session clock) (eqb-true session put.session both.1) within) in
      contains_filter (λ (put : Put). session == put.session) (counted puts clock) put (contains_filter (is_counted clock) puts put both.0 counts) both.1

  -- and the other way round
  of_counted : (session : ℕ) (put : Put) → Contains (puts_of_session session (counted puts clock)) put → Contains (puts_of_session session puts) put × (put.number ≤ count_of session clock)
  of_counted session put has_it =
      let both = contains_filtered (λ (put : Put). session == put.session) (counted puts clock) put has_it in
      let counts = contains_filtered (is_counted clock) puts put both.0 in (
        contains_filter (λ (put : Put). session == put.session) puts put counts.0 both.1,
        subst (λ session. put.number ≤ count_of session clock) (sym (eqb-true session put.session both.1)) (leb-true put.number (count_of put.session clock) counts.1),
      )

  -- the numbers of the puts of a session that the clock counts
  abbrev counted_numbers : ℕ → List ℕ
  counted_numbers session = map (λ put. put.number) (puts_of_session session (counted puts clock))

  -- none of them is above the count
  none_above : (session m : ℕ) → Contains (counted_numbers session) m → m ≤ count_of session clock
  none_above session m has_it =
      let found = contains_mapped (λ (put : Put). put.number) (puts_of_session session (counted puts clock)) m has_it in
      let counts = (of_counted session found.0 found.1).1 in
      omega (arith, counts, found.2)

  -- the count is one of them, where it is some and no more puts are counted than there are
  count_there : (session n : ℕ) → n ≡ count_of session clock → 1 ≤ n → n ≤ length (puts_of_session session puts) → Contains (counted_numbers session) n
  count_there session n is some within =
      let put = put_of_number (puts_of_session session puts) (numbered session) n some within in
      let counts : put.0.number ≤ count_of session clock = omega (arith, put.2, is) in
      subst (Contains (counted_numbers session)) put.2 (contains_map (λ (put : Put). put.number) (puts_of_session session (counted puts clock)) put.0 (is_counted_of session put.0 put.1 counts))

  -- so it is the greatest
  count_greatest : (session n : ℕ) → n ≡ count_of session clock → n ≤ length (puts_of_session session puts) → IsGreatestOrZero (counted_numbers session) n
  count_greatest session zero is within = (λ m has_it. let above = none_above session m has_it in omega (arith, above, is), inr refl)
  count_greatest session (suc n) is within = (λ m has_it. let above = none_above session m has_it in omega (arith, above, is), inl (count_there session (suc n) is (omega arith) within))

  -- and where a count is the greatest, no more puts are counted than there are
  greatest_within : (session n : ℕ) → IsGreatestOrZero (counted_numbers session) n → n ≤ length (puts_of_session session puts)
  greatest_within session n greatest = elim greatest.1 [
    | inl has_it ↦
        let found = contains_mapped (λ (put : Put). put.number) (puts_of_session session (counted puts clock)) n has_it in
        let within = number_within (puts_of_session session puts) (numbered session) found.0 (of_counted session found.0 found.1).0 in
        omega (arith, within.1, found.2)
    | inr none ↦ omega (arith, none)
  ]

  -- What is sound shows the clock, top and value of the cell of the puts that are counted.
  pub shows_cell : (kind : Kind) (top : ℕ) (value : Value) (cell : PlainCell) → IsClock clock → IsCell cell → IsCellOf kind (counted puts clock) cell → IsSound kind puts clock top value → (cell.clock ≡ clock) × (cell.top ≡ top) × (cell.value ≡ value)
  shows_cell kind top value cell is_clock is_cell holds sound = (
    same_counts cell.clock clock is_cell.clock_is is_clock (λ session. greatest_or_zero_is_single _ _ _ (holds.clock session) (count_greatest session (count_of session clock) refl (sound.counts session))),
    greatest_or_zero_is_single _ _ _ holds.top sound.top_is,
    value_is_single kind (counted puts clock) cell.value value holds.value sound.value_is,
  )

  -- What shows these is sound.
  pub cell_sound : (kind : Kind) (top : ℕ) (value : Value) (cell : PlainCell) → IsCellOf kind (counted puts clock) cell → cell.clock ≡ clock → cell.top ≡ top → cell.value ≡ value → IsSound kind puts clock top value
  cell_sound kind top value cell holds same_clock same_top same_value = record {
    counts = λ session. greatest_within session (count_of session clock) (subst (λ shown. IsGreatestOrZero (counted_numbers session) (count_of session shown)) same_clock (holds.clock session));
    value_is = subst (IsValueOf kind (counted puts clock)) same_value holds.value;
    top_is = subst (IsGreatestOrZero (map (λ (put : Put). put.lamport) (counted puts clock))) same_top holds.top;
  }

  -- Sound needs are those of the cell of the puts that are counted.
  pub needs_shown : (kind : Kind) (cell : PlainCell) (needs : List (ℕ × List (ℕ × ℕ))) → IsCell cell → IsNeeds needs → IsCellOf kind (counted puts clock) cell → AreSoundNeeds puts clock needs → cell.needs ≡ needs
  needs_shown kind cell needs is_cell are holds sound =
      let other : PlainCell = record { clock = cell.clock; needs = needs; top = cell.top; value = cell.value } in
      ap (λ (cell : PlainCell). cell.needs) (cell_of_is_single kind (counted puts clock) cell other is_cell
      (record { clock_is = is_cell.clock_is; needs_are = are; top_fits = is_cell.top_fits; value_is = is_cell.value_is }) holds
      (record { clock = holds.clock; top = holds.top; value = holds.value; needs = sound }))

  -- and so the other way round
  pub needs_sound : (kind : Kind) (cell : PlainCell) (needs : List (ℕ × List (ℕ × ℕ))) → IsCellOf kind (counted puts clock) cell → cell.needs ≡ needs → AreSoundNeeds puts clock needs
  needs_sound kind cell needs holds same = subst (AreSoundNeeds puts clock) same holds.needs

-- the needs of a reply, where any are shown
needs_both : (kind : Kind) (puts : List Put) (clock : List (ℕ × ℕ)) (cell : PlainCell) (needs : Option (List (ℕ × List (ℕ × ℕ)))) → ((session : ℕ) → AreNext 0 (puts_of_session session puts)) → IfSome needs IsNeeds → IsCell cell → IsCellOf kind (counted puts clock) cell → AreNeedsShown cell.needs needs ↔ AreSoundWhereShown puts clock needs
needs_both kind puts clock cell None numbered are is_cell holds = (λ shown. tt, λ sound. tt)
needs_both kind puts clock cell (Some needs) numbered are is_cell holds =
    (needs_sound puts numbered clock kind cell needs holds, needs_shown puts numbered clock kind cell needs is_cell are holds)

-- Whether a reply is sound is whether it shows the cell of the puts that its clock counts.
pub reply_sound : (kinds : List Kind) (accepted : List (ℕ × Put)) (key : ℕ) (shown : Shown) (cell : PlainCell) → ((session : ℕ) → AreNext 0 (made_on session key accepted)) → IsClock shown.clock → IfSome shown.needs IsNeeds → IsCell cell → IsCellOf (kind_at kinds key) (counted (puts_on key accepted) shown.clock) cell → IsCellShown cell shown ↔ IsSoundReply kinds accepted key shown
reply_sound kinds accepted key shown cell numbered is_clock are is_cell holds =
    let kind = kind_at kinds key in
    let needs = needs_both kind (puts_on key accepted) shown.clock cell shown.needs numbered are is_cell holds in (
      (λ is. record { sound = cell_sound (puts_on key accepted) numbered shown.clock kind shown.top shown.value cell holds is.clock_is is.top_is is.value_is; needs = needs.0 is.needs_are }),
      (λ sound.
          let shows = shows_cell (puts_on key accepted) numbered shown.clock kind shown.top shown.value cell is_clock is_cell holds sound.sound in
          record { clock_is = shows.0; top_is = shows.1; value_is = shows.2; needs_are = needs.1 sound.needs }),
    )

-- So it is where the cell is computed from the puts on the key.
pub reply_counted : (kinds : List Kind) (accepted : List (ℕ × Put)) (key : ℕ) (shown : Shown) (kind : Kind) (puts : List Put) (cell : PlainCell) → kind ≡ kind_at kinds key → puts ≡ puts_on key accepted → ((session : ℕ) → AreNext 0 (made_on session key accepted)) → All (IsPutOf kind) puts → IsClock shown.clock → IfSome shown.needs IsNeeds → cell ≡ cell_of kind (counted puts shown.clock) → IsCellShown cell shown ↔ IsSoundReply kinds accepted key shown
reply_counted kinds accepted key shown kind puts cell kind_is puts_are numbered all is_clock are is =
    let on_key : All (IsPutOf (kind_at kinds key)) (puts_on key accepted) = subst (λ (at : Kind × List Put). All (IsPutOf at.0) at.1) (λ i. (kind_is i, puts_are i)) all in
    let same : cell ≡ cell_of (kind_at kinds key) (counted (puts_on key accepted) shown.clock) = is ∙ (λ i. cell_of (kind_is i) (filter (is_counted shown.clock) (puts_are i))) in
    let holds = cell_of_is_cell (kind_at kinds key) (counted (puts_on key accepted) shown.clock) (All-filter (is_counted shown.clock) (IsPutOf (kind_at kinds key)) (puts_on key accepted) on_key) in
    reply_sound kinds accepted key shown cell numbered is_clock are (subst IsCell (sym same) holds.0) (subst (IsCellOf (kind_at kinds key) (counted (puts_on key accepted) shown.clock)) (sym same) holds.1)

-- ---- final cells

-- the puts that are counted are all
all_counted : (clock : List (ℕ × ℕ)) (puts : List Put) → list_all (is_counted clock) puts ≡ true → All (λ (put : Put). put.number ≤ count_of put.session clock) puts
all_counted clock puts all k d within = leb-true _ _ (AllPass-from_list_all (is_counted clock) puts all k d within)

-- and where they are, each passes the test
counted_all : (clock : List (ℕ × ℕ)) (puts : List Put) → All (λ (put : Put). put.number ≤ count_of put.session clock) puts → list_all (is_counted clock) puts ≡ true
counted_all clock puts all = list_all-from_AllPass (is_counted clock) puts (λ k d within. le-leb _ _ (all k d within))

-- A final cell that counts all puts is lawful where it is the cell of the puts that it counts.
pub final_counted : (kinds : List Kind) (accepted : List (ℕ × Put)) (last : FinalCell) (kind : Kind) (puts : List Put) (cell : PlainCell) → kind ≡ kind_at kinds last.key → puts ≡ puts_on last.key accepted → ((session : ℕ) → AreNext 0 (made_on session last.key accepted)) → All (IsPutOf kind) puts → IsClock last.clock → list_all (is_counted last.clock) puts ≡ true → cell ≡ cell_of kind (counted puts last.clock) → IsCellFinal cell last ↔ IsLawfulFinal kinds accepted last
final_counted kinds accepted last kind puts cell kind_is puts_are numbered all is_clock counts is =
    let of_kind = kind_at kinds last.key in
    let on_key : All (IsPutOf of_kind) (puts_on last.key accepted) = subst (λ (at : Kind × List Put). All (IsPutOf at.0) at.1) (λ i. (kind_is i, puts_are i)) all in
    let same : cell ≡ cell_of of_kind (counted (puts_on last.key accepted) last.clock) = is ∙ (λ i. cell_of (kind_is i) (filter (is_counted last.clock) (puts_are i))) in
    let computed = cell_of_is_cell of_kind (counted (puts_on last.key accepted) last.clock) (All-filter (is_counted last.clock) (IsPutOf of_kind) (puts_on last.key accepted) on_key) in
    let is_cell = subst IsCell (sym same) computed.0 in
    let holds = subst (IsCellOf of_kind (counted (puts_on last.key accepted) last.clock)) (sym same) computed.1 in (
      (λ final. record {
        sound = cell_sound (puts_on last.key accepted) numbered last.clock of_kind last.top last.value cell holds final.clock_is final.top_is final.value_is;
        counts_all = subst (All (λ (put : Put). put.number ≤ count_of put.session last.clock)) puts_are (all_counted last.clock puts counts);
      }),
      (λ lawful.
          let shows = shows_cell (puts_on last.key accepted) numbered last.clock of_kind last.top last.value cell is_clock is_cell holds lawful.sound in
          record { clock_is = shows.0; top_is = shows.1; value_is = shows.2 }),
    )

-- One that does not count all puts is not.
pub final_short : (kinds : List Kind) (accepted : List (ℕ × Put)) (last : FinalCell) (puts : List Put) → puts ≡ puts_on last.key accepted → list_all (is_counted last.clock) puts ≡ false → IsLawfulFinal kinds accepted last → ⊥
final_short kinds accepted last puts puts_are short lawful =
    true≢false (sym (counted_all last.clock puts (subst (All (λ (put : Put). put.number ≤ count_of put.session last.clock)) (sym puts_are) lawful.counts_all)) ∙ short)
