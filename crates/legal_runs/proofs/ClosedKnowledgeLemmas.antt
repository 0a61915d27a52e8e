-- What a causal session knows is closed below its Lamport number: at the start, once it has made a put, and once a reply has shown a cell.
use Rattle.std.specs.Prelude.{◌≡◌, ℕ, ◌+◌, ◌<◌, ◌≤◌, ◌==◌, ◌^◌, max, List, [], Contains, length, slice_index_or}
use Rattle.std.proofs.Common.{◌∙◌, refl, sym, ap, subst, inl, inr, arith}
use Rattle.std.proofs.lemmas.Bool.{cases_lt, eq-eqb}
use Rattle.std.proofs.lemmas.List.{get_or_default}
use Rattle.lattice_laws.proofs.MembersLemmas.{contains_filter}
use Rattle.clock_lattice.specs.Clock.{count_of, joined_clocks, one_count}
use Rattle.clock_lattice.proofs.ClockLemmas.{one_count_is_clock}
use Rattle.clock_lattice.specs.Needs.{IsNeeds, clock_at, joined_needs, one_need}
use Rattle.clock_lattice.proofs.NeedsLemmas.{empty_are_needs, one_need_is_needs}
use Rattle.composed_value.specs.Cell.{PlainCell}
use Rattle.composed_value.specs.Keyed.{puts_on}
use Rattle.composed_value.specs.PlainValue.{puts_of_session}
use Rattle.composed_value.specs.declared.kind.Kind.{Kind}
use Rattle.composed_value.specs.declared.payload.Payload.{Payload}
use Rattle.composed_value.specs.declared.put.Put.{Put}
use Rattle.session_known.specs.Accepted.{AreNext, made_on}
use Rattle.session_known.specs.Session.{Client, Knowledge, knows_put, knows_shown, nothing_known, own_count, put_made, shown_of}
use Rattle.session_known.specs.declared.report.Shown.{Shown}
use Rattle.session_known.specs.declared.script.Level.TheVariants.{Causal}
use Rattle.session_known.proofs.KnownLemmas.{needs_grow}
use Rattle.session_known.proofs.NumberedLemmas.{count_put, count_put_elsewhere, number_at}
use Rattle.run_ledger.specs.Causality.{AreClosedBelow, NeedsAtMost}
use Rattle.legal_runs.proofs.ClosedNeedsLemmas.{ArePuts, IsBelow, IsPartBelow, below_wider, clock_part, count_in_joined, joined_are_needs, needs_part, one_count_at, one_need_at, part_joined, part_of_none, part_of_one, part_wider}
use Rattle.legal_runs.proofs.JoinedSoundLemmas.{IsSoundOf}
use Rattle.legal_runs.proofs.ShownLemmas.{IsOfSound}

-- of puts that are numbered one by one, the number tells the put
number_tells : (made : List Put) → AreNext 0 made → (x y : Put) → Contains made x → Contains made y → x.number ≡ y.number → x ≡ y
number_tells made next x y in_x in_y same =
    let of_x : x.number ≡ in_x.0 + 1 = sym (ap (λ put. put.number) in_x.2) ∙ number_at 0 made next in_x.0 x in_x.1 ∙ omega arith in
    let of_y : y.number ≡ in_y.0 + 1 = sym (ap (λ put. put.number) in_y.2) ∙ number_at 0 made next in_y.0 y in_y.1 ∙ omega arith in
    let places : in_x.0 ≡ in_y.0 = omega (arith, of_x, of_y, same) in
    sym in_x.2 ∙ ap (λ k. slice_index_or made k x) places ∙ get_or_default made in_y.0 x y in_y.1 ∙ in_y.2

-- Knowledge is closed below its Lamport number.
pub record IsClosedPart (accepted : List (ℕ × Put)) (knows : Knowledge) : Type 0 where
  pub needs_are : IsNeeds knows.clocks
  pub below : IsPartBelow accepted (knows.lamport + 1) knows.clocks knows.clocks

-- Knowledge of a session is so, and its own puts are known.
pub record IsClosed (accepted : List (ℕ × Put)) (session : ℕ) (knows : Knowledge) : Type 0 where
  pub needs_are : IsNeeds knows.clocks
  pub below : IsPartBelow accepted (knows.lamport + 1) knows.clocks knows.clocks
  pub own : (key : ℕ) → own_count knows key ≤ count_of session (clock_at key knows.clocks)

-- a causal session
abbrev pub causal_client : ℕ → Client
causal_client session = record { session = session; level = Causal }

-- knowing nothing is closed
pub nothing_closed : (accepted : List (ℕ × Put)) → ArePuts accepted → IsClosedPart accepted nothing_known
nothing_closed accepted are = record { needs_are = empty_are_needs; below = part_of_none accepted are 1 [] }

module _ (accepted : List (ℕ × Put)) (are : ArePuts accepted) (session : ℕ) where
  module _ (key : ℕ) (key_fits : key < 2 ^ 16) (knows : Knowledge) (closed : IsClosed accepted session knows) where
    -- it is closed once a sound cell is shown, where the needs of each put up to its top are closed below that put
    learned_closed : (kind : Kind) (cell : PlainCell) → IsSoundOf kind (puts_on key accepted) cell
        → ((put : Put) → Contains (puts_on key accepted) put → put.lamport ≤ cell.top → AreClosedBelow accepted put.lamport put.needs)
        → IsClosed accepted session (knows_shown (causal_client session) knows key (shown_of cell))
    learned_closed kind cell of causal =
        let one : List (ℕ × List (ℕ × ℕ)) = one_need key cell.clock in
        let first : List (ℕ × List (ℕ × ℕ)) = joined_needs knows.clocks one in
        let whole : List (ℕ × List (ℕ × ℕ)) = joined_needs first cell.needs in
        let later : ℕ = max knows.lamport cell.top + 1 in
        let one_is : IsNeeds one = one_need_is_needs key cell.clock key_fits of.of_kind.is_cell.clock_is in
        let first_is : IsNeeds first = joined_are_needs knows.clocks one closed.needs_are one_is in
        let needs_are : IsNeeds cell.needs = of.of_kind.is_cell.needs_are in
        let known : NeedsAtMost knows.clocks whole = λ needed s. omega (arith, needs_grow needed knows.clocks one s, needs_grow needed first cell.needs s) in
        let shown : NeedsAtMost cell.needs whole = λ needed s. omega (arith, count_in_joined needed s first cell.needs first_is needs_are) in
        record {
          needs_are = joined_are_needs first cell.needs first_is needs_are;
          below = part_joined accepted later first cell.needs whole first_is needs_are
              (part_joined accepted later knows.clocks one whole closed.needs_are one_is
              (part_wider accepted (knows.lamport + 1) later knows.clocks knows.clocks whole (omega arith) known closed.below)
              (part_wider accepted (cell.top + 1) later one cell.needs whole (omega arith) shown (clock_part accepted are kind key cell of.sound)))
              (part_wider accepted (cell.top + 1) later cell.needs cell.needs whole (omega arith) shown (needs_part accepted are kind key cell of.sound causal));
          own = λ at. omega (arith, closed.own at, known at session);
        }

    -- so it is by what the reply shows of it
    pub shown_closed : (kind : Kind) (shown : Shown) → IsOfSound kind (puts_on key accepted) Causal shown
        → ((put : Put) → Contains (puts_on key accepted) put → put.lamport ≤ shown.top → AreClosedBelow accepted put.lamport put.needs)
        → IsClosed accepted session (knows_shown (causal_client session) knows key shown)
    shown_closed kind shown of causal =
        subst (λ it. IsClosed accepted session (knows_shown (causal_client session) knows key it)) (sym of.is)
        (learned_closed kind of.cell of.sound (λ put has_it low. let top = ap (λ (it : Shown). it.top) of.is in causal put has_it (omega (arith, low, top))))

    module _ (next : AreNext 0 (made_on session key accepted)) (payload : Payload) (number lamport : ℕ) (is_next : number ≡ own_count knows key + 1) (is_later : lamport ≡ knows.lamport + 1) where
      -- the put that the session makes
      abbrev its_put : Put
      its_put = put_made (causal_client session) knows key payload number lamport 0

      -- what it comes to know by the put
      abbrev one_more : List (ℕ × List (ℕ × ℕ))
      one_more = one_need key (one_count session number)

      -- and all that it knows then
      abbrev whole : List (ℕ × List (ℕ × ℕ))
      whole = joined_needs knows.clocks one_more

      module _ (has_it : Contains (puts_on key accepted) its_put) where
        -- a put of the session on the key is among those that it made there
        of_session : (put : Put) → Contains (puts_on key accepted) put → put.session ≡ session → Contains (made_on session key accepted) put
        of_session put there same = contains_filter (λ p. session == p.session) (puts_on key accepted) put there (eq-eqb session put.session (sym same))

        -- the session has made so many puts
        as_many : (at : ℕ) → count_of at (one_count session number) ≤ length (puts_of_session at (puts_on key accepted))
        as_many at = elim (one_count_at at session number) [
          | inl here ↦
              let place = of_session its_put has_it refl in
              let is : number ≡ place.0 + 1 = sym (ap (λ (p : Put). p.number) place.2) ∙ number_at 0 (made_on session key accepted) next place.0 its_put place.1 ∙ omega arith in
              let there = ap (λ its. length (puts_of_session its (puts_on key accepted))) here.0 in
              omega (arith, here.1, is, place.1, there)
          | inr none ↦ omega (arith, none.1)
        ]

        -- the first so many puts of the session are below: the others were known, and the last is the put that it makes
        newly_counted : (put : Put) → Contains (puts_on key accepted) put → put.number ≤ count_of put.session (one_count session number) → IsBelow (lamport + 1) whole put
        newly_counted put there low =
            let known : NeedsAtMost knows.clocks whole = λ needed s. needs_grow needed knows.clocks one_more s in
            elim (one_count_at put.session session number) [
              | inl here ↦ elim (cases_lt put.number number) [
                | inl before ↦
                    let own = ap (λ s. count_of s (clock_at key knows.clocks)) here.0 in
                    below_wider (knows.lamport + 1) (lamport + 1) knows.clocks whole put (omega (arith, is_later)) known
                    (closed.below.each key put there (omega (arith, before, is_next, closed.own key, own)))
                | inr not_before ↦
                    let same : put ≡ its_put = number_tells (made_on session key accepted) next put its_put (of_session put there here.0) (of_session its_put has_it refl) (omega (arith, low, here.1, not_before)) in
                    subst (IsBelow (lamport + 1) whole) (sym same) (omega arith, known)
              ]
              | inr none ↦ let some = (are key put there).number_some in absurd (omega (arith, low, none.1, some))
            ]

        -- it can be counted
        one_more_is : IsNeeds one_more
        one_more_is =
            let it = are key its_put has_it in
            one_need_is_needs key (one_count session number) key_fits (one_count_is_clock session number it.session_fits it.number_fits)

        -- its own puts are known then
        own_known : (at : ℕ) → own_count (knows_put (causal_client session) knows key number lamport) at ≤ count_of session (clock_at at whole)
        own_known at =
            let joined = count_in_joined at session knows.clocks one_more closed.needs_are one_more_is in
            elim (one_need_at at key (one_count session number)) [
              | inl here ↦
                  let counts = subst (λ k. count_of k (joined_clocks knows.own (one_count key number)) ≡ number) (sym here.0) (count_put knows.own key number is_next) in
                  let known = ap (count_of session) here.1 in
                  elim (one_count_at session session number) [
                    | inl its ↦ omega (arith, counts, joined, known, its.1)
                    | inr other ↦ absurd (other.0 refl)
                  ]
              | inr other ↦
                  let counts = count_put_elsewhere knows.own key at number (λ same. other.0 (sym same)) in
                  omega (arith, counts, joined, closed.own at)
            ]

        -- knowledge is closed once the put is made
        pub put_closed : IsClosed accepted session (knows_put (causal_client session) knows key number lamport)
        put_closed =
            let known : NeedsAtMost knows.clocks whole = λ needed s. needs_grow needed knows.clocks one_more s in
            record {
              needs_are = joined_are_needs knows.clocks one_more closed.needs_are one_more_is;
              below = part_joined accepted (lamport + 1) knows.clocks one_more whole closed.needs_are one_more_is
                  (part_wider accepted (knows.lamport + 1) (lamport + 1) knows.clocks knows.clocks whole (omega (arith, is_later)) known closed.below)
                  (part_of_one accepted are (lamport + 1) key (one_count session number) whole as_many newly_counted);
              own = own_known;
            }
