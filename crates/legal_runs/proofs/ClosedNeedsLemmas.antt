-- Needs that are closed below a Lamport number, told part by part: a part counts accepted puts alone, and each put that it counts has a smaller
-- number and needs no more than the whole.
use Rattle.std.specs.Prelude.{◌≡◌, ◌≢◌, ℕ, zero, suc, ◌+◌, ◌<◌, ◌≤◌, ◌==◌, ◌⊎◌, max, Bool, true, cond, List, [], ◌∷◌, Contains, length, Some, None, unwrap_or}
use Rattle.std.specs.Cmp.{unsigned_tied}
use Rattle.std.proofs.Common.{◌∙◌, refl, ap, subst, inl, inr, arith}
use Rattle.std.proofs.lemmas.Bool.{cases_lt, le-leb, leb-true}
use Rattle.std.proofs.lemmas.Bool.Decides.{eqb_tells}
use Rattle.lattice_laws.proofs.MembersLemmas.{contains_filter, contains_filtered, contains_map, contains_mapped}
use Rattle.clock_lattice.specs.Clock.{count_of, one_count}
use Rattle.clock_lattice.specs.ClockLaws.{count-joined}
use Rattle.clock_lattice.specs.Needs.{IsNeeds, clock_at, joined_needs, one_need}
use Rattle.clock_lattice.specs.NeedsLaws.{needs_laws}
use Rattle.clock_lattice.proofs.NeedsLemmas.{clock-joined, clock_at_is_clock}
use Rattle.composed_value.specs.Cell.{PlainCell}
use Rattle.composed_value.specs.Keyed.{puts_on}
use Rattle.composed_value.specs.PlainValue.{puts_of_session}
use Rattle.composed_value.specs.Put.{IsPut}
use Rattle.composed_value.specs.Sound.{IsSoundCell, counted, is_counted}
use Rattle.composed_value.specs.declared.kind.Kind.{Kind}
use Rattle.composed_value.specs.declared.put.Put.{Put}
use Rattle.run_ledger.specs.Causality.{AreClosedBelow, NeedsAtMost}

-- the needs of one key have their clock there, and none elsewhere
pub one_need_at : (at key : ℕ) (clock : List (ℕ × ℕ)) → ((at ≡ key) × (clock_at at (one_need key clock) ≡ clock)) ⊎ ((at ≢ key) × (clock_at at (one_need key clock) ≡ []))
one_need_at at key [] = elim (eqb_tells at key) [
  | inl same ↦ inl (same.1, refl)
  | inr other ↦ inr (other.1, refl)
]
one_need_at at key (entry ∷ clock) =
    let chosen : Bool → List (ℕ × ℕ) = λ same. unwrap_or (cond same (Some (entry ∷ clock)) None) [] in
    let is : clock_at at (one_need key (entry ∷ clock)) ≡ chosen (at == key) = ap chosen (unsigned_tied at key) in
    elim (eqb_tells at key) [
      | inl same ↦ inl (same.1, is ∙ ap chosen same.0)
      | inr other ↦ inr (other.1, is ∙ ap chosen other.0)
    ]

-- the clock of so many puts of one session counts these, and none of others
pub one_count_at : (at session n : ℕ) → ((at ≡ session) × (count_of at (one_count session n) ≡ n)) ⊎ ((at ≢ session) × (count_of at (one_count session n) ≡ 0))
one_count_at at session zero = elim (eqb_tells at session) [
  | inl same ↦ inl (same.1, refl)
  | inr other ↦ inr (other.1, refl)
]
one_count_at at session (suc n) =
    let chosen : Bool → ℕ = λ same. unwrap_or (cond same (Some (suc n)) None) 0 in
    let is : count_of at (one_count session (suc n)) ≡ chosen (at == session) = ap chosen (unsigned_tied at session) in
    elim (eqb_tells at session) [
      | inl same ↦ inl (same.1, is ∙ ap chosen same.0)
      | inr other ↦ inr (other.1, is ∙ ap chosen other.0)
    ]

-- a count in joined needs is the greater of the two
pub count_in_joined : (key session : ℕ) (a b : List (ℕ × List (ℕ × ℕ))) → IsNeeds a → IsNeeds b
    → count_of session (clock_at key (joined_needs a b)) ≡ max (count_of session (clock_at key a)) (count_of session (clock_at key b))
count_in_joined key session a b of_a of_b =
    ap (count_of session) (clock-joined key a b of_a of_b)
    ∙ count-joined session (clock_at key a) (clock_at key b) (clock_at_is_clock key a of_a) (clock_at_is_clock key b of_b)

-- joined needs are needs
pub joined_are_needs : (a b : List (ℕ × List (ℕ × ℕ))) → IsNeeds a → IsNeeds b → IsNeeds (joined_needs a b)
joined_are_needs a b of_a of_b = (needs_laws.closed a b of_a of_b tt).0

-- the puts on each key are puts that there can be
abbrev pub ArePuts : List (ℕ × Put) → Type 0
ArePuts accepted = (key : ℕ) (put : Put) → Contains (puts_on key accepted) put → IsPut put

-- a put has a smaller Lamport number, and needs at most these
abbrev pub IsBelow : ℕ → List (ℕ × List (ℕ × ℕ)) → Put → Type 0
IsBelow lamport whole put = (put.lamport < lamport) × NeedsAtMost put.needs whole

-- Part of the needs of a whole counts accepted puts alone, each below the Lamport number and the whole.
pub record IsPartBelow (accepted : List (ℕ × Put)) (lamport : ℕ) (part whole : List (ℕ × List (ℕ × ℕ))) : Type 0 where
  pub counts : (key session : ℕ) → count_of session (clock_at key part) ≤ length (puts_of_session session (puts_on key accepted))
  pub each : (key : ℕ) (put : Put) → Contains (puts_on key accepted) put → put.number ≤ count_of put.session (clock_at key part) → IsBelow lamport whole put

-- what is below stays so below a greater number and greater needs
pub below_wider : (lamport later : ℕ) (whole more : List (ℕ × List (ℕ × ℕ))) (put : Put) → lamport ≤ later → NeedsAtMost whole more → IsBelow lamport whole put → IsBelow later more put
below_wider lamport later whole more put no_less at_most is =
    (omega (arith, is.0, no_less), λ key session. omega (arith, is.1 key session, at_most key session))

-- a put on the key, with at most the cell's top and needs, needs as many of a session's puts on another key as the cell
record IsNeededBy (accepted : List (ℕ × Put)) (key : ℕ) (cell : PlainCell) (needed session : ℕ) : Type 0 where
  put : Put
  has_it : Contains (puts_on key accepted) put
  below : IsBelow (cell.top + 1) cell.needs put
  as_many : count_of session (clock_at needed put.needs) ≡ count_of session (clock_at needed cell.needs)

module _ (accepted : List (ℕ × Put)) where
  -- needs that are closed are part of themselves, and the other way round
  pub part_of_closed : (lamport : ℕ) (needs : List (ℕ × List (ℕ × ℕ))) → AreClosedBelow accepted lamport needs → IsPartBelow accepted lamport needs needs
  part_of_closed lamport needs closed = record {
    counts = closed.counts;
    each = λ key put has_it low.
        let counts : is_counted (clock_at key needs) put ≡ true = le-leb put.number (count_of put.session (clock_at key needs)) low in
        (closed.ranked key put has_it counts, closed.closed key put has_it counts);
  }

  pub closed_of_part : (lamport : ℕ) (needs : List (ℕ × List (ℕ × ℕ))) → IsPartBelow accepted lamport needs needs → AreClosedBelow accepted lamport needs
  closed_of_part lamport needs part = record {
    counts = part.counts;
    ranked = λ key put has_it counts. (part.each key put has_it (leb-true put.number (count_of put.session (clock_at key needs)) counts)).0;
    closed = λ key put has_it counts. (part.each key put has_it (leb-true put.number (count_of put.session (clock_at key needs)) counts)).1;
  }

  -- a part stays one of a greater whole
  pub part_wider : (lamport later : ℕ) (part whole more : List (ℕ × List (ℕ × ℕ))) → lamport ≤ later → NeedsAtMost whole more → IsPartBelow accepted lamport part whole → IsPartBelow accepted later part more
  part_wider lamport later part whole more no_less at_most is = record {
    counts = is.counts;
    each = λ key put has_it low. below_wider lamport later whole more put no_less at_most (is.each key put has_it low);
  }

  -- two parts together are one
  pub part_joined : (lamport : ℕ) (a b whole : List (ℕ × List (ℕ × ℕ))) → IsNeeds a → IsNeeds b → IsPartBelow accepted lamport a whole → IsPartBelow accepted lamport b whole
      → IsPartBelow accepted lamport (joined_needs a b) whole
  part_joined lamport a b whole of_a of_b is_a is_b = record {
    counts = λ key session. omega (arith, count_in_joined key session a b of_a of_b, is_a.counts key session, is_b.counts key session);
    each = λ key put has_it low.
        let joined = count_in_joined key put.session a b of_a of_b in
        elim (cases_lt (count_of put.session (clock_at key a)) put.number) [
          | inl above ↦ is_b.each key put has_it (omega (arith, joined, low, above))
          | inr within ↦ is_a.each key put has_it within
        ];
  }

  module _ (are : ArePuts accepted) where
    -- no put is numbered 0
    none_at_zero : (key : ℕ) (put : Put) → Contains (puts_on key accepted) put → put.number ≤ 0 → ⊥
    none_at_zero key put has_it low = omega (arith, low, (are key put has_it).number_some)

    -- no needs are part of any
    pub part_of_none : (lamport : ℕ) (whole : List (ℕ × List (ℕ × ℕ))) → IsPartBelow accepted lamport [] whole
    part_of_none lamport whole = record {
      counts = λ key session. omega arith;
      each = λ key put has_it low. absurd (none_at_zero key put has_it low);
    }

    -- the needs of one key are part of a whole where their clock counts accepted puts alone, each below
    pub part_of_one : (lamport key : ℕ) (clock : List (ℕ × ℕ)) (whole : List (ℕ × List (ℕ × ℕ)))
        → ((session : ℕ) → count_of session clock ≤ length (puts_of_session session (puts_on key accepted)))
        → ((put : Put) → Contains (puts_on key accepted) put → put.number ≤ count_of put.session clock → IsBelow lamport whole put)
        → IsPartBelow accepted lamport (one_need key clock) whole
    part_of_one lamport key clock whole counts each = record {
      counts = λ at session. elim (one_need_at at key clock) [
        | inl here ↦
            let as_many = ap (count_of session) here.1 in
            let there = ap (λ its. length (puts_of_session session (puts_on its accepted))) here.0 in
            omega (arith, as_many, there, counts session)
        | inr none ↦ let nothing = ap (count_of session) none.1 in omega (arith, nothing)
      ];
      each = λ at put has_it low. elim (one_need_at at key clock) [
        | inl here ↦
            let as_many = ap (count_of put.session) here.1 in
            each put (subst (λ its. Contains (puts_on its accepted) put) here.0 has_it) (omega (arith, low, as_many))
        | inr none ↦ let nothing = ap (count_of put.session) none.1 in absurd (none_at_zero at put has_it (omega (arith, low, nothing)))
      ];
    }

    module _ (kind : Kind) (key : ℕ) (cell : PlainCell) (sound : IsSoundCell kind (puts_on key accepted) cell) where
      -- a put that a sound cell counts has at most its top, and needs at most what it needs
      counted_below : (put : Put) → Contains (puts_on key accepted) put → put.number ≤ count_of put.session cell.clock → IsBelow (cell.top + 1) cell.needs put
      counted_below put has_it low =
          let all : List Put = counted (puts_on key accepted) cell.clock in
          let there : Contains all put = contains_filter (is_counted cell.clock) (puts_on key accepted) put has_it (le-leb put.number (count_of put.session cell.clock) low) in
          let at_most = sound.shown.top_is.0 put.lamport (contains_map (λ p. p.lamport) all put there) in (
            omega (arith, at_most),
            (λ needed session.
                (sound.needs needed session).0 (count_of session (clock_at needed put.needs)) (contains_map (λ p. count_of session (clock_at needed p.needs)) all put there)),
          )

      -- so its clock is part of its needs, below its top
      pub clock_part : IsPartBelow accepted (cell.top + 1) (one_need key cell.clock) cell.needs
      clock_part = part_of_one (cell.top + 1) key cell.clock cell.needs sound.shown.counts counted_below

      -- what a cell needs of a session on a key, one of the puts that its clock counts needs
      needed_by : (needed session : ℕ) → IsNeededBy accepted key cell needed session ⊎ (count_of session (clock_at needed cell.needs) ≡ 0)
      needed_by needed session = elim (sound.needs needed session).1 [
        | inl there ↦
            let from = contains_mapped (λ p. count_of session (clock_at needed p.needs)) (counted (puts_on key accepted) cell.clock) (count_of session (clock_at needed cell.needs)) there in
            let its = contains_filtered (is_counted cell.clock) (puts_on key accepted) from.0 from.1 in
            inl (record {
              put = from.0;
              has_it = its.0;
              below = counted_below from.0 its.0 (leb-true from.0.number (count_of from.0.session cell.clock) its.1);
              as_many = from.2;
            })
        | inr none ↦ inr none
      ]

      -- so its needs are closed below its top where the needs of each put up to its top are below that put
      pub needs_part : ((put : Put) → Contains (puts_on key accepted) put → put.lamport ≤ cell.top → AreClosedBelow accepted put.lamport put.needs)
          → IsPartBelow accepted (cell.top + 1) cell.needs cell.needs
      needs_part causal = record {
        counts = λ needed session. elim (needed_by needed session) [
          | inl by ↦
              let part = part_of_closed by.put.lamport by.put.needs (causal by.put by.has_it (omega (arith, by.below.0))) in
              omega (arith, part.counts needed session, by.as_many)
          | inr none ↦ omega (arith, none)
        ];
        each = λ needed put has_it low. elim (needed_by needed put.session) [
          | inl by ↦
              let part = part_of_closed by.put.lamport by.put.needs (causal by.put by.has_it (omega (arith, by.below.0))) in
              below_wider by.put.lamport (cell.top + 1) by.put.needs cell.needs put (omega (arith, by.below.0)) by.below.1
              (part.each needed put has_it (omega (arith, low, by.as_many)))
          | inr none ↦ absurd (none_at_zero needed put has_it (omega (arith, low, none)))
        ];
      }
