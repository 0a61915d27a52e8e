-- Clocks and needs that count accepted puts alone are in form: they name keys and sessions of the script.
use Rattle.std.specs.Prelude.{◌≡◌, ℕ, ◌<◌, ◌≤◌, ◌^◌, cond, IsTrue, List, [], ◌∷◌, All, Contains, map, length, slice_index_or, Some, None, unwrap_or}
use Rattle.std.specs.Cmp.{IsTotalOrder, Equal-is, nat_cmp_total, unsigned_tied}
use Rattle.std.specs.FinMap.{find, is_sorted, nat_cmp-IsAntisymmetric}
use Rattle.std.specs.Ordering.{is_eq, nat_cmp}
use Rattle.std.specs.declared.cmp.Ordering.{Ordering}
use Rattle.std.specs.declared.cmp.Ordering.TheVariants.{Equal}
use Rattle.std.proofs.Common.{◌∙◌, sym, ap, subst, inl, inr, arith}
use Rattle.std.proofs.lemmas.Bool.{cases_Bool}
use Rattle.std.proofs.lemmas.Bool.Decides.{eqb_tells}
use Rattle.std.proofs.lemmas.Cmp.{tied_itself}
use Rattle.std.proofs.lemmas.List.Elements.{All-cons, All-head, All-nil, All-tail}
use Rattle.lattice_laws.specs.Ascending.{ascending_tail, find_below, first_below}
use Rattle.lattice_laws.specs.Entries.{IsEntry}
use Rattle.lattice_laws.specs.Greatest.{IsGreatestOrZero}
use Rattle.lattice_laws.proofs.MembersLemmas.{contains_filtered, contains_mapped}
use Rattle.clock_lattice.specs.Clock.{IsClock, IsCount, count_of}
use Rattle.clock_lattice.specs.Needs.{IsNeeds, IsSomeClock, clock_at}
use Rattle.composed_value.specs.Keyed.{puts_on}
use Rattle.composed_value.specs.Sound.{AreSoundNeeds, counted, is_counted}
use Rattle.composed_value.specs.declared.put.Put.{Put}
use Rattle.session_known.specs.Form.{AreNeedsIn, IsClockIn, NamesSessions}
use Rattle.session_known.specs.Lawful.{CountsAccepted}
use Rattle.session_known.specs.declared.script.Script.{Script}
use Rattle.run_ledger.specs.Causality.{AreCausal, AreClosedBelow}
use Rattle.legal_runs.proofs.MadePutsLemmas.{AreOfScript, AreOfSessions, some_made}
use Rattle.legal_runs.proofs.OnKeyLemmas.{held_on_key}
use Rattle.legal_runs.proofs.SessionsLemmas.{IsSession}

module _ {K P : Type 0} {cmp : K → K → Ordering} (total : IsTotalOrder cmp) (exact : (a b : K) → cmp a b ≡ Equal → a ≡ b) where
  -- the first entry is found at its key
  first_found : (entry : K × P) (entries : List (K × P)) → find cmp entry.0 (entry ∷ entries) ≡ Some entry.1
  first_found entry entries = ap (λ order. cond (is_eq order) (Some entry.1) (find cmp entry.0 entries)) (tied_itself total entry.0)

  -- what is found among the others is found with it too, where the keys rise
  later_found : (entry : K × P) (entries : List (K × P)) → IsTrue (is_sorted cmp (entry ∷ entries)) → (key : K) (value : P)
      → find cmp key entries ≡ Some value → find cmp key (entry ∷ entries) ≡ Some value
  later_found entry entries rises key value found = elim (cases_Bool (is_eq (cmp key entry.0))) [
    | inl ties ↦
        let none : find cmp key entries ≡ None =
        ap (λ k. find cmp k entries) (exact key entry.0 ((Equal-is _).0 ties)) ∙ find_below cmp entry.0 entries (first_below cmp entry entries rises)
        in
        absurd (cc)
    | inr other ↦ ap (λ ties. cond ties (Some entry.1) (find cmp key entries)) other ∙ found
  ]

  -- so what holds of what is found at each key holds of each entry
  pub from_found : (Q : K → P → Type 0) (entries : List (K × P)) → IsTrue (is_sorted cmp entries)
      → ((key : K) (value : P) → find cmp key entries ≡ Some value → Q key value) → All (λ entry. Q entry.0 entry.1) entries
  from_found Q [] rises each = All-nil (λ entry. Q entry.0 entry.1)
  from_found Q (entry ∷ entries) rises each =
      All-cons (λ e. Q e.0 e.1) entry entries (each entry.0 entry.1 (first_found entry entries))
      (from_found Q entries (ascending_tail cmp entry entries rises) (λ key value found. each key value (later_found entry entries rises key value found)))

-- each entry is found at its number
each_found : {P : Type 0} (entries : List (ℕ × P)) → IsTrue (is_sorted nat_cmp entries) → All (λ entry. find nat_cmp entry.0 entries ≡ Some entry.1) entries
each_found entries rises = from_found nat_cmp_total nat_cmp-IsAntisymmetric (λ key value. find nat_cmp key entries ≡ Some value) entries rises (λ key value found. found)

-- a clock that is not empty counts a put of some session
some_counted : (clock : List (ℕ × ℕ)) → IsClock clock → 0 < length clock → (session : ℕ) × (1 ≤ count_of session clock)
some_counted [] is some = absurd (omega (arith, some))
some_counted (entry ∷ clock) is some =
    let first : count_of entry.0 (entry ∷ clock) ≡ entry.1 = ap (λ found. unwrap_or found 0) (first_found nat_cmp_total nat_cmp-IsAntisymmetric entry clock) in
    let counts : IsCount entry.1 = (All-head (IsEntry (λ session. session < 2 ^ 16) IsCount) entry clock is.are_entries).1 in
    (entry.0, omega (arith, first, counts.0))

-- a number that is the greatest or zero, and not zero, is there
pub some_greatest : (numbers : List ℕ) (n : ℕ) → IsGreatestOrZero numbers n → 1 ≤ n → Contains numbers n
some_greatest numbers n is some = elim is.1 [
  | inl there ↦ there
  | inr none ↦ absurd (omega (arith, none, some))
]

module _ (script : Script) where
  -- a session that a clock counts is one that it names
  pub counted_is_named : (clock : List (ℕ × ℕ)) → NamesSessions script clock → (session : ℕ) → 1 ≤ count_of session clock → IsSession script session
  counted_is_named [] named session some = absurd (omega (arith, some))
  counted_is_named (entry ∷ clock) named session some = elim (eqb_tells session entry.0) [
    | inl same ↦ subst (IsSession script) (sym same.1) (All-head (λ entry. IsSession script entry.0) entry clock named)
    | inr other ↦
        let rest = ap (λ ties. unwrap_or (cond ties (Some entry.1) (find nat_cmp session clock)) 0) (unsigned_tied session entry.0 ∙ other.0) in
        counted_is_named clock (All-tail (λ entry. IsSession script entry.0) entry clock named) session (subst (λ count. 1 ≤ count) rest some)
  ]

  -- a clock is in form where each session that it counts is the script's
  pub clock_in : (clock : List (ℕ × ℕ)) → IsClock clock → ((session : ℕ) → 1 ≤ count_of session clock → IsSession script session)
      → IsClockIn script clock
  clock_in clock is known = record {
    is_clock = is;
    sessions = λ k d low.
        let entry : ℕ × ℕ = slice_index_or clock k d in
        let count : count_of entry.0 clock ≡ entry.1 = ap (λ found. unwrap_or found 0) (each_found clock is.ascending k d low) in
        let counts : IsCount entry.1 = (is.are_entries k d low).1 in
        known entry.0 (omega (arith, count, counts.0));
  }

  -- needs are in form where each key and session that they count are the script's
  needs_in : (needs : List (ℕ × List (ℕ × ℕ))) → IsNeeds needs
      → ((key session : ℕ) → 1 ≤ count_of session (clock_at key needs) → AreOfScript script key session) → AreNeedsIn script needs
  needs_in needs are known = record {
    are_needs = are;
    keys = λ k d low.
        let clock : IsSomeClock (slice_index_or needs k d).1 = (are.are_entries k d low).1 in
        let some = some_counted (slice_index_or needs k d).1 clock.0 clock.1 in
        (known_at k d low some.0 some.1).0;
    sessions = λ k d low. (clock_in (slice_index_or needs k d).1 (are.are_entries k d low).1.0 (λ session some. (known_at k d low session some).1)).sessions;
  }
    where
      known_at : (k : ℕ) (d : ℕ × List (ℕ × ℕ)) → k < length needs → (session : ℕ) → 1 ≤ count_of session (slice_index_or needs k d).1
          → AreOfScript script (slice_index_or needs k d).0 session
      known_at k d low session some =
          let clock_is = ap (λ found. unwrap_or found []) (each_found needs are.ascending k d low) in
          known (slice_index_or needs k d).0 session (subst (λ clock. 1 ≤ count_of session clock) (sym clock_is) some)

  module _ (puts : List (ℕ × Put)) (known : AreOfSessions script puts) where
    -- a clock that counts accepted puts alone is in form
    pub accepted_clock_in : (key : ℕ) (clock : List (ℕ × ℕ)) → IsClock clock → CountsAccepted puts key clock → IsClockIn script clock
    accepted_clock_in key clock is counts =
        clock_in clock is (λ session some. let few = counts session in (some_made script puts known key session (omega (arith, some, few))).1)

    -- what an accepted put needs was accepted
    needed_is_known : AreCausal puts → (key needed session : ℕ) (put : Put) → Contains (puts_on key puts) put
        → 1 ≤ count_of session (clock_at needed put.needs) → AreOfScript script needed session
    needed_is_known causal key needed session put has_it some =
        let closed = held_on_key (λ its. AreClosedBelow puts its.lamport its.needs) key puts causal put has_it in
        let few = closed.counts needed session in
        some_made script puts known needed session (omega (arith, some, few))

    -- so the needs of a sound cell are in form
    pub sound_needs_in : AreCausal puts → (key : ℕ) (clock : List (ℕ × ℕ)) (needs : List (ℕ × List (ℕ × ℕ))) → IsNeeds needs
        → AreSoundNeeds (puts_on key puts) clock needs → AreNeedsIn script needs
    sound_needs_in causal key clock needs are sound =
        needs_in needs are (λ needed session some.
        let its = λ (put : Put). count_of session (clock_at needed put.needs) in
        let all = counted (puts_on key puts) clock in
        let count = count_of session (clock_at needed needs) in
        let from = contains_mapped its all count (some_greatest (map its all) count (sound needed session) some) in
        needed_is_known causal key needed session from.0 (contains_filtered (is_counted clock) (puts_on key puts) from.0 from.1).0
        (omega (arith, from.2, some)))
