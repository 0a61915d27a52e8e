-- What the worked puts depend on, entry by entry, and what the changed ones do.
use Rattle.std.specs.Prelude.{◌≡◌, ℕ, ◌<◌, ◌≤◌, ◌==◌, cond, Bool, true, false, IsTrue, List, [], ◌∷◌, Contains, filter, length, unwrap_or, Some}
use Rattle.std.specs.Cmp.{unsigned_tied}
use Rattle.std.specs.FinMap.{find}
use Rattle.std.specs.List.{AllByRecursion}
use Rattle.std.specs.Ordering.{nat_cmp}
use Rattle.std.proofs.Common.{◌∙◌, refl, sym, ap, subst, inl, inr, arith, lit<, lit≤}
use Rattle.std.proofs.lemmas.Bool.{eqb-true}
use Rattle.std.proofs.lemmas.Bool.Decides.{eqb_tells}
use Rattle.std.proofs.lemmas.List.Elements.{All-contains, All-from_recursion}
use Rattle.lattice_laws.proofs.MembersLemmas.{contains_filtered, contains_mapped}
use Rattle.clock_lattice.specs.Clock.{count_of}
use Rattle.clock_lattice.specs.ClockLaws.{counts_from_covers}
use Rattle.clock_lattice.specs.Needs.{clock_at, covers_needs}
use Rattle.clock_lattice.proofs.NeedsLemmas.{clocks_from_covers}
use Rattle.composed_value.specs.Keyed.{puts_on}
use Rattle.composed_value.specs.PlainValue.{puts_of_session}
use Rattle.composed_value.specs.Sound.{is_counted}
use Rattle.composed_value.specs.declared.put.Put.{Put}
use Rattle.run_ledger.specs.Causality.{AreCausal, AreClosedBelow}
use Rattle.worked_laws.specs.Puts.{AreNotCausal, Needs, put_of, first, second, second_needs, third, third_needs, fourth_needs, worked_puts, need_of_a_put_not_there, need_on_another_key, need_at_the_same_lamport, need_at_a_greater_lamport, needs_of_each_other, need_not_covered}

-- what holds of each entry, and of what stands for none, holds of what is found at any number
at_each : {V : Type 0} (P : ℕ → V → Type 0) (none : V) (entries : List (ℕ × V)) → AllByRecursion (λ entry. P entry.0 entry.1) entries → ((q : ℕ) → P q none)
    → (q : ℕ) → P q (unwrap_or (find nat_cmp q entries) none)
at_each P none [] each nothing q = nothing q
at_each {V} P none (entry ∷ entries) each nothing q =
    let chosen : Bool → V = λ same. unwrap_or (cond same (Some entry.1) (find nat_cmp q entries)) none in
    let is : unwrap_or (find nat_cmp q (entry ∷ entries)) none ≡ chosen (q == entry.0) = ap chosen (unsigned_tied q entry.0) in
    elim (eqb_tells q entry.0) [
      | inl same ↦ subst (P q) (sym (is ∙ ap chosen same.0)) (subst (λ k. P k entry.1) (sym same.1) each.0)
      | inr other ↦ subst (P q) (sym (is ∙ ap chosen other.0)) (at_each P none entries each.1 nothing q)
    ]

-- what holds of each put with its key holds of those on a key
held_on : (P : ℕ → Put → Type 0) (puts : List (ℕ × Put)) → AllByRecursion (λ entry. P entry.0 entry.1) puts → (key : ℕ) (put : Put) → Contains (puts_on key puts) put → P key put
held_on P puts each key put has_it =
    let from = contains_mapped (λ (entry : ℕ × Put). entry.1) (filter (λ (entry : ℕ × Put). entry.0 == key) puts) put has_it in
    let kept = contains_filtered (λ (entry : ℕ × Put). entry.0 == key) puts from.0 from.1 in
    let holds : P from.0.0 from.0.1 = All-contains (λ (entry : ℕ × Put). P entry.0 entry.1) puts from.0 (All-from_recursion (λ (entry : ℕ × Put). P entry.0 entry.1) puts each) kept.0 in
    subst (P key) from.2 (subst (λ k. P k from.0.1) (eqb-true from.0.0 key kept.1) holds)

-- a session made so many puts on a key
abbrev HasMade : List (ℕ × Put) → ℕ → ℕ → ℕ → Type 0
HasMade accepted key session n = n ≤ length (puts_of_session session (puts_on key accepted))

-- a put that needs count is below a Lamport number, and its needs are covered
abbrev IsBelowOnceCounted : ℕ → Needs → ℕ × Put → Type 0
IsBelowOnceCounted lamport needs entry = is_counted (clock_at entry.0 needs) entry.1 ≡ true → (entry.1.lamport < lamport) × IsTrue (covers_needs needs entry.1.needs)

closed_by_entry : (accepted : List (ℕ × Put)) (lamport : ℕ) (needs : Needs) → AllByRecursion (λ at. AllByRecursion (λ count. HasMade accepted at.0 count.0 count.1) at.1) needs
    → AllByRecursion (IsBelowOnceCounted lamport needs) accepted → AreClosedBelow accepted lamport needs
closed_by_entry accepted lamport needs made each = record {
  counts = at_each (λ key clock. (session : ℕ) → HasMade accepted key session (count_of session clock)) [] needs (made_by_clock accepted needs made) (λ key session. omega arith);
  ranked = λ key put has_it counted. (held_on (λ k p. IsBelowOnceCounted lamport needs (k, p)) accepted each key put has_it counted).0;
  closed = λ key put has_it counted needed session.
      let covered = (held_on (λ k p. IsBelowOnceCounted lamport needs (k, p)) accepted each key put has_it counted).1 in
      counts_from_covers (clock_at needed needs) (clock_at needed put.needs) (clocks_from_covers needs put.needs covered needed) session;
}
  where
    made_by_clock : (accepted : List (ℕ × Put)) (needs : Needs) → AllByRecursion (λ at. AllByRecursion (λ count. HasMade accepted at.0 count.0 count.1) at.1) needs
        → AllByRecursion (λ at. (session : ℕ) → HasMade accepted at.0 session (count_of session at.1)) needs
    made_by_clock accepted [] made = tt
    made_by_clock accepted (at ∷ needs) made = (at_each (HasMade accepted at.0) 0 at.1 made.0 (λ session. omega arith), made_by_clock accepted needs made.1)

-- a put that is not counted
uncounted : {P : Type 0} → false ≡ true → P
uncounted wrong = absurd (cc)

pub worked_are_causal : AreCausal worked_puts
worked_are_causal = All-from_recursion (λ (entry : ℕ × Put). AreClosedBelow worked_puts entry.1.lamport entry.1.needs) worked_puts (
  closed_by_entry worked_puts 1 [] tt (uncounted, (uncounted, (uncounted, (uncounted, tt)))),
  (
    closed_by_entry worked_puts 2 second_needs ((lit≤ tt, tt), tt) ((λ counted. (lit< tt, refl)), (uncounted, (uncounted, (uncounted, tt)))),
    (
      closed_by_entry worked_puts 3 third_needs ((lit≤ tt, tt), ((lit≤ tt, tt), tt)) ((λ counted. (lit< tt, refl)), ((λ counted. (lit< tt, refl)), (uncounted, (uncounted, tt)))),
      (
        closed_by_entry worked_puts 4 fourth_needs ((lit≤ tt, tt), ((lit≤ tt, tt), tt)) ((λ counted. (lit< tt, refl)), ((λ counted. (lit< tt, refl)), ((λ counted. (lit< tt, refl)), (uncounted, tt)))),
        tt,
      ),
    ),
  ),
)

pub need_of_a_put_not_there_is_refused : AreNotCausal need_of_a_put_not_there
need_of_a_put_not_there_is_refused causal = let wrong : 3 ≤ 2 = (causal 1 (0, first) (lit< tt)).counts 1 1 in omega (arith, wrong)

pub need_on_another_key_is_refused : AreNotCausal need_on_another_key
need_on_another_key_is_refused causal = let wrong : 1 ≤ 0 = (causal 1 (0, first) (lit< tt)).counts 2 1 in omega (arith, wrong)

pub need_at_the_same_lamport_is_refused : AreNotCausal need_at_the_same_lamport
need_at_the_same_lamport_is_refused causal = let wrong : 1 < 1 = (causal 1 (0, first) (lit< tt)).ranked 1 first (0, lit< tt, refl) refl in omega (arith, wrong)

pub need_at_a_greater_lamport_is_refused : AreNotCausal need_at_a_greater_lamport
need_at_a_greater_lamport_is_refused causal = let wrong : 3 < 2 = (causal 1 (0, first) (lit< tt)).ranked 1 (put_of 1 1 3 []) (0, lit< tt, refl) refl in omega (arith, wrong)

pub needs_of_each_other_are_refused : AreNotCausal needs_of_each_other
needs_of_each_other_are_refused causal = let wrong : 2 < 1 = (causal 0 (0, first) (lit< tt)).ranked 2 second (0, lit< tt, refl) refl in omega (arith, wrong)

pub need_not_covered_is_refused : AreNotCausal need_not_covered
need_not_covered_is_refused causal = let wrong : 1 ≤ 0 = (causal 3 (0, first) (lit< tt)).closed 1 third (1, lit< tt, refl) refl 2 2 in omega (arith, wrong)
