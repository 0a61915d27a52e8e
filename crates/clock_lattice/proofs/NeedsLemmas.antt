-- The clocks of needs, and what needs cover, tell each other.
use Rattle.std.specs.Prelude.{◌≡◌, ℕ, ◌<◌, ◌^◌, IsTrue, List, [], ◌∷◌, length}
use Rattle.std.proofs.Common.{refl, ap, arith}
use Rattle.std.proofs.lemmas.List.Elements.{All-nil, All-cons}
use Rattle.std.specs.Cmp.{nat_cmp_total}
use Rattle.std.specs.FinMap.{nat_cmp-IsAntisymmetric}
use Rattle.lattice_laws.specs.Entries.{IsEntry}
use Rattle.clock_lattice.specs.Clock.{IsClock, joined_clocks, covers}
use Rattle.clock_lattice.proofs.ClockLemmas.{empty_is_clock, joined_empty}
use Rattle.clock_lattice.specs.Needs.{IsSomeClock, IsNeeds, clock_at, joined_needs, one_need, covers_needs}
use Rattle.clock_lattice.specs.SparseLaws.{IsBottom, value_at-joined, at_each_key}
use Rattle.clock_lattice.proofs.SparseLemmas.{value_at_is_any, same_values, from_each_key}
use Rattle.clock_lattice.specs.NeedsLaws.{some_clock_laws}

-- the empty clock is as good as the key not being there
pub empty_is_bottom : IsBottom IsSomeClock IsClock joined_clocks []
empty_is_bottom = record {
  any_value = λ clock v. v.0;
  any_bottom = empty_is_clock;
  not_kept = λ clock v e. let none : length clock ≡ 0 = ap length e in omega (arith, none, v.1);
  joined_left = joined_empty;
  joined_right = λ clock v. refl;
}

-- needs of nothing
pub empty_are_needs : IsNeeds []
empty_are_needs = record { ascending = refl; are_entries = All-nil (IsEntry (λ key. key < 2 ^ 16) IsSomeClock) }

-- the needs of one key are needs
pub one_need_is_needs : (key : ℕ) (clock : List (ℕ × ℕ)) → key < 2 ^ 16 → IsClock clock → IsNeeds (one_need key clock)
one_need_is_needs key [] k_fits is = empty_are_needs
one_need_is_needs key (entry ∷ clock) k_fits is = record {
  ascending = refl;
  are_entries = All-cons (IsEntry (λ key. key < 2 ^ 16) IsSomeClock) (key, entry ∷ clock) [] (k_fits, (is, omega arith)) (All-nil (IsEntry (λ key. key < 2 ^ 16) IsSomeClock));
}

-- they have one entry where the clock has some
pub one_need_entry : (key : ℕ) (clock : List (ℕ × ℕ)) → 0 < length clock → one_need key clock ≡ (key, clock) ∷ []
one_need_entry key [] some = absurd (omega (arith, some))
one_need_entry key (entry ∷ clock) some = refl

-- what must be seen of a key is a clock
pub clock_at_is_clock : (key : ℕ) (needs : List (ℕ × List (ℕ × ℕ))) → IsNeeds needs → IsClock (clock_at key needs)
clock_at_is_clock = value_at_is_any nat_cmp_total nat_cmp-IsAntisymmetric (λ key. key < 2 ^ 16) some_clock_laws (λ _ _. tt) empty_is_bottom

-- the clock of a key in a join is the join of its two clocks
pub clock-joined : (key : ℕ) (a b : List (ℕ × List (ℕ × ℕ))) → IsNeeds a → IsNeeds b → clock_at key (joined_needs a b) ≡ joined_clocks (clock_at key a) (clock_at key b)
clock-joined = value_at-joined nat_cmp_total nat_cmp-IsAntisymmetric (λ key. key < 2 ^ 16) some_clock_laws (λ _ _. tt) empty_is_bottom

-- needs with the same clocks are one
pub same_clocks : (a b : List (ℕ × List (ℕ × ℕ))) → IsNeeds a → IsNeeds b → ((key : ℕ) → clock_at key a ≡ clock_at key b) → a ≡ b
same_clocks = same_values nat_cmp_total nat_cmp-IsAntisymmetric (λ key. key < 2 ^ 16) some_clock_laws (λ _ _. tt) empty_is_bottom

-- what needs cover they cover at each key
pub clocks_from_covers : (needs others : List (ℕ × List (ℕ × ℕ))) → IsTrue (covers_needs needs others) → (key : ℕ) → IsTrue (covers (clock_at key needs) (clock_at key others))
clocks_from_covers needs others h key = at_each_key nat_cmp_total nat_cmp-IsAntisymmetric [] (λ mine theirs. covers theirs mine) (λ clock. refl) others needs h key

-- and the other way round
pub covers_from_clocks : (needs others : List (ℕ × List (ℕ × ℕ))) → IsNeeds others → ((key : ℕ) → IsTrue (covers (clock_at key needs) (clock_at key others))) → IsTrue (covers_needs needs others)
covers_from_clocks needs others is each = from_each_key nat_cmp_total nat_cmp-IsAntisymmetric [] (λ mine theirs. covers theirs mine) (λ clock. refl) others needs is.ascending each
