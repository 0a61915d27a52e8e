-- What a clock counts, and what it covers, tell each other.
use Rattle.std.specs.Prelude.{◌≡◌, ℕ, zero, suc, ◌<◌, ◌≤◌, ◌^◌, leb, IsTrue, List, [], ◌∷◌}
use Rattle.std.proofs.Common.{refl, arith}
use Rattle.std.specs.Cmp.{nat_cmp_total}
use Rattle.std.specs.FinMap.{nat_cmp-IsAntisymmetric}
use Rattle.std.proofs.lemmas.Bool.{le-leb}
use Rattle.std.proofs.lemmas.List.Elements.{All-nil, All-cons}
use Rattle.lattice_laws.specs.Entries.{IsEntry}
use Rattle.lattice_laws.specs.GreatestLaws.{max_laws}
use Rattle.clock_lattice.specs.Clock.{IsCount, IsClock, count_of, joined_clocks, one_count, covers}
use Rattle.clock_lattice.proofs.SparseLemmas.{same_values, from_each_key}
use Rattle.clock_lattice.specs.ClockLaws.{clock_laws, zero_is_bottom}

-- the empty clock counts nothing
pub empty_is_clock : IsClock []
empty_is_clock = record { ascending = refl; are_entries = All-nil (IsEntry (λ session. session < 2 ^ 16) IsCount) }

-- the empty clock joined with another is the other
pub joined_empty : (clock : List (ℕ × ℕ)) → IsClock clock → joined_clocks [] clock ≡ clock
joined_empty clock is = clock_laws.commutative [] clock empty_is_clock is tt

-- clocks with the same counts are one
pub same_counts : (a b : List (ℕ × ℕ)) → IsClock a → IsClock b → ((session : ℕ) → count_of session a ≡ count_of session b) → a ≡ b
same_counts = same_values nat_cmp_total nat_cmp-IsAntisymmetric (λ session. session < 2 ^ 16) (max_laws IsCount) (λ _ _. tt) zero_is_bottom

-- and what counts at most that is covered
pub covers_from_counts : (clock other : List (ℕ × ℕ)) → IsClock other → ((session : ℕ) → count_of session other ≤ count_of session clock) → IsTrue (covers clock other)
covers_from_counts clock other is each = from_each_key nat_cmp_total nat_cmp-IsAntisymmetric 0 leb (λ n. le-leb 0 n (omega arith)) other clock is.ascending (λ session. le-leb _ _ (each session))

-- the clock of one session is a clock
pub one_count_is_clock : (session n : ℕ) → session < 2 ^ 16 → n < 2 ^ 64 → IsClock (one_count session n)
one_count_is_clock session zero s_fits n_fits = empty_is_clock
one_count_is_clock session (suc n) s_fits n_fits = record {
  ascending = refl;
  are_entries = All-cons (IsEntry (λ session. session < 2 ^ 16) IsCount) (session, suc n) [] (s_fits, (omega arith, n_fits)) empty_is_clock.are_entries;
}

-- it has one entry where it counts something
pub one_count_entry : (session n : ℕ) → 0 < n → one_count session n ≡ (session, n) ∷ []
one_count_entry session zero some = absurd (omega (arith, some))
one_count_entry session (suc n) some = refl
