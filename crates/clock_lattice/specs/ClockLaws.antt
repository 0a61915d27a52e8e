-- Clocks are a lattice, told by their counts.
use Rattle.std.specs.Cmp.Derive.{both_true}
use Rattle.std.specs.Prelude.{◌≡◌, ℕ, ◌<◌, ◌≤◌, ◌^◌, leb, max, IsTrue, List, [], ◌∷◌, ⊤}
use Rattle.std.proofs.Common.{refl, arith}
use Rattle.std.specs.Cmp.{nat_cmp_total}
use Rattle.std.specs.FinMap.{nat_cmp-IsAntisymmetric}
use Rattle.std.proofs.lemmas.Bool.{and_parts, leb-true, le-leb}
use Rattle.lattice_laws.specs.Lattice.{LatticeLaws, Associative}
use Rattle.lattice_laws.specs.EntriesLaws.{map_laws, map_associative}
use Rattle.lattice_laws.specs.GreatestLaws.{max_laws, max_associative}
use Rattle.clock_lattice.specs.Clock.{IsCount, IsClock, count_of, joined_clocks, covers}
use Rattle.clock_lattice.specs.SparseLaws.{IsBottom, value_at-joined, at_each_key}

pub clock_laws : LatticeLaws IsClock (λ _ _. ⊤) joined_clocks
clock_laws = map_laws nat_cmp_total nat_cmp-IsAntisymmetric (λ session. session < 2 ^ 16) (max_laws IsCount) (λ _ _. tt)

pub clock_associative : Associative IsClock (λ _ _. ⊤) joined_clocks
clock_associative = map_associative nat_cmp_total nat_cmp-IsAntisymmetric (λ session. session < 2 ^ 16) (max_laws IsCount) (λ _ _. tt) (max_associative IsCount)

-- no puts of a session are as good as the session not being there
pub zero_is_bottom : IsBottom IsCount (λ _. ⊤) max 0
zero_is_bottom = record {
  any_value = λ n v. tt;
  any_bottom = tt;
  not_kept = λ n v e. omega (arith, e, v.0);
  joined_left = λ n v. omega arith;
  joined_right = λ n v. omega arith;
}

-- the count of a session in a join is the greater of the two
pub count-joined : (session : ℕ) (a b : List (ℕ × ℕ)) → IsClock a → IsClock b → count_of session (joined_clocks a b) ≡ max (count_of session a) (count_of session b)
count-joined = value_at-joined nat_cmp_total nat_cmp-IsAntisymmetric (λ session. session < 2 ^ 16) (max_laws IsCount) (λ _ _. tt) zero_is_bottom

-- what a clock covers counts at most what it counts
pub counts_from_covers : (clock other : List (ℕ × ℕ)) → IsTrue (covers clock other) → (session : ℕ) → count_of session other ≤ count_of session clock
counts_from_covers clock other h session = leb-true _ _ (at_each_key nat_cmp_total nat_cmp-IsAntisymmetric 0 leb (λ n. le-leb 0 n (omega arith)) other clock h session)

-- what a clock covers covers no more than the clock
pub covers_through : (a b c : List (ℕ × ℕ)) → IsTrue (covers a b) → IsTrue (covers b c) → IsTrue (covers a c)
covers_through a b [] ab bc = refl
covers_through a b (entry ∷ c) ab bc =
    let first : entry.1 ≤ count_of entry.0 b = leb-true _ _ (and_parts _ _ bc).0 in
    let second : count_of entry.0 b ≤ count_of entry.0 a = counts_from_covers a b ab entry.0 in
    both_true (le-leb _ _ (omega arith)) (covers_through a b c ab (and_parts _ _ bc).1)
