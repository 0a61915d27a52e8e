-- When a clock covers what is known, raised at a session.
use Rattle.std.specs.Cmp.Derive.{both_true}
use Rattle.std.specs.Prelude.{◌≡◌, ℕ, zero, suc, ◌<◌, ◌^◌, ◌&&◌, leb, true, List}
use Rattle.std.proofs.Common.{refl, sym, ap, ◌∙◌, arith}
use Rattle.std.specs.Cmp.{both_ways}
use Rattle.std.proofs.lemmas.Bool.{and_parts, le-leb}
use Rattle.clock_lattice.specs.Clock.{IsClock, count_of, joined_clocks, one_count, covers}
use Rattle.clock_lattice.specs.ClockLaws.{covers_through}
use Rattle.clock_lattice.proofs.ClockLemmas.{one_count_is_clock}
use Rattle.clock_lattice.proofs.CoverageLemmas.{clock_coverage}

-- a clock covers a join exactly where it covers both
covers_both : (clock a b : List (ℕ × ℕ)) → IsClock clock → IsClock a → IsClock b → covers clock (joined_clocks a b) ≡ (covers clock a && covers clock b)
covers_both clock a b is is_a is_b =
    let parts = clock_coverage.join_covers a b is_a is_b in
    both_ways (covers clock (joined_clocks a b)) (covers clock a && covers clock b)
    (λ whole. both_true {s = covers clock a} {t = covers clock b} (covers_through clock (joined_clocks a b) a whole parts.0) (covers_through clock (joined_clocks a b) b whole parts.1))
    (λ both. clock_coverage.join_is_least a b clock is_a is_b is (and_parts (covers clock a) (covers clock b) both).0 (and_parts (covers clock a) (covers clock b) both).1)

-- a clock covers a count of one session exactly where it counts as many
covers_one : (clock : List (ℕ × ℕ)) (session n : ℕ) → covers clock (one_count session n) ≡ leb n (count_of session clock)
covers_one clock session zero = sym (le-leb 0 (count_of session clock) (omega arith))
covers_one clock session (suc n) = both_ways (covers clock (one_count session (suc n))) (leb (suc n) (count_of session clock)) (λ both. (and_parts (leb (suc n) (count_of session clock)) true both).0) (λ counts. both_true {s = leb (suc n) (count_of session clock)} {t = true} counts refl)

-- A clock covers what is known, raised at a session, exactly where it counts as many of the session and covers what is known.
pub covers_raised_both : (clock known : List (ℕ × ℕ)) (session n : ℕ) → session < 2 ^ 16 → n < 2 ^ 64 → IsClock clock → IsClock known → covers clock (joined_clocks known (one_count session n)) ≡ (covers clock known && leb n (count_of session clock))
covers_raised_both clock known session n fits n_fits is is_known =
    covers_both clock known (one_count session n) is is_known (one_count_is_clock session n fits n_fits) ∙ ap (λ t. covers clock known && t) (covers_one clock session n)
