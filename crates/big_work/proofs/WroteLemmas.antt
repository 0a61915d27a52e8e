-- One text that is written after another.
use Rattle.std.specs.Prelude.{ℕ, ◌+◌, ◌≤◌, List, ◌++◌, take, length, Option, Result, Ok, Err, IsErr}
use Rattle.std.proofs.Common.{length-append, arith}
use Rattle.std.proofs.lemmas.Bool.{false≢true}
use Rattle.std.proofs.lemmas.List.{take-append-le}
use Rattle.std.proofs.Math.Seq.{take-append-add}
use Rattle.outside.specs.Gathering.{Wrote}
use Rattle.outside.specs.Outside.{Grew, GrewByFront, HasCause}
use Rattle.outside.specs.declared.Failed.{Failed}
use Rattle.outside.proofs.OutsideLemmas.{Grew-more}

-- a text was written whole, and then a front of another
pub front_then : (a b c : Option (List ℕ)) (t u : List ℕ) → Grew a b t → GrewByFront b c u → GrewByFront a c (t ++ u)
front_then a b c t u grew (n, within, more) = (length t + n, omega (arith, length-append t u, within), rw (take-append-add t u n) (Grew-more a b c t (take n u) grew more))

-- or became what another call made of it
pub wrote_then : (a b c : Option (List ℕ)) (t u : List ℕ) (result : Result (Unit {0}) Failed) → Grew a b t → Wrote b c u result → Wrote a c (t ++ u) result
wrote_then a b c t u (Ok done) grew more = Grew-more a b c t u grew more
wrote_then a b c t u (Err failed) grew front = front_then a b c t u grew front

-- a front of a text is one of that text with more after it
pub front_of_more : (a b : Option (List ℕ)) (t u : List ℕ) → GrewByFront a b t → GrewByFront a b (t ++ u)
front_of_more a b t u (n, within, grew) = (n, omega (arith, length-append t u, within), rw (take-append-le n t u) grew)

-- a count that has not fallen before a call that says why it failed
pub cause_then : {T E : Type 0} (a b c : ℕ) (result : Result T E) → a ≤ b → HasCause b c result → HasCause a c result
cause_then a b c (Ok done) before cause = (omega (arith, before, cause.0), tt)
cause_then a b c (Err failed) before cause = (omega (arith, before, cause.0), omega (arith, before, cause.1))

-- a call that failed has written a front
pub wrote_failed : (a b : Option (List ℕ)) (t : List ℕ) (result : Result (Unit {0}) Failed) → IsErr result → GrewByFront a b t → Wrote a b t result
wrote_failed a b t (Ok done) failed front = absurd (false≢true failed)
wrote_failed a b t (Err fault) failed front = front
