-- Causality without time: what a put depends on was accepted, bears a smaller Lamport number (Lamport 1978), and depends on no more.
use Rattle.std.specs.Prelude.{◌≡◌, ℕ, ◌<◌, ◌≤◌, true, List, All, Contains, length}
use Rattle.clock_lattice.specs.Clock.{count_of}
use Rattle.clock_lattice.specs.Needs.{clock_at}
use Rattle.composed_value.specs.Keyed.{puts_on}
use Rattle.composed_value.specs.PlainValue.{puts_of_session}
use Rattle.composed_value.specs.Sound.{is_counted}
use Rattle.composed_value.specs.declared.put.Put.{Put}

-- one put needs at most what another needs
abbrev pub NeedsAtMost : List (ℕ × List (ℕ × ℕ)) → List (ℕ × List (ℕ × ℕ)) → Type 0
NeedsAtMost needs others = (key session : ℕ) → count_of session (clock_at key needs) ≤ count_of session (clock_at key others)

-- Needs are closed below a Lamport number: they count accepted puts alone, and each put on a key that they count has a smaller number and
-- needs no more than they have.
pub record AreClosedBelow (accepted : List (ℕ × Put)) (lamport : ℕ) (needs : List (ℕ × List (ℕ × ℕ))) : Type 0 where
  pub counts : (key session : ℕ) → count_of session (clock_at key needs) ≤ length (puts_of_session session (puts_on key accepted))
  pub ranked : (key : ℕ) (put : Put) → Contains (puts_on key accepted) put → is_counted (clock_at key needs) put ≡ true → put.lamport < lamport
  pub closed : (key : ℕ) (put : Put) → Contains (puts_on key accepted) put → is_counted (clock_at key needs) put ≡ true → NeedsAtMost put.needs needs

-- The needs of each accepted put are closed below its own Lamport number.
abbrev pub AreCausal : List (ℕ × Put) → Type 0
AreCausal accepted = All (λ entry. AreClosedBelow accepted entry.1.lamport entry.1.needs) accepted
