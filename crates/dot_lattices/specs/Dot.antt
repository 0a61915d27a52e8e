-- Dots: puts of a key, each told by its session and its number among the session's puts on the key.
use Rattle.std.specs.Prelude.{ℕ, ◌<◌, ◌^◌, nat_le, Bool, List}
use Rattle.std.specs.Ordering.{ordering_then, nat_cmp}
use Rattle.std.specs.declared.cmp.Ordering.{Ordering}
use Rattle.clock_lattice.specs.Clock.{count_of}
use Rattle.dot_lattices.specs.declared.dot.Dot.{Dot}

-- by session, then number
abbrev pub dot_cmp : Dot → Dot → Ordering
dot_cmp a b = ordering_then (nat_cmp a.session b.session) (nat_cmp a.number b.number)

-- a dot that there can be
pub record IsDot (dot : Dot) : Type 0 where
  pub session_fits : dot.session < 2 ^ 16
  pub number_fits : dot.number < 2 ^ 64

-- the clock counts the dot
abbrev pub counts : List (ℕ × ℕ) → Dot → Bool
counts clock dot = nat_le dot.number (count_of dot.session clock)
