-- Which of two stamped words their join is.
use Rattle.std.specs.Prelude.{◌≡◌, ◌↔◌, IsTrue, true, false}
use Rattle.std.specs.Ordering.{ord_max, is_lt, is_le}
use Rattle.basic_lattices.proofs.GreaterLemmas.{greater_unless_below, greater_if_below, greater_is_second}
use Rattle.basic_lattices.specs.Stamped.{stamp_cmp}
use Rattle.basic_lattices.specs.declared.stamped.Stamped.{Stamped}
use Rattle.basic_lattices.specs.StampedLaws.{stamp_total, stamp_exact}

-- which of two stamped words their join is
pub stamp_unless_below : (a b : Stamped) → is_lt (stamp_cmp a b) ≡ false → ord_max stamp_cmp a b ≡ a
stamp_unless_below = greater_unless_below stamp_cmp stamp_total stamp_exact

pub stamp_if_below : (a b : Stamped) → is_lt (stamp_cmp a b) ≡ true → ord_max stamp_cmp a b ≡ b
stamp_if_below = greater_if_below stamp_cmp stamp_total stamp_exact

pub stamp_is_second : (a b : Stamped) → IsTrue (is_le (stamp_cmp a b)) ↔ (ord_max stamp_cmp a b ≡ b)
stamp_is_second = greater_is_second stamp_cmp stamp_total stamp_exact
