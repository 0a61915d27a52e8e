-- What was added and what was taken at a dot.
use Rattle.std.specs.Prelude.{ℕ, ◌<◌, ◌^◌, max, Bool, if◌then◌else◌}
use Rattle.dot_lattices.specs.declared.amounts.Amounts.{Amounts}

pub record AreAmounts (amounts : Amounts) : Type 0 where
  pub added_fits : amounts.added < 2 ^ 32
  pub taken_fits : amounts.taken < 2 ^ 32

-- the greater of each
abbrev pub joined_amounts : Amounts → Amounts → Amounts
joined_amounts a b = record { added = max a.added b.added; taken = max a.taken b.taken }

-- what a put brings that adds the amount or takes it
abbrev pub amounts_of : Bool → ℕ → Amounts
amounts_of plus amount = if plus then record { added = amount; taken = 0 } else record { added = 0; taken = amount }
