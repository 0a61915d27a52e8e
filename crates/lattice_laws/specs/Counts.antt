-- Counts that a `u64` keeps, up to its greatest number.
use Rattle.std.specs.Prelude.{ℕ, ◌+◌, ◌-◌, ◌^◌, ◌≤◌, min}

-- one more, or the greatest number
abbrev pub one_more : ℕ → ℕ
one_more count = min (count + 1) (2 ^ 64 - 1)

-- the count rose, or stands at the greatest number
abbrev pub Rose : ℕ → ℕ → Type 0
Rose before now = one_more before ≤ now
