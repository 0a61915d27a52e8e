-- How counts of steps rise.
use Rattle.std.specs.Prelude.{ℕ, ◌+◌, ◌≤◌}

-- A count rose by so many at most, and did not fall.
abbrev pub RoseAtMost : ℕ → ℕ → ℕ → Type 0
RoseAtMost most before now = (before ≤ now) × (now ≤ before + most)
