-- Needs, the causal dependencies of a put or a cell: for each key a clock, as entries in the order of the keys.
use Rattle.std.specs.Prelude.{ℕ, ◌<◌, ◌^◌, Bool, List, [], ◌∷◌, length, unwrap_or}
use denote.Ref.{Bor}
use Rattle.std.specs.List.{list_all}
use Rattle.std.specs.Ordering.{nat_cmp}
use Rattle.std.specs.FinMap.{find}
use Rattle.lattice_laws.specs.Entries.{IsMap, joined_maps}
use Rattle.clock_lattice.specs.Clock.{IsClock, joined_clocks, covers}

-- a clock that counts something
abbrev pub IsSomeClock : List (ℕ × ℕ) → Type 0
IsSomeClock clock = IsClock clock × (0 < length clock)

-- needs that there can be: the keys strictly rise, and one of which nothing must be seen is not there
abbrev pub IsNeeds : List (ℕ × List (ℕ × ℕ)) → Type 0
IsNeeds needs = IsMap nat_cmp (λ key. key < 2 ^ 16) IsSomeClock needs

-- what must be seen of the key
abbrev pub clock_at : ℕ → List (ℕ × List (ℕ × ℕ)) → List (ℕ × ℕ)
clock_at key needs = unwrap_or (find nat_cmp key needs) []

-- for each key the join of the two clocks
abbrev pub joined_needs : List (ℕ × List (ℕ × ℕ)) → List (ℕ × List (ℕ × ℕ)) → List (ℕ × List (ℕ × ℕ))
joined_needs a b = joined_maps nat_cmp joined_clocks a b

-- the needs of a clock at one key and nothing else
abbrev pub one_need : ℕ → List (ℕ × ℕ) → List (ℕ × List (ℕ × ℕ))
one_need key [] = []
one_need key (entry ∷ clock) = (key, entry ∷ clock) ∷ []

-- the needs cover at each key what the others have there
abbrev pub covers_needs : List (ℕ × List (ℕ × ℕ)) → List (ℕ × List (ℕ × ℕ)) → Bool
covers_needs needs others = list_all (λ entry. covers (clock_at entry.0 needs) entry.1) others

-- the entry of which the clock is lent
abbrev pub lent_need : ℕ × Bor (List (ℕ × ℕ)) → ℕ × List (ℕ × ℕ)
lent_need entry = (entry.0, entry.1.now)
