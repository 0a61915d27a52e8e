-- Vector clocks: for each session how many of its puts are counted, as entries in the order of the sessions.
use Rattle.std.specs.Prelude.{ℕ, zero, suc, ◌<◌, ◌^◌, leb, max, Bool, ◌&&◌, not, List, [], ◌∷◌, unwrap_or}
use Rattle.std.specs.List.{list_all}
use Rattle.std.specs.Ordering.{nat_cmp}
use Rattle.std.specs.FinMap.{find}
use Rattle.lattice_laws.specs.Entries.{IsMap, joined_maps}

-- how many puts a clock can count of a session that stands in it
abbrev pub IsCount : ℕ → Type 0
IsCount n = (0 < n) × (n < 2 ^ 64)

-- a clock that there can be: the sessions strictly rise, and one of which no put is counted is not there
abbrev pub IsClock : List (ℕ × ℕ) → Type 0
IsClock clock = IsMap nat_cmp (λ session. session < 2 ^ 16) IsCount clock

-- how many puts of the session are counted
abbrev pub count_of : ℕ → List (ℕ × ℕ) → ℕ
count_of session clock = unwrap_or (find nat_cmp session clock) 0

-- for each session the greater of the two counts
abbrev pub joined_clocks : List (ℕ × ℕ) → List (ℕ × ℕ) → List (ℕ × ℕ)
joined_clocks a b = joined_maps nat_cmp max a b

-- the clock that counts n puts of one session and no others
abbrev pub one_count : ℕ → ℕ → List (ℕ × ℕ)
one_count session zero = []
one_count session (suc n) = (session, suc n) ∷ []

-- the clock counts of each session at least what the other counts
abbrev pub covers : List (ℕ × ℕ) → List (ℕ × ℕ) → Bool
covers clock other = list_all (λ entry. leb entry.1 (count_of entry.0 clock)) other

-- the clock is strictly below the other: covered by it, and not the other way round
abbrev pub is_below : List (ℕ × ℕ) → List (ℕ × ℕ) → Bool
is_below clock other = covers other clock && not (covers clock other)
