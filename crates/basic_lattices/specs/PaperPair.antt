-- A clock with a set of words, merged by the clock where one clock is above the other: a counterexample, and no lattice.
use Rattle.std.specs.Prelude.{◌≡◌, ◌≢◌, ℕ, ◌<◌, ◌^◌, ◌⊎◌, max, List, [], ◌∷◌, codes}
use Rattle.std.specs.Ordering.{nat_cmp}
use Rattle.lattice_laws.specs.Entries.{IsMap, joined_maps}
use Rattle.basic_lattices.specs.TextSet.{IsTextSet, united}

-- a pair as plain data: the count of each session, and the words in order
pub record PlainPair : Type 0 where
  pub clock : List (ℕ × ℕ)
  pub words : List (List ℕ)

-- a clock that there can be
abbrev pub IsClock : List (ℕ × ℕ) → Type 0
IsClock clock = IsMap nat_cmp (λ session. session < 2 ^ 16) (λ count. count < 2 ^ 64) clock

-- a pair that there can be
pub record IsPair (pair : PlainPair) : Type 0 where
  pub clock_is : IsClock pair.clock
  pub words_are : IsTextSet pair.words

abbrev pub joined_clocks : List (ℕ × ℕ) → List (ℕ × ℕ) → List (ℕ × ℕ)
joined_clocks a b = joined_maps nat_cmp max a b

-- the first clock is strictly below the second
abbrev pub IsBelow : List (ℕ × ℕ) → List (ℕ × ℕ) → Type 0
IsBelow a b = (joined_clocks a b ≡ b) × (a ≢ b)

abbrev pub both_joined : PlainPair → PlainPair → PlainPair
both_joined a b = record { clock = joined_clocks a.clock b.clock; words = united a.words b.words }

-- The pair with the strictly greater clock wins; else both halves are joined.
abbrev pub IsPaperJoin : PlainPair → PlainPair → PlainPair → Type 0
IsPaperJoin a b c =
    (IsBelow a.clock b.clock × (c ≡ b))
    ⊎ ((IsBelow b.clock a.clock × (c ≡ a))
    ⊎ ((IsBelow a.clock b.clock → ⊥) × (IsBelow b.clock a.clock → ⊥) × (c ≡ both_joined a b)))

-- three pairs of two sessions, 1 and 2
abbrev pub first_pair : PlainPair
first_pair = record { clock = (1, 1) ∷ []; words = codes "x" ∷ [] }

abbrev pub second_pair : PlainPair
second_pair = record { clock = (2, 1) ∷ []; words = codes "y" ∷ [] }

abbrev pub third_pair : PlainPair
third_pair = record { clock = (1, 2) ∷ []; words = codes "z" ∷ [] }

-- what they are joined to, first with second and then third, and first with third and then second
abbrev pub one_part : PlainPair
one_part = record { clock = (1, 2) ∷ (2, 1) ∷ []; words = codes "x" ∷ codes "y" ∷ codes "z" ∷ [] }

abbrev pub other_part : PlainPair
other_part = record { clock = (1, 2) ∷ (2, 1) ∷ []; words = codes "y" ∷ codes "z" ∷ [] }

-- the pairs are what joining the three in two orders gives
pub record PartFromOrder (one other : PlainPair) : Type 0 where
  pub one_is : one ≡ one_part
  pub other_is : other ≡ other_part
  pub one_way : (joined : PlainPair) × IsPaperJoin first_pair second_pair joined × IsPaperJoin joined third_pair one
  pub other_way : (joined : PlainPair) × IsPaperJoin first_pair third_pair joined × IsPaperJoin joined second_pair other
  pub apart : one ≢ other
