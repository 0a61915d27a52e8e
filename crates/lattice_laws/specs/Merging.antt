-- The steps of a pass over two maps in the order of their keys.
use Rattle.std.specs.Prelude.{◌≡◌, ◌↔◌, ℕ, ◌<◌, ◌≤◌, ◌+◌, IsTrue, List, [], ◌∷◌, ◌++◌, length, drop}
use Rattle.std.specs.declared.cmp.Ordering.{Ordering}
use Rattle.std.specs.declared.cmp.Ordering.TheVariants.{Less, Greater}
use Rattle.std.specs.FinMap.{is_sorted}
use Rattle.lattice_laws.specs.Entries.{joined_maps}

-- which of two maps has the first key of their join: the first (`Less`), the second (`Greater`), or both
abbrev pub first_side : {K P : Type 0} → (K → K → Ordering) → List (K × P) → List (K × P) → Ordering
first_side cmp a [] = Less
first_side cmp [] (f ∷ b) = Greater
first_side cmp (e ∷ a) (f ∷ b) = cmp e.0 f.0

-- Entries of both maps were joined and put after those that were done; what is left to join goes on from there.
pub record IsJoinStep {K P : Type 0} (cmp : K → K → Ordering) (joined : P → P → P) (done mine theirs later : List (K × P)) (of_mine of_theirs : ℕ) : Type 0 where
  pub mine_in_range : of_mine ≤ length mine
  pub theirs_in_range : of_theirs ≤ length theirs
  pub is_some : 0 < of_mine + of_theirs
  pub goes_on : later ++ joined_maps cmp joined (drop of_mine mine) (drop of_theirs theirs) ≡ done ++ joined_maps cmp joined mine theirs

-- the first map joined into the second changes nothing
abbrev pub IsAtMost : {K P : Type 0} → (K → K → Ordering) → (P → P → P) → List (K × P) → List (K × P) → Type 0
IsAtMost cmp joined mine theirs = joined_maps cmp joined mine theirs ≡ theirs

-- the map is at most no map that begins with the entry
abbrev pub NeverAtMost : {K P : Type 0} → (K → K → Ordering) → (P → P → P) → List (K × P) → K × P → Type 0
NeverAtMost {K} {P} cmp joined mine entry = (rest : List (K × P)) → IsTrue (is_sorted cmp (entry ∷ rest)) → ¬ (IsAtMost cmp joined mine (entry ∷ rest))

-- a map that begins with the entry is above the map just where its rest is above what the entry leaves of the map
pub record IsPassed {K P : Type 0} (cmp : K → K → Ordering) (joined : P → P → P) (mine : List (K × P)) (entry : K × P) (of_mine : ℕ) : Type 0 where
  pub in_range : of_mine ≤ length mine
  pub goes_on : (rest : List (K × P)) → IsTrue (is_sorted cmp mine) → IsTrue (is_sorted cmp (entry ∷ rest)) → IsAtMost cmp joined mine (entry ∷ rest) ↔ IsAtMost cmp joined (drop of_mine mine) rest
