-- The changeset: for each mate the keys that changed since the mate was last told of them.
use Rattle.std.specs.Prelude.{◌≤◌, ◌==◌, ℕ, IsTrue, ltb, if◌then◌else◌, List, [], ◌∷◌, All}
use Rattle.merge_world.specs.World.{is_ascending}

-- keys, each one of so many, numbered from 1
pub record PlainKeys : Type 0 where
  pub most : ℕ
  pub keys : List ℕ

-- how many keys there are, and those that changed for each mate, ascending
pub record PlainChanges : Type 0 where
  pub most : ℕ
  pub of_mates : List (List ℕ)

-- ascending keys and one more, which may be there
abbrev pub with_key : ℕ → List ℕ → List ℕ
with_key key [] = key ∷ []
with_key key (next ∷ keys) = if ltb key next then key ∷ next ∷ keys else if key == next then next ∷ keys else next ∷ with_key key keys

-- ascending keys, each one of so many
pub record AreKeys (most : ℕ) (keys : List ℕ) : Type 0 where
  pub ascending : IsTrue (is_ascending keys)
  pub within : All (λ key. (1 ≤ key) × (key ≤ most)) keys
