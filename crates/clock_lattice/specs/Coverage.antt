-- What it means that a clock covers another, said of any lattice whose order code can test.
use Rattle.std.specs.Prelude.{◌≡◌, ◌↔◌, Bool, IsTrue}

-- Covering is the order of the lattice turned round.
pub record CoverageLaws {P : Type 0} (is_value : P → Type 0) (joined : P → P → P) (covers : P → P → Bool) : Type 0 where
  -- a value covers another exactly where to join the other into it changes nothing
  pub changes_nothing : (a b : P) → is_value a → is_value b → IsTrue (covers b a) ↔ (joined a b ≡ b)
  -- so every value covers itself, what covers a value covers all that it covers, and two that cover each other are one
  pub itself : (a : P) → is_value a → IsTrue (covers a a)
  pub through : (a b c : P) → is_value a → is_value b → is_value c → IsTrue (covers a b) → IsTrue (covers b c) → IsTrue (covers a c)
  pub each_other : (a b : P) → is_value a → is_value b → IsTrue (covers a b) → IsTrue (covers b a) → a ≡ b
  -- a join covers both, and is covered by whatever else covers both
  pub join_covers : (a b : P) → is_value a → is_value b → IsTrue (covers (joined a b) a) × IsTrue (covers (joined a b) b)
  pub join_is_least : (a b c : P) → is_value a → is_value b → is_value c → IsTrue (covers c a) → IsTrue (covers c b) → IsTrue (covers c (joined a b))
