-- What the join of a lattice keeps to, said of plain values.
use Rattle.std.specs.Prelude.{◌≡◌}

-- The laws hold among the values of the type (`is_value`) that may be merged with one another (`fits`).
pub record LatticeLaws {P : Type 0} (is_value : P → Type 0) (fits : P → P → Type 0) (joined : P → P → P) : Type 0 where
  -- what may be merged falls into classes: every value is in one, and any two of a class may be merged
  pub fits_itself : (a : P) → is_value a → fits a a
  pub fits_back : (a b : P) → is_value a → is_value b → fits a b → fits b a
  pub fits_on : (a b c : P) → is_value a → is_value b → is_value c → fits a b → fits b c → fits a c
  -- the join of two values is a value of their class
  pub closed : (a b : P) → is_value a → is_value b → fits a b → is_value (joined a b) × fits a (joined a b) × fits b (joined a b)
  -- which of two comes first does not matter
  pub commutative : (a b : P) → is_value a → is_value b → fits a b → joined a b ≡ joined b a
  -- what comes twice counts once
  pub idempotent : (a : P) → is_value a → joined a a ≡ a

-- how merges are grouped does not matter
abbrev pub Associative : {P : Type 0} → (P → Type 0) → (P → P → Type 0) → (P → P → P) → Type 0
Associative {P} is_value fits joined =
    (a b c : P) → is_value a → is_value b → is_value c → fits a b → fits b c → joined (joined a b) c ≡ joined a (joined b c)
