-- Rows of items that are read.
use Rattle.std.specs.Prelude.{List, [], ◌∷◌}

-- a row: a list in form with an item or more
abbrev pub IsRow : {X : Type 0} → (List X → Type 0) → List X → Type 0
IsRow InForm [] = ⊥
IsRow InForm (item ∷ items) = InForm (item ∷ items)
