-- What becomes of many pieces.
use Rattle.std.specs.Prelude.{List, [], ◌∷◌, ⊤}

-- each item of the first list becomes the item at its place in the second
abbrev pub Pairwise : {X : Type 0} → (X → X → Type 0) → List X → List X → Type 0
Pairwise becomes [] [] = ⊤
Pairwise becomes (before ∷ others) (now ∷ others_now) = becomes before now × Pairwise becomes others others_now
Pairwise becomes [] (now ∷ others_now) = ⊥
Pairwise becomes (before ∷ others) [] = ⊥
