-- The numbers that weak boxes are made with, by the number of their owner, from 1.
use Rattle.std.specs.Prelude.{◌≡◌, ℕ, ◌+◌, ◌%◌, ◌^◌, List, [], ◌∷◌, length, map}
use Rattle.std.specs.List.{range_with_len}

-- a box that hands out in order has none
abbrev pub in_order : ℕ → List ℕ
in_order owner = []

-- one that is scrambled has the first state of its generator of draws: its owner's number plus this
abbrev pub scrambled_by : ℕ → ℕ → List ℕ
scrambled_by number owner = ((number + owner) % (2 ^ 64)) ∷ []

-- Boxes in the order of their owners were made with the numbers of each, from the owner with the number 1.
abbrev pub AreNumbered : (ℕ → List ℕ) → List (List ℕ) → Type 0
AreNumbered numbers boxes = boxes ≡ map numbers (range_with_len 1 (length boxes))
