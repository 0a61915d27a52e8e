-- How many turns the parties of a run take in an epoch.
use Rattle.std.specs.Prelude.{◌≡◌, ℕ, ◌+◌, ◌<◌, List, length, slice_index_or}
use Rattle.parties.specs.Pace.{RoseAtMost}

-- how many turns the party of a number, from 0, took: none before the first epoch
abbrev pub turns_of : List ℕ → ℕ → ℕ
turns_of turns party = slice_index_or turns party 0

-- the counts of the parties from one on
abbrev pub AreCounted : List ℕ → ℕ → List ℕ → Type 0
AreCounted turns from counts = (place : ℕ) → place < length counts → turns_of counts place ≡ turns_of turns (from + place)

-- Each party took no more than so many turns, and those that it took before are counted still.
abbrev pub TakesAtMost : ℕ → List ℕ → List ℕ → Type 0
TakesAtMost most before now = (party : ℕ) → party < length now → RoseAtMost most (turns_of before party) (turns_of now party)
