-- Sets of words, as lists of words in their order.
use Rattle.std.specs.Prelude.{ℕ, Bool, List}
use Rattle.lattice_laws.specs.Sets as sets
use Rattle.basic_lattices.specs.Word.{IsWord, word_cmp}

-- a set that there can be: words in ascending order, each once
abbrev pub IsTextSet : List (List ℕ) → Type 0
IsTextSet words = sets.IsSet word_cmp IsWord words

-- whether a word is in a set
abbrev pub has : List ℕ → List (List ℕ) → Bool
has word words = sets.has word_cmp word words

-- a set with one more word
abbrev pub with_word : List ℕ → List (List ℕ) → List (List ℕ)
with_word word words = sets.with_member word_cmp word words

-- the union of two sets
abbrev pub united : List (List ℕ) → List (List ℕ) → List (List ℕ)
united a b = sets.united word_cmp a b
