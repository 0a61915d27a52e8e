-- Words, their order, and why bytes are none.
use Rattle.std.specs.Prelude.{ℕ, Bool, List, Option}
use Rattle.std.specs.declared.cmp.Ordering.{Ordering}
use Rattle.lattice_laws.specs.Spelling.{IsSpelled, IsWhyMisspelled, spelled_eq, spelled_cmp, spelled_partial_cmp}
use Rattle.lattice_laws.specs.declared.spelling.Misspelled.{Misspelled}
use Rattle.lattice_laws.specs.declared.spelling.Misspelled.TheVariants as misspelled
use Rattle.basic_lattices.specs.declared.word.WordFault.{WordFault}
use Rattle.basic_lattices.specs.declared.word.WordFault.TheVariants.{Length, Byte, NoMemory}

-- a word: 1 to 64 of the bytes A-Z a-z 0-9 _ . -
abbrev pub IsWord : List ℕ → Type 0
IsWord bytes = IsSpelled 64 bytes

-- The fault says why the bytes are no word; want of memory is never the cause.
abbrev pub IsWhyNoWord : List ℕ → WordFault → Type 0
IsWhyNoWord bytes Length = IsWhyMisspelled 64 bytes misspelled.Length
IsWhyNoWord bytes Byte = IsWhyMisspelled 64 bytes misspelled.Byte
IsWhyNoWord bytes NoMemory = ⊥

-- the fault of a word that is told of misspelled bytes
abbrev pub word_fault : Misspelled → WordFault
word_fault misspelled.Length = Length
word_fault misspelled.Byte = Byte

-- words are equal where their bytes are
abbrev pub word_eq : List ℕ → List ℕ → Bool
word_eq a b = spelled_eq a b

-- the order of words: the first byte that differs decides, and else the shorter comes first
abbrev pub word_cmp : List ℕ → List ℕ → Ordering
word_cmp a b = spelled_cmp a b

abbrev pub word_partial_cmp : List ℕ → List ℕ → Option Ordering
word_partial_cmp a b = spelled_partial_cmp a b
