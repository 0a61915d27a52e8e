-- Names of keys and sessions, and why bytes are none.
use Rattle.std.specs.Prelude.{ℕ, List}
use Rattle.lattice_laws.specs.Spelling.{IsSpelled, IsWhyMisspelled}
use Rattle.lattice_laws.specs.declared.spelling.Misspelled.{Misspelled}
use Rattle.lattice_laws.specs.declared.spelling.Misspelled.TheVariants as misspelled
use Rattle.placement.specs.declared.name.NameFault.{NameFault}
use Rattle.placement.specs.declared.name.NameFault.TheVariants.{Length, Byte, NoMemory}

-- a name: 1 to 32 of the bytes A-Z a-z 0-9 _ . -
abbrev pub IsName : List ℕ → Type 0
IsName bytes = IsSpelled 32 bytes

-- The fault says why the bytes are no name; want of memory is never the cause.
abbrev pub IsWhyNoName : List ℕ → NameFault → Type 0
IsWhyNoName bytes Length = IsWhyMisspelled 32 bytes misspelled.Length
IsWhyNoName bytes Byte = IsWhyMisspelled 32 bytes misspelled.Byte
IsWhyNoName bytes NoMemory = ⊥

-- the fault of a name that is told of misspelled bytes
abbrev pub name_fault : Misspelled → NameFault
name_fault misspelled.Length = Length
name_fault misspelled.Byte = Byte
