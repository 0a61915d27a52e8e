-- The bytes of names and words, and their order.
use Rattle.std.specs.Prelude.{ℕ, ◌<◌, ◌≤◌, ◌⊎◌, Bool, ◌||◌, ◌==◌, List, length, Option, Some}
use Rattle.std.specs.List.{AllPass}
use Rattle.std.specs.Char.{is_ascii_alphanumeric}
use Rattle.std.specs.Str.{bytes_eq}
use Rattle.std.specs.Ordering.{nat_cmp}
use Rattle.std.specs.Cmp.Lexicographic.{slice_cmp}
use Rattle.std.specs.declared.cmp.Ordering.{Ordering}
use Rattle.lattice_laws.specs.declared.spelling.Misspelled.{Misspelled}
use Rattle.lattice_laws.specs.declared.spelling.Misspelled.TheVariants.{Length, Byte}

-- a byte that may stand there: A-Z a-z 0-9 _ . -
abbrev pub is_spelling_byte : ℕ → Bool
is_spelling_byte b = is_ascii_alphanumeric b || ((b == 95) || ((b == 46) || (b == 45)))

-- 1 to `most` of these bytes
pub record IsSpelled (most : ℕ) (bytes : List ℕ) : Type 0 where
  pub some : 1 ≤ length bytes
  pub short : length bytes ≤ most
  pub allowed : AllPass is_spelling_byte bytes

-- the length is judged first, then each byte
abbrev pub IsWhyMisspelled : ℕ → List ℕ → Misspelled → Type 0
IsWhyMisspelled most bytes Length = (length bytes < 1) ⊎ (most < length bytes)
IsWhyMisspelled most bytes Byte = (1 ≤ length bytes) × (length bytes ≤ most) × (AllPass is_spelling_byte bytes → ⊥)

-- equal where the bytes are
abbrev pub spelled_eq : List ℕ → List ℕ → Bool
spelled_eq a b = bytes_eq a b

-- the first byte that differs decides, and else the shorter comes first
abbrev pub spelled_cmp : List ℕ → List ℕ → Ordering
spelled_cmp a b = slice_cmp nat_cmp a b

abbrev pub spelled_partial_cmp : List ℕ → List ℕ → Option Ordering
spelled_partial_cmp a b = Some (spelled_cmp a b)
