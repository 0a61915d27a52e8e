-- Texts and words taken apart: the parts that are found, and what it is that there are none.
use Rattle.std.specs.Prelude.{◌≡◌, ℕ, ◌==◌, Bool, false, List, ◌∷◌, ◌++◌, codes, Option, MatchOption}
use Rattle.std.specs.List.{list_any}
use denote.Ref.{Bor}
use Rattle.script_reader.specs.Words.{texts}

-- the byte stands in the text
abbrev pub has_byte : ℕ → List ℕ → Bool
has_byte byte text = list_any (λ b. b == byte) text

-- What stands before the first place of the byte and what stands after it, or nothing where it does not stand in the text.
abbrev pub CutsAt : ℕ → List ℕ → Option (Bor (List ℕ) × Bor (List ℕ)) → Type 0
CutsAt byte text found =
    MatchOption found (has_byte byte text ≡ false) (λ parts. (text ≡ parts.0.now ++ byte ∷ parts.1.now) × (has_byte byte parts.0.now ≡ false))

-- The part that the text is written round, or nothing where it is written round none.
abbrev pub FindsPart : (List ℕ → List ℕ) → List ℕ → Option (Bor (List ℕ)) → Type 0
FindsPart written text found = MatchOption found ((part : List ℕ) → text ≡ written part → ⊥) (λ part. text ≡ written part.now)

-- a text in braces
abbrev pub with_braces : List ℕ → List ℕ
with_braces inner = codes "{" ++ (inner ++ codes "}")

-- a text before a closing brace, and before a closing parenthesis
abbrev pub with_brace : List ℕ → List ℕ
with_brace inner = inner ++ codes "}"

abbrev pub with_parenthesis : List ℕ → List ℕ
with_parenthesis inner = inner ++ codes ")"

-- the words do not begin with this name and a word after it
abbrev pub LacksNamed : List ℕ → List (List ℕ) → Type 0
LacksNamed name words = (word : List ℕ) (rest : List (List ℕ)) → words ≡ name ∷ word ∷ rest → ⊥

-- The word after this name and the words after both, or nothing where there is none.
abbrev pub FindsNamed : List ℕ → List (List ℕ) → Option (Bor (List ℕ) × Bor (List (Bor (List ℕ)))) → Type 0
FindsNamed name words found = MatchOption found (LacksNamed name words) (λ found. words ≡ name ∷ found.0.now ∷ texts found.1.now)

-- The three words that the words are written with, or nothing where they are written with no three.
abbrev pub FindsThree : (List ℕ → List ℕ → List ℕ → List (List ℕ)) → List (List ℕ) → Option (Bor (List ℕ) × Bor (List ℕ) × Bor (List ℕ)) → Type 0
FindsThree written words found =
    MatchOption found ((one other third : List ℕ) → words ≡ written one other third → ⊥) (λ parts. words ≡ written parts.0.now parts.1.now parts.2.now)
