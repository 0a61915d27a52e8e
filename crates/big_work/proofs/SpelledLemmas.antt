-- Texts of a letter and a number.
use Rattle.std.specs.Prelude.{◌≡◌, ℕ, ◌+◌, ◌^◌, ◌<◌, ◌≤◌, true, List, ◌++◌, length}
use Rattle.std.specs.Fmt.{decimal}
use Rattle.std.proofs.Common.{inl, inr, length-append, arith, lit<}
use Rattle.std.proofs.lemmas.Fmt.{decimal_injective, length-decimal-le}
use Rattle.std.proofs.lemmas.List.{append_cancel_left}
use Rattle.std.proofs.lemmas.List.Elements.{All-append}
use Rattle.std.proofs.lemmas.List.Sums.{AllPass-from_list_all}
use Rattle.lattice_laws.specs.Spelling.{IsSpelled, is_spelling_byte}
use Rattle.basic_lattices.specs.Word.{IsWhyNoWord}
use Rattle.basic_lattices.specs.declared.word.WordFault.{WordFault}
use Rattle.basic_lattices.specs.declared.word.WordFault.TheVariants as words
use Rattle.placement.specs.Name.{IsWhyNoName}
use Rattle.placement.specs.declared.name.NameFault.{NameFault}
use Rattle.placement.specs.declared.name.NameFault.TheVariants as names
use Rattle.report_lines.proofs.NamesLemmas.{decimal_spelled}

-- a letter and a number are bytes that may stand in a name or a word
pub numbered_is_spelled : (most n : ℕ) (letter : List ℕ) → 32 ≤ most → n < 2 ^ 64 → IsSpelled 1 letter → IsSpelled most (letter ++ decimal n)
numbered_is_spelled most n letter room fits one =
    let digits : length (decimal n) ≤ 20 = length-decimal-le 20 n (lit< tt) (omega arith) fits in
    let long : length (letter ++ decimal n) ≡ length letter + length (decimal n) = length-append letter (decimal n) in
    record {
      some = omega (arith, one.some);
      short = omega (arith, one.short);
      allowed = All-append (λ b. is_spelling_byte b ≡ true) letter (decimal n) one.allowed (AllPass-from_list_all is_spelling_byte (decimal n) (decimal_spelled n));
    }

-- and tell the number
pub number_is_told : (letter : List ℕ) (m n : ℕ) → m < 2 ^ 64 → n < 2 ^ 64 → letter ++ decimal m ≡ letter ++ decimal n → m ≡ n
number_is_told letter m n m_fits n_fits same = decimal_injective m n m_fits n_fits (append_cancel_left letter (decimal m) (decimal n) same)

-- bytes that spell a name are never told to be none
pub is_some_name : (bytes : List ℕ) (fault : NameFault) → IsSpelled 32 bytes → IsWhyNoName bytes fault → ⊥
is_some_name bytes names.Length is why = elim why [ inl none ↦ omega (arith, is.some, none) | inr long ↦ omega (arith, is.short, long) ]
is_some_name bytes names.Byte is why = why.2 is.allowed
is_some_name bytes names.NoMemory is why = why

-- nor those that spell a word
pub is_some_word : (bytes : List ℕ) (fault : WordFault) → IsSpelled 64 bytes → IsWhyNoWord bytes fault → ⊥
is_some_word bytes words.Length is why = elim why [ inl none ↦ omega (arith, is.some, none) | inr long ↦ omega (arith, is.short, long) ]
is_some_word bytes words.Byte is why = why.2 is.allowed
is_some_word bytes words.NoMemory is why = why
