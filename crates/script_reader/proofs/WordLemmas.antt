-- Tests of words, and what they say.
use Rattle.std.proofs.Common.{◌≡◌, ℕ, ◌<◌, ◌^◌, Bool, true, false, cond, ◌&&◌, nat_lt, List, [], ◌∷◌, length, None, Some, Result, Ok, Err, MatchResult, is_ok, inl, inr, refl, sym, ap, ◌∙◌, arith}
use Rattle.std.specs.Char.{is_ascii_digit}
use Rattle.std.specs.List.{list_all}
use Rattle.std.specs.Result.{OkIff, result_ok}
use Rattle.std.specs.Str.{IsAscii, IsUtf8, all_ascii_digits}
use Rattle.std.specs.Str.Parse.{AllDigits, digits_value, ParsesUnsigned}
use Rattle.std.proofs.lemmas.Bool.Decides.{nat_tests}
use Rattle.std.proofs.lemmas.List.Sums.{list_all-from_AllPass}
use Rattle.std.proofs.lemmas.Str.{IsUtf8-from_ascii}
use Rattle.std.proofs.lemmas.Bool.{cases_lt}
use Rattle.std.proofs.lemmas.List.{get_or_past}
use Rattle.std.proofs.lemmas.Str.Parse.{digit_at, IsNumeralModel, tells_all_ascii_digits, numerals_by_value, parse_digits}
use Rattle.basic_lattices.specs.Word.{IsWhyNoWord}
use Rattle.basic_lattices.specs.declared.word.WordFault.{WordFault}
use Rattle.basic_lattices.specs.declared.word.WordFault.TheVariants as faults
use Rattle.lattice_laws.specs.Spelling.{is_spelling_byte, IsSpelled, IsWhyMisspelled}
use Rattle.lattice_laws.specs.declared.spelling.Misspelled.{Misspelled}
use Rattle.lattice_laws.specs.declared.spelling.Misspelled.TheVariants.{Length, Byte}
use Rattle.placement.specs.Name.{IsWhyNoName}
use Rattle.placement.specs.declared.name.NameFault.{NameFault}
use Rattle.placement.specs.declared.name.NameFault.TheVariants as names
use Rattle.script_reader.proofs.ValidListsLaws.{is_spelling}
use Rattle.script_reader.specs.Words.{is_name, is_spelled, is_numeral, number_said, word_said}

-- a test that holds of just what meets the property
from_test : (P : Type 0) (test : Bool) → (test ≡ true → P) → (P → ⊥) → test ≡ false
from_test P true holds fails = absurd (fails (holds refl))
from_test P false holds fails = refl

-- the bytes of a word are one
spelled_is : (most : ℕ) (word : List ℕ) → IsSpelled most word → is_spelled most word ≡ true
spelled_is most word is = grind (arith, nat_tests, list_all-from_AllPass is_spelling_byte word is.allowed)

not_spelled : (most : ℕ) (word : List ℕ) (fault : Misspelled) → IsWhyMisspelled most word fault → IsSpelled most word → ⊥
not_spelled most word Length why is = elim why [ inl few ↦ omega (arith, is.some) | inr many ↦ omega (arith, is.short) ]
not_spelled most word Byte why is = why.2 is.allowed

-- what test_spelling answers
pub spelling_tested : (most : ℕ) (word : List ℕ) (result : Result (Unit {0}) Misspelled) → MatchResult result (λ _. IsSpelled most word) (IsWhyMisspelled most word) → is_ok result ≡ is_spelled most word
spelling_tested most word (Ok _) is = sym (spelled_is most word is)
spelling_tested most word (Err fault) why = sym (from_test (IsSpelled most word) (is_spelled most word) (is_spelling most word) (not_spelled most word fault why))

-- bytes that are no name spell none
pub no_name : (word : List ℕ) (fault : NameFault) → IsWhyNoName word fault → is_name word ≡ false
no_name word names.Length why = sym (spelling_tested 32 word (Err Length) why)
no_name word names.Byte why = sym (spelling_tested 32 word (Err Byte) why)
no_name word names.NoMemory why = absurd why

-- digits are ASCII
digits_ascii : (digits : List ℕ) → AllDigits 10 digits → IsAscii digits
digits_ascii digits all i = elim (cases_lt i (length digits)) [ inl below ↦ let digit = digit_at digits i all below in omega arith | inr past ↦ let none = get_or_past digits i 0 past in omega arith ]

-- where from_utf8 gave nothing, the bytes are no text
pub no_text : {T E : Type 0} (P : T → Type 0) (U : Type 0) (Q : E → Type 0) (result : Result T E) → result_ok result ≡ None → MatchResult result P (λ e. (U → ⊥) × Q e) → U → ⊥
no_text P U Q (Ok text) none cases = absurd (cc)
no_text P U Q (Err e) none cases = cases.0

-- a word of a value says itself, and other bytes say none
pub word_told : (word : List ℕ) (result : Result (List ℕ) WordFault) → MatchResult result (λ told. (told ≡ word) × IsSpelled 64 word) (IsWhyNoWord word) → result_ok result ≡ word_said word
word_told word (Ok told) is = ap Some is.0 ∙ sym (ap (λ t. cond t (Some word) None) (spelled_is 64 word is.1))
word_told word (Err faults.Length) why = sym (ap (λ t. cond t (Some word) None) (from_test (IsSpelled 64 word) (is_spelled 64 word) (is_spelling 64 word) (not_spelled 64 word Length why)))
word_told word (Err faults.Byte) why = sym (ap (λ t. cond t (Some word) None) (from_test (IsSpelled 64 word) (is_spelled 64 word) (is_spelling 64 word) (not_spelled 64 word Byte why)))
word_told word (Err faults.NoMemory) why = absurd why

-- the digits that parse reads
digits_read : IsNumeralModel (λ word. all_ascii_digits word ≡ true) (digits_value 10)
digits_read = numerals_by_value _ tells_all_ascii_digits

number_from : {E : Type 0} (word : List ℕ) (result : Result ℕ E) → is_numeral word ≡ true → OkIff result ((0 < length word) × (digits_value 10 word < 2 ^ 64)) (digits_value 10 word) → result_ok result ≡ number_said word
number_from word (Ok n) is reads =
    let test : (is_numeral word && nat_lt (digits_value 10 word) (2 ^ 64)) ≡ true = grind (arith, nat_tests, is) in
    ap Some reads.1 ∙ sym (ap (λ t. cond t (Some (digits_value 10 word)) None) test)
number_from word (Err fault) is fails =
    let test : (is_numeral word && nat_lt (digits_value 10 word) (2 ^ 64)) ≡ false = from_test _ _ (λ t. (grind (arith, nat_tests), grind (arith, nat_tests))) fails in
    sym (ap (λ t. cond t (Some (digits_value 10 word)) None) test)

-- what parse reads of digits is the number that they say
pub number_parsed : {E : Type 0} (word : List ℕ) (result : Result ℕ E) → is_numeral word ≡ true → ParsesUnsigned 64 10 word result → result_ok result ≡ number_said word
number_parsed word result is reads =
    let digits : all_ascii_digits word ≡ true = grind (arith, nat_tests) in
    number_from word result is (parse_digits digits_read 64 word result reads digits)

-- digits are text
pub numeral_is_text : (word : List ℕ) → is_numeral word ≡ true → IsUtf8 word
numeral_is_text word is =
    let digits : all_ascii_digits word ≡ true = grind (arith, nat_tests) in
    IsUtf8-from_ascii word (digits_ascii word (digits_read.to word digits))

-- each byte of a word of digits is one
pub each_digit : (word : List ℕ) → list_all is_ascii_digit word ≡ all_ascii_digits word
each_digit [] = refl
each_digit (b ∷ word) = ap (λ t. is_ascii_digit b && t) (each_digit word)
