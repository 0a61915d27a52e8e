-- Names and numbers are told from their text, and are made of the bytes that may stand in a name.
use Rattle.std.specs.Prelude.{◌≡◌, ◌≢◌, ℕ, ℤ, pos, negsuc, ◌-◌, ◌<◌, ◌≤◌, ◌/◌, ◌%◌, ◌==◌, true, false, List, [], ◌∷◌, map, length, slice_index_or, All, AllPairs}
use Rattle.std.specs.Char.{is_ascii_digit}
use Rattle.std.specs.Fmt.{decimal, signed_decimal, digits, digits_onto, digit_glyph}
use Rattle.std.specs.List.{list_all}
use Rattle.std.proofs.Common.{zero, suc, refl, sym, ◌∙◌, inl, inr, arith}
use Rattle.std.proofs.lemmas.Bool.{and_from, cases_order, cond_both, or_left}
use Rattle.std.proofs.lemmas.Bool.Decides.{nat_tests}
use Rattle.std.proofs.lemmas.List.{get_or-map}
use Rattle.std.proofs.lemmas.List.Elements.{All-head, All-tail}
use Rattle.std.proofs.lemmas.List.Sums.{list_all-from_AllPass}
use Rattle.lattice_laws.specs.Spelling.{is_spelling_byte}
use Rattle.basic_lattices.specs.Word.{IsWord}
use Rattle.placement.specs.Name.{IsName}
use Rattle.placement.specs.Config.{IsOneOf}
use Rattle.session_known.specs.Script.{IsValidScript, key_name, session_name}
use Rattle.session_known.specs.declared.script.Script.{Script}
use Rattle.report_lines.proofs.RenderingLemmas.{Passes, made_of, passes_weaker}

-- only bytes that may stand in a name
abbrev pub Spelled : List ℕ → Type 0
Spelled text = Passes is_spelling_byte text

-- they may stand in any word
pub spelled_made : (marks text : List ℕ) → Spelled text → Passes (made_of marks) text
spelled_made marks text spelled = passes_weaker is_spelling_byte (made_of marks) (λ b is. or_left (is_spelling_byte b) _ is) text spelled

-- the bytes of a word may stand in a name
pub word_spelled : (word : List ℕ) → IsWord word → Spelled word
word_spelled word is = list_all-from_AllPass is_spelling_byte word is.allowed

-- ---- numbers

-- what `decimal` writes of a digit
glyph_is_digit : (n : ℕ) → is_ascii_digit (digit_glyph false (n % 10)) ≡ true
glyph_is_digit n = grind (arith, nat_tests)

-- before digits it writes digits
onto_digits : (k n : ℕ) (digits : List ℕ) → Passes is_ascii_digit digits → Passes is_ascii_digit (digits_onto k 10 false n digits)
onto_digits zero n digits all = all
onto_digits (suc k) n digits all =
    let more : Passes is_ascii_digit (digit_glyph false (n % 10) ∷ digits) = and_from (is_ascii_digit (digit_glyph false (n % 10))) (list_all is_ascii_digit digits) (glyph_is_digit n) all in
    cond_both (n / 10 == 0) (digit_glyph false (n % 10) ∷ digits) (digits_onto k 10 false (n / 10) (digit_glyph false (n % 10) ∷ digits)) (Passes is_ascii_digit) (λ last. more) (λ other. onto_digits k (n / 10) _ more)

-- a number is written in digits
pub decimal_digits : (n : ℕ) → Passes is_ascii_digit (decimal n)
unfolding digits
decimal_digits n = onto_digits 64 n [] refl

-- a digit may stand in a name
digit_spells : (b : ℕ) → is_ascii_digit b ≡ true → is_spelling_byte b ≡ true
digit_spells b is = grind (arith, nat_tests)

-- so its bytes may stand in a name
pub decimal_spelled : (n : ℕ) → Spelled (decimal n)
decimal_spelled n = passes_weaker is_ascii_digit is_spelling_byte digit_spells (decimal n) (decimal_digits n)

-- and so may those of a number that may be negative, since a minus may
pub signed_spelled : (z : ℤ) → Spelled (signed_decimal z)
signed_spelled (pos n) = decimal_spelled n
signed_spelled (negsuc n) = decimal_spelled (suc n)

-- ---- names

-- where all have names, the name at each place is spelled, or empty past the end
named_at : {X : Type 0} (name : X → List ℕ) (xs : List X) → All (λ x. IsName (name x)) xs → (i : ℕ) → Spelled (slice_index_or (map name xs) i [])
named_at name [] all i = refl
named_at name (x ∷ xs) all zero = list_all-from_AllPass is_spelling_byte (name x) (All-head (λ x. IsName (name x)) x xs all).allowed
named_at name (x ∷ xs) all (suc i) = named_at name xs (All-tail (λ x. IsName (name x)) x xs all) i

-- where no two have one name, a name has one place
place_told : {X : Type 0} (name : X → List ℕ) (xs : List X) → AllPairs (λ a b. name a ≢ name b) xs → (i j : ℕ) → i < length xs → j < length xs → slice_index_or (map name xs) i [] ≡ slice_index_or (map name xs) j [] → i ≡ j
place_told name [] apart i j i< j< same = absurd (omega arith)
place_told name (x ∷ xs) apart i j i< j< same =
    let at_i = get_or-map name (x ∷ xs) i x [] i< in
    let at_j = get_or-map name (x ∷ xs) j x [] j< in
    elim (cases_order i j) [
      | inl equal ↦ equal
      | inr (inl below) ↦ absurd (apart i j x below j< (sym at_i ∙ same ∙ at_j))
      | inr (inr above) ↦ absurd (apart j i x above i< (sym at_j ∙ sym same ∙ at_i))
    ]

-- the same of numbers from 1
name_told : {X : Type 0} (name : X → List ℕ) (xs : List X) → AllPairs (λ a b. name a ≢ name b) xs → (a b : ℕ) → IsOneOf (length xs) a → IsOneOf (length xs) b → slice_index_or (map name xs) (a - 1) [] ≡ slice_index_or (map name xs) (b - 1) [] → a ≡ b
name_told name xs apart a b is_a is_b same =
    let place : a - 1 ≡ b - 1 = place_told name xs apart (a - 1) (b - 1) (omega (arith, is_a.0, is_a.1)) (omega (arith, is_b.0, is_b.1)) same in
    omega (arith, place, is_a.0, is_b.0)

-- what tells the keys and sessions of a script by their names
pub record TellsNames (script : Script) : Type 0 where
  pub keys_named : All (λ key. IsName key.name) script.config.keys
  pub sessions_named : All (λ plan. IsName plan.name) script.sessions
  pub keys_apart : AllPairs (λ key other. key.name ≢ other.name) script.config.keys
  pub sessions_apart : AllPairs (λ plan other. plan.name ≢ other.name) script.sessions
  pub few_workers : script.config.workers ≤ 8

-- a valid script has it
pub tells_names : (script : Script) (table : List (List ℕ)) → IsValidScript script table → TellsNames script
tells_names script table valid = record {
  keys_named = valid.keys_named;
  sessions_named = valid.sessions_named;
  keys_apart = valid.key_names;
  sessions_apart = valid.session_names;
  few_workers = valid.config.workers_most;
}

module _ (script : Script) (names : TellsNames script) where
  -- the name of a session is spelled
  pub session_spelled : (session : ℕ) → Spelled (session_name script session)
  session_spelled session = named_at (λ plan. plan.name) script.sessions names.sessions_named (session - 1)

  -- and so is that of a key
  pub key_spelled : (key : ℕ) → Spelled (key_name script key)
  key_spelled key = named_at (λ place. place.name) script.config.keys names.keys_named (key - 1)

  -- a session is told from its name
  pub session_told : (a b : ℕ) → IsOneOf (length script.sessions) a → IsOneOf (length script.sessions) b → session_name script a ≡ session_name script b → a ≡ b
  session_told a b is_a is_b same = name_told (λ plan. plan.name) script.sessions names.sessions_apart a b is_a is_b same

  -- and so is a key
  pub key_told : (a b : ℕ) → IsOneOf (length script.config.keys) a → IsOneOf (length script.config.keys) b → key_name script a ≡ key_name script b → a ≡ b
  key_told a b is_a is_b same = name_told (λ place. place.name) script.config.keys names.keys_apart a b is_a is_b same
