-- Texts cut at a byte, and numbers, names and workers read.
use Rattle.std.specs.Prelude.{◌==◌, ◌||◌}
use Rattle.std.proofs.Common.{◌≡◌, ℕ, ◌+◌, ◌-◌, ◌<◌, ◌≤◌, ◌^◌, Bool, true, false, cond, List, [], ◌∷◌, ◌++◌, map, take, drop, length, get_or, Option, None, Some, Result, Ok, sym, ap, refl, subst, ◌∙◌, arith}
use Rattle.std.specs.Fmt.{decimal}
use Rattle.std.specs.List.{AllWithin, HoldsAt, list_any, position, position_from}
use Rattle.std.specs.Str.{IsUtf8}
use Rattle.std.specs.Str.Parse.{ParsesUnsigned}
use Rattle.std.proofs.lemmas.Bool.Decides.{nat_tests}
use Rattle.std.proofs.lemmas.Fmt.{IsAscii-decimal, parse-decimal, decimal_injective}
use Rattle.std.proofs.lemmas.Iterator.Adapters.{position_from-zero}
use Rattle.std.proofs.lemmas.List.{take-append-drop, drop_more, take_rest, length-take-le, get_or-take, get_or-map}
use Rattle.std.proofs.lemmas.List.Folds.{list_any_none}
use Rattle.std.proofs.lemmas.List.Quantifiers.{position-Some}
use Rattle.std.proofs.lemmas.Str.{IsUtf8-from_ascii}
use Rattle.placement.specs.Config.{IsOneOf}
use Rattle.report_lines.specs.Text.{worker_word}

-- where the first does not pass, and there is no first place in the rest
none_first : (passes : Bool) (i : ℕ) (first : Option ℕ) (rest : Bool) → (first ≡ None → rest ≡ false) → cond passes (Some i) first ≡ None → (passes || rest) ≡ false
none_first true i first rest none same = absurd cc
none_first false i first rest none same = none same

none_from : {X : Type 0} (p : X → Bool) (i : ℕ) (xs : List X) → position_from p i xs ≡ None → list_any p xs ≡ false
none_from p i [] same = refl
none_from p i (x ∷ xs) same = none_first (p x) i (position_from p (i + 1) xs) (list_any p xs) (none_from p (i + 1) xs) same

-- where there is no first place, none passes
pub no_position : {X : Type 0} (p : X → Bool) (xs : List X) → position p xs ≡ None → list_any p xs ≡ false
no_position p xs none = none_from p 0 xs (sym (position_from-zero p xs) ∙ none)

-- none passes before the first place
none_before : {X : Type 0} (p : X → Bool) (xs : List X) (at : ℕ) → at < length xs → ((k : ℕ) (d : X) → k < at → p (get_or xs k d) ≡ false) → list_any p (take at xs) ≡ false
none_before p xs at within before =
    let long : length (take at xs) ≡ at = length-take-le at xs (omega arith) in
    list_any_none p (take at xs) (λ k d lt. let low : k < at = omega arith in ap p (get_or-take at xs k d low) ∙ before k d low)

-- the first place of a byte cuts the text
pub cut_first : (byte : ℕ) (text : List ℕ) (at : ℕ) → position (λ b. b == byte) text ≡ Some at
    → (text ≡ take at text ++ byte ∷ take (length text - (at + 1)) (drop (at + 1) text)) × (list_any (λ b. b == byte) (take at text) ≡ false)
cut_first byte text at found =
    let is = position-Some (λ b. b == byte) text at 0 found in
    let same : get_or text at 0 ≡ byte = let h = is.1 in grind (arith, nat_tests) in
    let later : drop at text ≡ byte ∷ take (length text - (at + 1)) (drop (at + 1) text) =
    drop_more text at 0 is.0 ∙ ap (λ b. b ∷ drop (at + 1) text) same ∙ ap (λ rest. byte ∷ rest) (sym (take_rest text (at + 1))) in (
      sym (take-append-drop at text) ∙ ap (λ rest. take at text ++ rest) later,
      none_before (λ b. b == byte) text at is.0 (λ k d lt. (position-Some (λ b. b == byte) text at d found).2 k lt),
    )

-- ---- numbers

-- a number is written in ASCII
pub decimal_is_text : (n : ℕ) (text : List ℕ) → n < 2 ^ 64 → text ≡ decimal n → IsUtf8 text
decimal_is_text n text small same = subst IsUtf8 (sym same) (IsUtf8-from_ascii (decimal n) (IsAscii-decimal n small))

-- what is parsed of a number is the number
pub decimal_parsed : {E : Type 0} (n : ℕ) (text word : List ℕ) (result : Result ℕ E) → n < 2 ^ 64 → text ≡ decimal n → word ≡ text → ParsesUnsigned 64 10 word result → result ≡ Ok n
decimal_parsed n text word result small same read parses = parse-decimal 64 n word result small small (read ∙ same) parses

-- only one number is written so
pub number_told : (n other : ℕ) (text : List ℕ) → n < 2 ^ 64 → other < 2 ^ 64 → text ≡ decimal n → text ≡ decimal other → n ≡ other
number_told n other text small other_small same other_same = decimal_injective n other small other_small (sym same ∙ other_same)

-- what the digits of a worker say
pub worker_told : (workers worker n : ℕ) (text : List ℕ) → workers ≤ 8 → IsOneOf workers worker → text ≡ worker_word worker → n < 2 ^ 64 → take (length text - 1) (drop 1 text) ≡ decimal n → n ≡ worker
worker_told workers worker n text few is same small read =
    let digits : take (length text - 1) (drop 1 text) ≡ decimal worker = ap (λ t. take (length t - 1) (drop 1 t)) same ∙ take_rest (64 ∷ decimal worker) 1 in
    number_told n worker (take (length text - 1) (drop 1 text)) small (omega (arith, is.1)) read digits

-- ---- names

-- the name of the item at a place
name_at : {X : Type 0} (name : X → List ℕ) (xs : List X) (i : ℕ) (P : List ℕ → Type 0) → i < length xs → ((d : X) → P (name (get_or xs i d))) → P (get_or (map name xs) i [])
name_at name [] i P within holds = absurd (omega arith)
name_at name (x ∷ xs) i P within holds = subst P (sym (get_or-map name (x ∷ xs) i x [] within)) (holds x)

-- a text that no item has as its name is the name of no number
pub no_name : {X : Type 0} (name : X → List ℕ) (xs : List X) (text : List ℕ) → AllWithin (λ x. name x ≡ text → ⊥) xs 0 (length xs) → (n : ℕ) → IsOneOf (length xs) n → text ≡ get_or (map name xs) (n - 1) [] → ⊥
no_name name xs text none n is same =
    let within : n - 1 < length xs = omega (arith, is.0, is.1) in
    name_at name xs (n - 1) (λ t. text ≡ t → ⊥) within (λ d equal. none (n - 1) d (omega arith) within (sym equal)) same

-- an item has the name of its number
pub name_found : {X : Type 0} (name : X → List ℕ) (xs : List X) (text : List ℕ) (place : ℕ) → place < length xs → HoldsAt (λ x. name x ≡ text) xs place → IsOneOf (length xs) (place + 1) × (text ≡ get_or (map name xs) (place + 1 - 1) [])
name_found name xs text place within is =
    let back : place + 1 - 1 ≡ place = omega arith in
    ((omega arith, omega arith), rw back (name_at name xs place (λ t. text ≡ t) within (λ d. sym (is d))))
