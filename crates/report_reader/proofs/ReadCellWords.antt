-- Words of a line as slices, and their texts.
use Rattle.std.proofs.Common.{◌≡◌, ℕ, ◌<◌, ◌≤◌, ◌-◌, Bool, true, false, not, List, [], ◌∷◌, take, drop, length, get_or, Bor, refl, sym, ap, ◌∙◌, arith}
use Rattle.std.specs.Bool.{IsTrue}
use Rattle.std.specs.Str.{bytes_eq}
use Rattle.script_reader.specs.Words.{texts}
use Rattle.std.proofs.Math.Seq.{take-length}
use Rattle.std.proofs.lemmas.Bool.{not-false}
use Rattle.std.proofs.lemmas.Slice.Eq.{bytes_eq-Decides}

-- the first two of some
pub texts_two : (words : List (Bor (List ℕ))) (d : Bor (List ℕ)) → 2 ≤ length words → texts words ≡ (get_or words 0 d).now ∷ (get_or words 1 d).now ∷ texts (take (length words - 2) (drop 2 words))
texts_two [] d some = absurd (omega arith)
texts_two (a ∷ []) d some = absurd (omega arith)
texts_two (a ∷ b ∷ words) d some =
    let all : length words ≡ length (a ∷ b ∷ words) - 2 = omega arith in
    ap (λ rest. a.now ∷ b.now ∷ texts rest) (sym (take-length words) ∙ ap (λ n. take n words) all)

-- the test that two texts differ fails where they are one
pub same_text : (text other : List ℕ) → not (bytes_eq text other) ≡ false → text ≡ other
same_text text other is = (bytes_eq-Decides text other).0 (not-false (bytes_eq text other) is)

-- where the first is the name, they are named
pub named_some : (words : List (Bor (List ℕ))) (d : Bor (List ℕ)) (name : List ℕ) → 2 ≤ length words → not (bytes_eq (get_or words 0 d).now name) ≡ false → texts words ≡ name ∷ (get_or words 1 d).now ∷ texts (take (length words - 2) (drop 2 words))
named_some words d name some is = texts_two words d some ∙ ap (λ first. first ∷ (get_or words 1 d).now ∷ texts (take (length words - 2) (drop 2 words))) (same_text (get_or words 0 d).now name is)

-- what the test of a text by one that is known says
pub text_tested : (known text other : List ℕ) (result : Bool) → result ≡ bytes_eq known text → known ≡ other → (IsTrue result → text ≡ other) × (text ≡ other → IsTrue result)
text_tested known text other result tested is = (
  (λ yes. sym ((bytes_eq-Decides known text).0 (sym tested ∙ yes)) ∙ is),
  (λ same. tested ∙ (bytes_eq-Decides known text).1 (is ∙ sym same)),
)

-- the test of two texts holds where they are one
pub one_text : (text other : List ℕ) → bytes_eq text other ≡ true → text ≡ other
one_text text other is = (bytes_eq-Decides text other).0 is

-- one word
pub texts_one : (words : List (Bor (List ℕ))) (d : Bor (List ℕ)) → 1 ≤ length words → length words < 2 → texts words ≡ (get_or words 0 d).now ∷ []
texts_one [] d some few = absurd (omega arith)
texts_one (a ∷ []) d some few = refl
texts_one (a ∷ b ∷ words) d some few = absurd (omega arith)

-- two words, of which the first is known
pub texts_pair : (words : List (Bor (List ℕ))) (d : Bor (List ℕ)) (first : List ℕ) → 2 ≤ length words → length words < 3 → (get_or words 0 d).now ≡ first → texts words ≡ first ∷ (get_or words 1 d).now ∷ []
texts_pair [] d first some few is = absurd (omega arith)
texts_pair (a ∷ []) d first some few is = absurd (omega arith)
texts_pair (a ∷ b ∷ []) d first some few is = ap (λ text. text ∷ b.now ∷ []) is
texts_pair (a ∷ b ∷ e ∷ words) d first some few is = absurd (omega arith)

-- three words, of which the second is known
pub texts_three : (words : List (Bor (List ℕ))) (d : Bor (List ℕ)) (second : List ℕ) → 3 ≤ length words → length words < 4 → (get_or words 1 d).now ≡ second → texts words ≡ (get_or words 0 d).now ∷ second ∷ (get_or words 2 d).now ∷ []
texts_three [] d second some few is = absurd (omega arith)
texts_three (a ∷ []) d second some few is = absurd (omega arith)
texts_three (a ∷ b ∷ []) d second some few is = absurd (omega arith)
texts_three (a ∷ b ∷ e ∷ []) d second some few is = ap (λ text. a.now ∷ text ∷ e.now ∷ []) is
texts_three (a ∷ b ∷ e ∷ f ∷ words) d second some few is = absurd (omega arith)

-- no word
pub texts_none : (words : List (Bor (List ℕ))) → length words < 1 → texts words ≡ []
texts_none [] none = refl
texts_none (a ∷ words) none = absurd (omega arith)

-- the first two of some, of which the second is known
pub texts_second : (words : List (Bor (List ℕ))) (d : Bor (List ℕ)) (second : List ℕ) → 2 ≤ length words → (get_or words 1 d).now ≡ second → texts words ≡ (get_or words 0 d).now ∷ second ∷ texts (take (length words - 2) (drop 2 words))
texts_second words d second some is = texts_two words d some ∙ ap (λ text. (get_or words 0 d).now ∷ text ∷ texts (take (length words - 2) (drop 2 words))) is

-- the first two of some, which are known
pub texts_known : (words : List (Bor (List ℕ))) (d : Bor (List ℕ)) (first second : List ℕ) → 2 ≤ length words → (get_or words 0 d).now ≡ first → (get_or words 1 d).now ≡ second → texts words ≡ first ∷ second ∷ texts (take (length words - 2) (drop 2 words))
texts_known words d first second some is_first is_second = texts_second words d second some is_second ∙ ap (λ text. text ∷ second ∷ texts (take (length words - 2) (drop 2 words))) is_first
