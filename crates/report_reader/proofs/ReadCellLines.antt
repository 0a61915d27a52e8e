-- Words that are read, and the line that they are cut from.
use Rattle.std.proofs.Common.{◌≡◌, ℕ, Bool, true, false, List, [], ◌∷◌, Option, Some, None, Result, Ok, Err, refl, sym, ap, ◌∙◌}
use Rattle.std.specs.Bool.{IsTrue}
use Rattle.std.specs.List.{All, AllByRecursion, join_with_byte, slice_split}
use Rattle.std.specs.Option.{option_eq}
use Rattle.std.specs.Prelude.{◌==◌, nat_eq}
use Rattle.std.specs.Result.{IfOk}
use Rattle.std.proofs.lemmas.Bool.{both_ways, eqb-true, eq-eqb, ne_eqb}
use Rattle.std.proofs.lemmas.List.Splits.{slice_split_none, slice_split_at, join_with_byte-slice_split}
use Rattle.std.proofs.lemmas.List.Sums.{AllPass-from_list_all}
use Rattle.report_reader.specs.Reads.{Reads}
use Rattle.report_lines.proofs.RenderingLemmas.{Passes, in_word, IsLine}

-- a byte of a word is no space
no_space : (b : ℕ) → in_word b ≡ true → (b == 32) ≡ false
no_space b is = ne_eqb b 32 (λ same. both_ways (in_word b) (ap in_word same) is)

-- and so no byte of one is
no_spaces : (word : List ℕ) → Passes in_word word → All (λ b. (b == 32) ≡ false) word
no_spaces word all k d lt = no_space _ (AllPass-from_list_all in_word word all k d lt)

-- Words with a space between each two are cut apart at the spaces.
split_words : (word : List ℕ) (words : List (List ℕ)) → AllByRecursion (Passes in_word) (word ∷ words) → slice_split (λ b. b == 32) (join_with_byte 32 (word ∷ words)) ≡ word ∷ words
split_words word [] all = slice_split_none (λ b. b == 32) word (no_spaces word all.0)
split_words word (next ∷ words) all =
    slice_split_at (λ b. b == 32) word 32 (join_with_byte 32 (next ∷ words)) (no_spaces word all.0) refl ∙ ap (λ rest. word ∷ rest) (split_words next words all.1)

-- the words of a line
split_line : (words : List (List ℕ)) → IsLine words → slice_split (λ b. b == 32) (join_with_byte 32 words) ≡ words
split_line [] is = absurd is
split_line (word ∷ words) is = split_words word words is

-- What is read of the words of a text is read of the text.
line_read : {X : Type 0} (InForm : X → Type 0) (written : X → List (List ℕ)) → ((x : X) → InForm x → IsLine (written x)) → (text : List ℕ) (words : List (List ℕ)) (result : Option X) → words ≡ slice_split (λ b. b == 32) text → Reads InForm written words result → Reads InForm (λ x. join_with_byte 32 (written x)) text result
line_read InForm written line text words (Some x) cut reads = (reads.0, sym (join_with_byte-slice_split 32 text) ∙ ap (join_with_byte 32) (sym cut ∙ reads.1))
line_read InForm written line text words None cut reads = λ x is same. reads x is (cut ∙ ap (slice_split (λ b. b == 32)) same ∙ split_line (written x) (line x is))

-- the same where memory may run out
pub line_read_if : {X E : Type 0} (InForm : X → Type 0) (written : X → List (List ℕ)) → ((x : X) → InForm x → IsLine (written x)) → (text : List ℕ) (words : List (List ℕ)) (result : Result (Option X) E) → words ≡ slice_split (λ b. b == 32) text → IfOk result (Reads InForm written words) → IfOk result (Reads InForm (λ x. join_with_byte 32 (written x)) text)
line_read_if InForm written line text words (Ok read) cut reads = line_read InForm written line text words read cut reads
line_read_if InForm written line text words (Err fault) cut reads = tt

-- what the test that a number was read says
pub number_read : (InForm : ℕ → Type 0) (written : ℕ → List ℕ) (text : List ℕ) (n : ℕ) (read : Option ℕ) (result : Bool) → InForm n → ((m : ℕ) → InForm m → written m ≡ written n → m ≡ n) → Reads InForm written text read → result ≡ option_eq nat_eq read (Some n) → (IsTrue result → text ≡ written n) × (text ≡ written n → IsTrue result)
number_read InForm written text n (Some m) result is told reads tested = (
  (λ yes. reads.1 ∙ ap written (eqb-true m n (sym tested ∙ yes))),
  (λ same. tested ∙ eq-eqb m n (told m reads.0 (sym reads.1 ∙ same))),
)
number_read InForm written text n None result is told reads tested = (
  (λ yes. absurd (both_ways result tested yes)),
  (λ same. absurd (reads n is same)),
)
