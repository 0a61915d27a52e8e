-- Where an input is split: at the end of its first line, and after it.
use Rattle.std.proofs.Common.{◌≡◌, ℕ, ◌+◌, ◌-◌, ◌<◌, ◌≤◌, Bool, cond, List, [], ◌∷◌, length, take, drop, None, Some, refl, sym, ap, ◌∙◌, subst, arith, Bor, codes}
use Rattle.std.specs.Cmp.Lexicographic.{pointwise}
use Rattle.std.specs.Str.{bytes_eq}
use Rattle.std.specs.List.{slice_split, position, position_or_len}
use Rattle.std.proofs.lemmas.Bool.Decides.{nat_tests}
use Rattle.std.proofs.lemmas.List.{length-take-le, length-drop}
use Rattle.std.proofs.lemmas.List.Splits.{slice_split_none, slice_split_first, length-slice_split}
use Rattle.std.proofs.lemmas.List.Sums.{fails_before_first}
use Rattle.std.proofs.lemmas.Slice.{between_to_end}
use Rattle.script_reader.specs.Lines.{is_line_feed}
use Rattle.script_reader.specs.Split.{are_end_alone, is_end_alone, bytes_to_end, split_place}

-- words are the one word `end` where they equal the list of that word
pub alone : (words : List (List ℕ)) (end : Bor (List ℕ)) → end.now ≡ codes "end" → pointwise (λ x (y : Bor (List ℕ)). bytes_eq x y.now) words (end ∷ []) ≡ are_end_alone words
alone [] end is = refl
alone (word ∷ []) end is = grind arith
alone (word ∷ next ∷ words) end is = grind arith

-- a text without a line feed is one line
pub one_line : (text : List ℕ) → None ≡ position is_line_feed text → slice_split is_line_feed text ≡ text ∷ []
one_line text none =
    let past : length text ≤ position_or_len is_line_feed text = grind (arith, nat_tests) in
    slice_split_none is_line_feed text (λ k d below. fails_before_first is_line_feed text k d (omega arith))

-- a text is cut at its first line feed
pub cut_line : (text : List ℕ) (end : ℕ) → Some end ≡ position is_line_feed text
    → (slice_split is_line_feed text ≡ take end text ∷ slice_split is_line_feed (take (length text - (end + 1)) (drop (end + 1) text)))
    × (length text ≡ length (take end text) + 1 + length (take (length text - (end + 1)) (drop (end + 1) text)))
cut_line text end found =
    let within : end < length text = grind (arith, nat_tests) in
    let place : position_or_len is_line_feed text ≡ end = grind (arith, nat_tests) in
    let cut : slice_split is_line_feed text ≡ take end text ∷ slice_split is_line_feed (drop (end + 1) text) =
    subst (λ (n : ℕ). slice_split is_line_feed text ≡ take n text ∷ slice_split is_line_feed (drop (n + 1) text)) place (slice_split_first is_line_feed text 0 (omega arith)) in
    rw (between_to_end text (end + 1) (length text) (omega arith)) (cut, omega (arith, length-take-le end text, length-drop (end + 1) text))

-- in lines: the place is after the first where it says `end` alone, and else where those after it have it
pub before_lines : (line : List ℕ) (lines : List (List ℕ)) → 0 < length lines → bytes_to_end (line ∷ lines) ≡ length line + 1 + cond (is_end_alone line) 0 (bytes_to_end lines)
before_lines line [] some = absurd (omega arith)
before_lines line (next ∷ lines) some = refl

-- in a text: the same of its first line and what stands after that
pub place_after : (text line rest : List ℕ) (ends : Bool) → slice_split is_line_feed text ≡ line ∷ slice_split is_line_feed rest → ends ≡ is_end_alone line
    → split_place text ≡ length line + 1 + cond ends 0 (split_place rest)
place_after text line rest ends cut says =
    ap bytes_to_end cut ∙ before_lines line (slice_split is_line_feed rest) (omega (arith, length-slice_split is_line_feed rest))
    ∙ ap (λ ends. length line + 1 + cond ends 0 (split_place rest)) (sym says)
