-- Lines with their line feeds: a text that goes on after one, how long lines are, and the front of a text that they are.
use Rattle.std.proofs.Common.{◌≡◌, ℕ, suc, ◌+◌, ◌<◌, Bool, true, false, cond, List, [], ◌∷◌, ◌++◌, map, length, take, refl, ap, ◌∙◌, arith}
use Rattle.std.specs.Str.Lines.{strip_carriage_return}
use Rattle.std.specs.List.{slice_split, onto_first, list_any}
use Rattle.std.proofs.lemmas.List.{length-append, map-append}
use Rattle.std.proofs.lemmas.List.Splits.{slice_split-cons_yes, slice_split-cons_no, length-slice_split}
use Rattle.script_reader.specs.Lines.{is_line_feed, script_lines, without_empty_last}
use Rattle.script_reader.proofs.GrammarLemmas.{none_parts}
use Rattle.script_reader.specs.Split.{is_end_alone, bytes_to_end}
use Rattle.script_reader.proofs.SplitLemmas.{before_lines}

-- the bytes of lines that each end with a line feed
abbrev pub fed : List (List ℕ) → ℕ
fed [] = 0
fed (line ∷ lines) = length line + 1 + fed lines

-- lines and more are as long as both
pub fed_append : (lines more : List (List ℕ)) → fed (lines ++ more) ≡ fed lines + fed more
fed_append [] more = omega arith
fed_append (line ∷ lines) more = omega (arith, fed_append lines more)

-- the place after the first line that says `end` alone, where a line follows it
pub place_at : (before : List (List ℕ)) (line : List ℕ) (after : List (List ℕ)) → list_any is_end_alone before ≡ false → is_end_alone line ≡ true → 0 < length after → bytes_to_end (before ++ line ∷ after) ≡ fed (before ++ line ∷ [])
place_at [] line after none ends some = before_lines line after some ∙ ap (λ ends. length line + 1 + cond ends 0 (bytes_to_end after)) ends
place_at (first ∷ before) line after none ends some =
    let parts : (is_end_alone first ≡ false) × (list_any is_end_alone before ≡ false) = none_parts (is_end_alone first) (list_any is_end_alone before) none in
    before_lines first (before ++ line ∷ after) (omega (arith, length-append before (line ∷ after)))
    ∙ ap (λ ends. length first + 1 + cond ends 0 (bytes_to_end (before ++ line ∷ after))) parts.0
    ∙ ap (λ n. length first + 1 + n) (place_at before line after parts.1 ends some)

-- a byte before lines
onto_append : (b : ℕ) (lines more : List (List ℕ)) → 0 < length lines → onto_first b (lines ++ more) ≡ onto_first b lines ++ more
onto_append b [] more some = absurd (omega arith)
onto_append b (line ∷ lines) more some = refl

-- a byte, which may be a line feed, before lines and more
cut_append : (feed : Bool) (b : ℕ) (lines more : List (List ℕ)) → 0 < length lines → cond feed ([] ∷ lines ++ more) (onto_first b (lines ++ more)) ≡ cond feed ([] ∷ lines) (onto_first b lines) ++ more
cut_append true b lines more some = refl
cut_append false b lines more some = onto_append b lines more some

-- what stands after a line feed is cut by itself
pub split_after : (text more : List ℕ) → slice_split is_line_feed (text ++ 10 ∷ more) ≡ slice_split is_line_feed text ++ slice_split is_line_feed more
split_after [] more = refl
split_after (b ∷ text) more =
    ap (λ lines. cond (is_line_feed b) ([] ∷ lines) (onto_first b lines)) (split_after text more)
    ∙ cut_append (is_line_feed b) b (slice_split is_line_feed text) (slice_split is_line_feed more) (omega (arith, length-slice_split is_line_feed text))

-- a byte more is one more, be it a line feed or not
fed_cut : (feed : Bool) (b : ℕ) (lines : List (List ℕ)) → 0 < length lines → fed (cond feed ([] ∷ lines) (onto_first b lines)) ≡ fed lines + 1
fed_cut feed b [] some = absurd (omega arith)
fed_cut true b (line ∷ lines) some = omega arith
fed_cut false b (line ∷ lines) some = omega arith

-- a text is as long as its lines with a line feed between each two
pub fed_split : (text : List ℕ) → fed (slice_split is_line_feed text) ≡ length text + 1
fed_split [] = refl
fed_split (b ∷ text) = fed_cut (is_line_feed b) b (slice_split is_line_feed text) (omega (arith, length-slice_split is_line_feed text)) ∙ omega (arith, fed_split text)

-- the first lines of a text with one byte more, which may be a line feed
front_cut : (b : ℕ) (text line : List ℕ) (lines more : List (List ℕ)) (feed : Bool) (parts : List (List ℕ)) → 0 < length more → is_line_feed b ≡ feed → slice_split is_line_feed text ≡ parts
    → cond feed ([] ∷ parts) (onto_first b parts) ≡ line ∷ (lines ++ more) → ((lines : List (List ℕ)) → slice_split is_line_feed text ≡ lines ++ more → slice_split is_line_feed (take (fed lines) text) ≡ lines ++ [] ∷ [])
    → slice_split is_line_feed (take (fed (line ∷ lines)) (b ∷ text)) ≡ line ∷ (lines ++ [] ∷ [])
front_cut b text line lines more true parts some is cut same next =
    let empty : [] ≡ line = cc in
    let rest : parts ≡ lines ++ more = cc in
    let long : length line + 1 + fed lines ≡ suc (fed lines) = omega (arith, ap length empty) in
    ap (λ n. slice_split is_line_feed (take n (b ∷ text))) long ∙ slice_split-cons_yes is_line_feed b (take (fed lines) text) is
    ∙ (λ i. empty i ∷ next lines (cut ∙ rest) i)
front_cut b text line lines more false [] some is cut same next =
    let none : [] ≡ lines ++ more = cc in
    absurd (omega (arith, ap length none, length-append lines more))
front_cut b text line lines more false (part ∷ parts) some is cut same next =
    let first : b ∷ part ≡ line = cc in
    let rest : parts ≡ lines ++ more = cc in
    let long : length line + 1 + fed lines ≡ suc (length part + 1 + fed lines) = omega (arith, ap length first) in
    ap (λ n. slice_split is_line_feed (take n (b ∷ text))) long ∙ slice_split-cons_no is_line_feed b (take (fed (part ∷ lines)) text) is
    ∙ ap (onto_first b) (next (part ∷ lines) (cut ∙ ap (λ ps. part ∷ ps) rest)) ∙ ap (λ line. line ∷ (lines ++ [] ∷ [])) first

-- the first lines of a text, with their line feeds, have those lines
pub front_split : (text : List ℕ) (lines more : List (List ℕ)) → 0 < length more → slice_split is_line_feed text ≡ lines ++ more → slice_split is_line_feed (take (fed lines) text) ≡ lines ++ [] ∷ []
front_split text [] more some cut = refl
front_split [] (line ∷ lines) more some cut = absurd (omega (arith, ap length cut, length-append lines more))
front_split (b ∷ text) (line ∷ lines) more some cut = front_cut b text line lines more (is_line_feed b) (slice_split is_line_feed text) some refl refl cut (λ lines. front_split text lines more some)

-- an empty last line is dropped
last_empty : (lines : List (List ℕ)) → without_empty_last (lines ++ [] ∷ []) ≡ lines
last_empty [] = refl
last_empty ([] ∷ []) = refl
last_empty ((b ∷ line) ∷ []) = refl
last_empty (line ∷ next ∷ lines) = ap (λ more. line ∷ more) (last_empty (next ∷ lines))

-- the lines of a script that ends with a line feed
pub lines_fed : (text : List ℕ) (lines : List (List ℕ)) → slice_split is_line_feed text ≡ lines ++ [] ∷ [] → script_lines text ≡ map strip_carriage_return lines
lines_fed text lines cut =
    ap (λ lines. without_empty_last (map strip_carriage_return lines)) cut ∙ ap without_empty_last (map-append strip_carriage_return lines ([] ∷ []))
    ∙ last_empty (map strip_carriage_return lines)
