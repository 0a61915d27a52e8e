-- Where the script ends in a text that goes on after it.
use Rattle.std.specs.Prelude.{◌≡◌, ℕ, ◌+◌, Bool, false, List, [], ◌∷◌, ◌++◌, length, take, codes, IsTrue, if◌then◌else◌}
use Rattle.std.specs.Str.{bytes_eq}
use Rattle.std.specs.Str.Lines.{strip_carriage_return}
use Rattle.script_reader.specs.Lines.{cut_at_feeds, words_of}

-- these are the one word `end`
abbrev pub are_end_alone : List (List ℕ) → Bool
are_end_alone (word ∷ []) = bytes_eq word (codes "end")
are_end_alone words = false

-- the only word of the line is `end`
abbrev pub is_end_alone : List ℕ → Bool
is_end_alone line = are_end_alone (words_of (strip_carriage_return line))

-- of lines that each but the last end with a line feed: how many bytes stand up to the end of the first whose only word is `end`, all
-- of them where there is none
abbrev pub bytes_to_end : List (List ℕ) → ℕ
bytes_to_end [] = 0
bytes_to_end (line ∷ []) = length line
bytes_to_end (line ∷ next ∷ lines) = length line + 1 + (if is_end_alone line then 0 else bytes_to_end (next ∷ lines))

-- the place after the line end of the first line whose only word is `end`, and after all of the text where there is none
abbrev pub split_place : List ℕ → ℕ
split_place text = bytes_to_end (cut_at_feeds text)

-- what stands before that place: the script of an input
abbrev pub script_part : List ℕ → List ℕ
script_part text = take (split_place text) text

-- the text with a line feed after it
abbrev pub with_feed : List ℕ → List ℕ
with_feed text = text ++ 10 ∷ []

-- the only word of the text's last line is `end`
abbrev pub EndsAlone : List ℕ → Type 0
EndsAlone text = (lines : List (List ℕ)) × (last : List ℕ) × (cut_at_feeds text ≡ lines ++ last ∷ []) × IsTrue (is_end_alone last)

-- the first line of a text, which ends with a line feed, and what stands after that
abbrev pub IsFirstLine : List ℕ → List ℕ → List ℕ → Type 0
IsFirstLine text line after = (cut_at_feeds text ≡ line ∷ cut_at_feeds after) × (length text ≡ length line + 1 + length after)
