-- The lines of a script, and what they say.
use Rattle.std.specs.Prelude.{◌≡◌, ℕ, Bool, ◌||◌, ◌==◌, nat_lt, length, if◌then◌else◌, List, [], ◌∷◌, map, slice_index_or, Option, Some, None, filter}
use Rattle.std.specs.List.{slice_split, slice_index, filter_map, list_any}
use Rattle.std.specs.Str.Lines.{strip_carriage_return}
use Rattle.script_reader.specs.Keywords.{keyword_of, is_end}
use Rattle.script_reader.specs.declared.keyword.Keyword.{Keyword}

-- a line feed
abbrev pub is_line_feed : ℕ → Bool
is_line_feed b = b == 10

-- what stands between the line feeds of a text
abbrev pub cut_at_feeds : List ℕ → List (List ℕ)
cut_at_feeds text = slice_split is_line_feed text

-- what stands after the last line feed is a line where it has a byte
abbrev pub without_empty_last : List (List ℕ) → List (List ℕ)
without_empty_last [] = []
without_empty_last ([] ∷ []) = []
without_empty_last ((b ∷ line) ∷ []) = (b ∷ line) ∷ []
without_empty_last (line ∷ next ∷ lines) = line ∷ without_empty_last (next ∷ lines)

-- the lines of a script, which is cut at each line feed; a carriage return at the end of a line belongs to the line's end
abbrev pub script_lines : List ℕ → List (List ℕ)
script_lines text = without_empty_last (map strip_carriage_return (cut_at_feeds text))

-- a space or a tab
abbrev pub is_blank : ℕ → Bool
is_blank b = (b == 32) || (b == 9)

-- the words of a line: what stands between runs of spaces and tabs
abbrev pub words_of : List ℕ → List (List ℕ)
words_of line = filter (λ word. nat_lt 0 (length word)) (slice_split is_blank line)

-- what a line says: its first word as a keyword, and the words after it
pub record Statement : Type 0 where
  pub keyword : Keyword
  pub words : List (List ℕ)

-- the words of a line say nothing where there are none, or the first begins with `#`
abbrev pub statement_in : List (List ℕ) → Option Statement
statement_in [] = None
statement_in (first ∷ words) = if slice_index first 0 == 35 then None else Some (record { keyword = keyword_of first; words = words })

-- the words of a line say this: a first word as a keyword, and the words after it
abbrev pub Says : List (List ℕ) → Keyword → List (List ℕ) → Type 0
Says words keyword later = statement_in words ≡ Some (record { keyword = keyword; words = later })

-- blank lines and comments say nothing
abbrev pub statement_of : List ℕ → Option Statement
statement_of line = statement_in (words_of line)

abbrev pub statements_of : List (List ℕ) → List Statement
statements_of lines = filter_map statement_of lines

-- those of a keyword
abbrev pub those : (Keyword → Bool) → List Statement → List Statement
those test statements = filter (λ statement. test statement.keyword) statements

-- a word of a statement, counted from 0 after the first word
abbrev pub word : ℕ → Statement → List ℕ
word i statement = slice_index_or statement.words i []

abbrev pub is_end_line : Statement → Bool
is_end_line statement = is_end statement.keyword

-- one of the lines is an end line
abbrev pub has_end : List (List ℕ) → Bool
has_end lines = list_any is_end_line (statements_of lines)
