-- Where a script ends: at its first line whose only word is `end`, after which no line says anything.
use Rattle.std.proofs.Common.{◌≡◌, ◌⊎◌, ℕ, ◌+◌, ◌<◌, ◌≤◌, ◌==◌, ◌||◌, Bool, true, false, cond, List, [], ◌∷◌, ◌++◌, map, length, take, codes, Option, Some, None, is_some, refl, sym, ap, ◌∙◌, subst, inl, inr, append_assoc, arith}
use Rattle.std.specs.List.{before_first, slice_split, slice_index, list_any, cons_option}
use Rattle.std.specs.Str.{bytes_eq}
use Rattle.std.specs.Str.Lines.{strip_carriage_return}
use Rattle.std.proofs.lemmas.Bool.{true≢false}
use Rattle.std.proofs.lemmas.Bool.Decides.{nat_tests}
use Rattle.std.proofs.lemmas.List.{append-nil, length-append, length-take, map-append}
use Rattle.std.proofs.lemmas.List.Elements.{filter_map-append}
use Rattle.std.proofs.lemmas.List.Splits.{length-slice_split}
use Rattle.std.proofs.lemmas.Slice.Eq.{bytes_eq-Decides}
use Rattle.session_known.specs.declared.script.Script.{Script}
use Rattle.script_reader.specs.Faults.{Context, context_of, code_of, code_said, code_after}
use Rattle.script_reader.proofs.FaultsLaws.{word_fine}
use Rattle.script_reader.specs.Grammar.{AreInOrder, IsScript, sessions_named}
use Rattle.script_reader.specs.Keywords.{keyword_of, is_end}
use Rattle.script_reader.specs.LineReads.{says_end}
use Rattle.script_reader.specs.Lines.{Statement, is_line_feed, script_lines, words_of, statement_in, statement_of, statements_of, is_end_line, has_end}
use Rattle.script_reader.specs.Said.{named_in, script_said}
use Rattle.script_reader.specs.Split.{are_end_alone, is_end_alone, bytes_to_end, split_place}
use Rattle.script_reader.specs.declared.keyword.Keyword.{Keyword}
use Rattle.script_reader.specs.declared.keyword.Keyword.TheVariants.{End}
use Rattle.script_reader.proofs.FedLemmas.{fed, fed_append, place_at, split_after, fed_split, front_split, lines_fed}
use Rattle.script_reader.proofs.GrammarLemmas.{end_push, said_fine, statements_push}

-- ---- what an end line says

-- another word than `end` is another keyword
other_word : (word : List ℕ) → bytes_eq word (codes "end") ≡ false → is_end (keyword_of word) ≡ false
other_word word is = grind arith

-- a word is the keyword `end` where it spells it
end_said : (word : List ℕ) (test : Bool) → bytes_eq word (codes "end") ≡ test → is_end (keyword_of word) ≡ test
end_said word true is = ap (λ word. is_end (keyword_of word)) ((bytes_eq-Decides word (codes "end")).0 is)
end_said word false is = other_word word is

-- an end line without a fault has no word after `end`
end_words : (context : Context) (keyword : Keyword) (next : List ℕ) (words : List (List ℕ)) → code_of context keyword (next ∷ words) ≡ None → is_end keyword ≡ false
end_words context End next words fine = let word = word_fine context End (next ∷ words) fine in grind (arith, word)
end_words context keyword next words fine = refl

-- a word that begins with `#` is not `end`
no_comment : (first : List ℕ) → (slice_index first 0 == 35) ≡ true → bytes_eq first (codes "end") ≡ false
no_comment [] is = refl
no_comment (b ∷ first) is = grind (arith, nat_tests)

-- the first word of a line and those after it say the end where they are `end` alone
said_alone : (context : Context) (line first : List ℕ) (words : List (List ℕ)) (comment : Bool) → (slice_index first 0 == 35) ≡ comment
    → code_said context false line (cond comment None (Some (record { keyword = keyword_of first; words = words }))) ≡ None
    → says_end (cond comment None (Some (record { keyword = keyword_of first; words = words }))) ≡ are_end_alone (first ∷ words)
said_alone context line first [] true is fine = sym (no_comment first is)
said_alone context line first (next ∷ words) true is fine = refl
said_alone context line first [] false is fine = end_said first (bytes_eq first (codes "end")) refl
said_alone context line first (next ∷ words) false is fine =
    end_words context (keyword_of first) next words (said_fine context false line (record { keyword = keyword_of first; words = next ∷ words }) fine).1

-- the words of a line say the end where they are `end` alone
words_alone : (context : Context) (line : List ℕ) (words : List (List ℕ)) → code_said context false line (statement_in words) ≡ None → says_end (statement_in words) ≡ are_end_alone words
words_alone context line [] fine = refl
words_alone context line (first ∷ words) fine = said_alone context line first words (slice_index first 0 == 35) refl fine

-- a line that is not at fault, with no end before it, is an end line where its only word is `end`
line_alone : (named before : List (List ℕ)) (line : List ℕ) → has_end before ≡ false → code_after named before line ≡ None → says_end (statement_of line) ≡ are_end_alone (words_of line)
line_alone named before line none fine =
    words_alone (context_of named (statements_of before)) line (words_of line) (subst (λ ended. code_said (context_of named (statements_of before)) ended line (statement_of line) ≡ None) none fine)

-- the word `end` says something
end_says : (word : List ℕ) → bytes_eq word (codes "end") ≡ true → is_some (statement_in (word ∷ [])) ≡ true
end_says word is = ap (λ word. is_some (statement_in (word ∷ []))) ((bytes_eq-Decides word (codes "end")).0 is)

-- a line whose only word is `end` says something
alone_says : (words : List (List ℕ)) → are_end_alone words ≡ true → is_some (statement_in words) ≡ true
alone_says [] is = absurd cc
alone_says (word ∷ []) is = end_says word is
alone_says (word ∷ next ∷ words) is = absurd cc

-- ---- lines in order, and their end

-- after an end, a line that is not at fault says nothing
silent_line : (context : Context) (line : List ℕ) (said : Option Statement) → code_said context true line said ≡ None → said ≡ None
silent_line context line None fine = refl
silent_line context line (Some statement) fine = absurd cc

-- after an end, lines in order say nothing
pub silent_after : (named front rest : List (List ℕ)) → AreInOrder named (front ++ rest) → has_end front ≡ true → statements_of rest ≡ []
silent_after named front [] order ended = refl
silent_after named front (line ∷ rest) order ended =
    let context : Context = context_of named (statements_of front) in
    let none : statement_of line ≡ None = silent_line context line (statement_of line) (subst (λ ended. code_said context ended line (statement_of line) ≡ None) ended (order front rest line refl)) in
    ap (λ said. cons_option said (statements_of rest)) none
    ∙ silent_after named (front ++ line ∷ []) rest (subst (AreInOrder named) (sym (append_assoc front (line ∷ []) rest)) order) (end_push front line ∙ ap (λ ended. ended || says_end (statement_of line)) ended)

-- The first of the lines whose only word is `end`, after which no line says anything.
pub record HasEndAlone (lines : List (List ℕ)) : Type 0 where
  pub before : List (List ℕ)
  pub end : List ℕ
  pub after : List (List ℕ)
  pub place : lines ≡ before ++ end ∷ after
  pub none : list_any is_end_alone before ≡ false
  pub ends : is_end_alone end ≡ true
  pub silent : statements_of (map strip_carriage_return after) ≡ []

-- a line that is the end, or is before it
end_here : (named front : List (List ℕ)) (line : List ℕ) (lines : List (List ℕ)) (ends : Bool) → is_end_alone line ≡ ends
    → AreInOrder named ((front ++ strip_carriage_return line ∷ []) ++ map strip_carriage_return lines) → has_end (front ++ strip_carriage_return line ∷ []) ≡ ends
    → (has_end (front ++ strip_carriage_return line ∷ []) ≡ false → HasEndAlone lines) → HasEndAlone (line ∷ lines)
end_here named front line lines true is order ended next = record {
  before = [];
  end = line;
  after = lines;
  place = refl;
  none = refl;
  ends = is;
  silent = silent_after named (front ++ strip_carriage_return line ∷ []) (map strip_carriage_return lines) order ended;
}
end_here named front line lines false is order ended next =
    let at : HasEndAlone lines = next ended in
    record {
      before = line ∷ at.before;
      end = at.end;
      after = at.after;
      place = ap (λ lines. line ∷ lines) at.place;
      none = ap (λ here. here || list_any is_end_alone at.before) is ∙ at.none;
      ends = at.ends;
      silent = at.silent;
    }

-- lines in order that have an end
end_after : (named front lines : List (List ℕ)) → AreInOrder named (front ++ map strip_carriage_return lines) → has_end front ≡ false → has_end (front ++ map strip_carriage_return lines) ≡ true → HasEndAlone lines
end_after named front [] order none some = absurd (true≢false (sym some ∙ ap has_end (append-nil front) ∙ none))
end_after named front (line ∷ lines) order none some =
    let stripped : List ℕ = strip_carriage_return line in
    let rest : List (List ℕ) = map strip_carriage_return lines in
    let moved : (front ++ stripped ∷ []) ++ rest ≡ front ++ stripped ∷ rest = append_assoc front (stripped ∷ []) rest in
    let order_moved : AreInOrder named ((front ++ stripped ∷ []) ++ rest) = subst (AreInOrder named) (sym moved) order in
    let ended : has_end (front ++ stripped ∷ []) ≡ is_end_alone line =
    end_push front stripped ∙ ap (λ ended. ended || says_end (statement_of stripped)) none ∙ line_alone named front stripped none (order front rest stripped refl) in
    end_here named front line lines (is_end_alone line) refl order_moved ended (λ none. end_after named (front ++ stripped ∷ []) lines order_moved none (ap has_end moved ∙ some))

-- ---- a script that ends with a line feed

-- the lines of the script
lines_of_script : (text : List ℕ) → script_lines (text ++ 10 ∷ []) ≡ map strip_carriage_return (slice_split is_line_feed text)
lines_of_script text = lines_fed (text ++ 10 ∷ []) (slice_split is_line_feed text) (split_after text [])

-- they have an end
end_of_script : (text : List ℕ) (script : Script) → IsScript (text ++ 10 ∷ []) script → HasEndAlone (slice_split is_line_feed text)
end_of_script text script is =
    end_after (sessions_named (script_lines (text ++ 10 ∷ []))) [] (slice_split is_line_feed text)
    (subst (AreInOrder (sessions_named (script_lines (text ++ 10 ∷ [])))) (lines_of_script text) is.lines.in_order) refl (ap has_end (sym (lines_of_script text)) ∙ is.lines.ended)

-- the lines of an input that begins with it
cut_after : (text more : List ℕ) (at : HasEndAlone (slice_split is_line_feed text)) → slice_split is_line_feed (text ++ 10 ∷ more) ≡ at.before ++ at.end ∷ (at.after ++ slice_split is_line_feed more)
cut_after text more at = split_after text more ∙ ap (λ lines. lines ++ slice_split is_line_feed more) at.place ∙ append_assoc at.before (at.end ∷ at.after) (slice_split is_line_feed more)

-- lines follow its end
some_after : (text more : List ℕ) (at : HasEndAlone (slice_split is_line_feed text)) → 0 < length (at.after ++ slice_split is_line_feed more)
some_after text more at = omega (arith, length-append at.after (slice_split is_line_feed more), length-slice_split is_line_feed more)

-- it is split after its end, whatever follows
place_after_end : (text more : List ℕ) (at : HasEndAlone (slice_split is_line_feed text)) → split_place (text ++ 10 ∷ more) ≡ fed (at.before ++ at.end ∷ [])
place_after_end text more at =
    ap bytes_to_end (cut_after text more at) ∙ place_at at.before at.end (at.after ++ slice_split is_line_feed more) at.none at.ends (some_after text more at)

-- at the same place as by itself
pub same_place : (text more : List ℕ) (script : Script) → IsScript (text ++ 10 ∷ []) script → split_place (text ++ 10 ∷ more) ≡ split_place (text ++ 10 ∷ [])
same_place text more script is =
    let at = end_of_script text script is in
    place_after_end text more at ∙ sym (place_after_end text [] at)

-- where a list with a last element is cut, nothing is after the cut, or the last
last_after : {A : Type 0} (xs : List A) (last : A) (ys : List A) (y : A) (zs : List A) → xs ++ last ∷ [] ≡ ys ++ y ∷ zs → (zs ≡ []) ⊎ ((between : List A) × (zs ≡ between ++ last ∷ []))
last_after [] last [] y zs e = inl cc
last_after [] last (z ∷ ys) y zs e = let none : [] ≡ ys ++ y ∷ zs = cc in absurd (omega (arith, ap length none, length-append ys (y ∷ zs)))
last_after (x ∷ xs) last [] y zs e = inr (xs, cc)
last_after (x ∷ xs) last (z ∷ ys) y zs e = last_after xs last ys y zs cc

-- statements and one more are some
no_last : (statements : List Statement) (said : Option Statement) → is_some said ≡ true → statements ++ cons_option said [] ≡ [] → ⊥
no_last statements None is none = absurd cc
no_last statements (Some statement) is none = absurd (omega (arith, ap length none, length-append statements (statement ∷ [])))

-- lines that say nothing do not end with an end line
silent_last : (between : List (List ℕ)) (last : List ℕ) → is_end_alone last ≡ true → statements_of (map strip_carriage_return (between ++ last ∷ [])) ≡ [] → ⊥
silent_last between last ends silent =
    let stripped : List ℕ = strip_carriage_return last in
    let none : statements_of (map strip_carriage_return between) ++ cons_option (statement_of stripped) [] ≡ [] =
    sym (statements_push (map strip_carriage_return between) stripped) ∙ ap statements_of (sym (map-append strip_carriage_return between (last ∷ []))) ∙ silent in
    no_last (statements_of (map strip_carriage_return between)) (statement_of stripped) (alone_says (words_of stripped) ends) none

-- whole, where its last line is its end
pub split_whole : (text more : List ℕ) (script : Script) (lines : List (List ℕ)) (last : List ℕ) → IsScript (text ++ 10 ∷ []) script → slice_split is_line_feed text ≡ lines ++ last ∷ [] → is_end_alone last ≡ true → split_place (text ++ 10 ∷ more) ≡ length text + 1
split_whole text more script lines last is cut ends =
    let at : HasEndAlone (slice_split is_line_feed text) = end_of_script text script is in
    elim (last_after lines last at.before at.end at.after (sym cut ∙ at.place)) as (λ _. split_place (text ++ 10 ∷ more) ≡ length text + 1) [
      | inl none ↦ place_after_end text more at ∙ ap (λ after. fed (at.before ++ at.end ∷ after)) (sym none) ∙ ap fed (sym at.place) ∙ fed_split text
      | inr (between, after) ↦ absurd (silent_last between last ends (ap (λ after. statements_of (map strip_carriage_return after)) (sym after) ∙ at.silent))
    ]

-- a front of a script after which no line says anything is that script
front_is_script : (text front : List ℕ) (script : Script) (rest : List (List ℕ)) → script_lines text ≡ script_lines front ++ rest → statements_of rest ≡ [] → length front ≤ length text → IsScript text script → IsScript front script
front_is_script text front script rest lines silent short is =
    let same : statements_of (script_lines text) ≡ statements_of (script_lines front) =
    ap statements_of lines ∙ filter_map-append statement_of (script_lines front) rest ∙ ap (λ others. statements_of (script_lines front) ++ others) silent ∙ append-nil (statements_of (script_lines front)) in
    let named : sessions_named (script_lines text) ≡ sessions_named (script_lines front) = ap (λ statements. named_in (before_first is_end_line statements)) same in
    record {
      short = omega (arith, is.short);
      lines = record {
        in_order = λ before after line e. subst (λ names. code_after names before line ≡ None) named
            (is.lines.in_order before (after ++ rest) line (lines ∙ ap (λ lines. lines ++ rest) e ∙ append_assoc before (line ∷ after) rest));
        ended = ap (list_any is_end_line) (sym same) ∙ is.lines.ended;
        says = is.lines.says ∙ (λ i. script_said (named i) (same i));
      };
    }

-- what is split off is the script
pub split_script : (text more : List ℕ) (script : Script) → IsScript (text ++ 10 ∷ []) script → IsScript (take (split_place (text ++ 10 ∷ more)) (text ++ 10 ∷ more)) script
split_script text more script is =
    let at : HasEndAlone (slice_split is_line_feed text) = end_of_script text script is in
    let ending : List (List ℕ) = at.before ++ at.end ∷ [] in
    let front : List ℕ = take (fed ending) (text ++ 10 ∷ more) in
    let whole : slice_split is_line_feed text ≡ ending ++ at.after = at.place ∙ sym (append_assoc at.before (at.end ∷ []) at.after) in
    let cut : slice_split is_line_feed (text ++ 10 ∷ more) ≡ ending ++ (at.after ++ slice_split is_line_feed more) =
    cut_after text more at ∙ sym (append_assoc at.before (at.end ∷ []) (at.after ++ slice_split is_line_feed more)) in
    let front_lines : script_lines front ≡ map strip_carriage_return ending = lines_fed front ending (front_split (text ++ 10 ∷ more) ending (at.after ++ slice_split is_line_feed more) (some_after text more at) cut) in
    let lines : script_lines (text ++ 10 ∷ []) ≡ script_lines front ++ map strip_carriage_return at.after =
    lines_of_script text ∙ ap (map strip_carriage_return) whole ∙ map-append strip_carriage_return ending at.after ∙ ap (λ lines. lines ++ map strip_carriage_return at.after) (sym front_lines) in
    let short : length front ≤ length (text ++ 10 ∷ []) = omega (arith, length-take (fed ending) (text ++ 10 ∷ more), fed_append ending at.after, fed_split text, ap fed whole, length-append text (10 ∷ [])) in
    subst (λ n. IsScript (take n (text ++ 10 ∷ more)) script) (sym (place_after_end text more at)) (front_is_script (text ++ 10 ∷ []) front script (map strip_carriage_return at.after) lines at.silent short is)
