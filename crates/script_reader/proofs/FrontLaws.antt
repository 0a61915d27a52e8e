-- What holds after every line of a script: whatever each line that is not at fault leaves so.
use Rattle.std.specs.Prelude.{◌≡◌, ℕ, not, ◌||◌, Bool, false, List, [], ◌∷◌, ◌++◌, Option, Some, None}
use Rattle.std.specs.List.{list_any, list_all, cons_option}
use Rattle.std.proofs.Common.{refl, sym, ap, subst, ◌∙◌, append_assoc}
use Rattle.std.proofs.Math.Bool.{or-false}
use Rattle.std.proofs.lemmas.List.{append-nil}
use Rattle.std.proofs.lemmas.List.Elements.{filter_map-append}
use Rattle.std.proofs.lemmas.List.Folds.{list_any-append}
use Rattle.script_reader.specs.Faults.{Context, context_of, code_of, code_said, is_text_byte}
use Rattle.script_reader.proofs.FaultsLaws.{none_here}
use Rattle.script_reader.specs.Grammar.{AreInOrder}
use Rattle.script_reader.specs.Keywords.{is_end}
use Rattle.script_reader.specs.Lines.{Statement, statement_of, statements_of, is_end_line}
use Rattle.script_reader.specs.Steps.{next_context}
use Rattle.script_reader.proofs.StepsLaws.{context_after}
use Rattle.script_reader.specs.declared.code.Code.TheVariants as codes_of
use Rattle.script_reader.specs.declared.keyword.Keyword.{Keyword}

-- Holds may depend on whether an end is among the lines before. After an end no line with words is read.
module _ (Holds : Bool → Context → Type 0) (step : (context : Context) (keyword : Keyword) (words : List (List ℕ)) → Holds false context → code_of context keyword words ≡ None → Holds (is_end keyword) (next_context context keyword words)) where
  -- it holds after these statements
  abbrev After : List (List ℕ) → List Statement → Type 0
  After named front = Holds (list_any is_end_line front) (context_of named front)

  -- a statement that is not at fault, where no end is before it
  statement_kept : (named : List (List ℕ)) (front : List Statement) (statement : Statement) → After named front → list_any is_end_line front ≡ false → code_of (context_of named front) statement.keyword statement.words ≡ None → After named (front ++ statement ∷ [])
  statement_kept named front statement holds no_end none =
      let stepped = step (context_of named front) statement.keyword statement.words (subst (λ ended. Holds ended (context_of named front)) no_end holds) none in
      let ends = list_any-append is_end_line front (statement ∷ []) ∙ ap (λ earlier. earlier || (is_end statement.keyword || false)) no_end ∙ or-false (is_end statement.keyword) in
      subst (λ ended. Holds ended (context_of named (front ++ statement ∷ []))) (sym ends) (subst (λ context. Holds (is_end statement.keyword) context) (sym (context_after named front statement none)) stepped)

  -- a line that is not at fault
  line_kept : (named : List (List ℕ)) (front : List Statement) (line : List ℕ) (said : Option Statement) → After named front → code_said (context_of named front) (list_any is_end_line front) line said ≡ None → After named (front ++ cons_option said [])
  line_kept named front line None holds none = subst (λ statements. After named statements) (sym (append-nil front)) holds
  line_kept named front line (Some statement) holds none =
      let after_end = none_here (list_any is_end_line front) codes_of.AfterEnd _ none in
      let of_text = none_here (not (list_all is_text_byte line)) codes_of.Byte _ after_end.1 in
      statement_kept named front statement holds after_end.0 of_text.1

  -- lines in order, the first of which are read
  rest_kept : (named lines front rest : List (List ℕ)) → lines ≡ front ++ rest → AreInOrder named lines → After named (statements_of front) → After named (statements_of lines)
  rest_kept named lines front [] same order holds = subst (λ ls. After named (statements_of ls)) (sym (same ∙ append-nil front)) holds
  rest_kept named lines front (line ∷ rest) same order holds =
      let kept = line_kept named (statements_of front) line (statement_of line) holds (order front rest line same) in
      let next = subst (λ statements. After named statements) (sym (filter_map-append statement_of front (line ∷ []))) kept in
      rest_kept named lines (front ++ line ∷ []) rest (same ∙ sym (append_assoc front (line ∷ []) rest)) order next

  -- What holds before the first line, and is left by each that is not at fault, holds after lines in order.
  pub holds_after : (named lines : List (List ℕ)) → Holds false (context_of named []) → AreInOrder named lines → Holds (list_any is_end_line (statements_of lines)) (context_of named (statements_of lines))
  holds_after named lines start order = rest_kept named lines [] lines refl order start
