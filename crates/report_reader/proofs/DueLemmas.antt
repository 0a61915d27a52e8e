-- Lines that are due, read one after another: what stands where one is out of form.
use Rattle.std.specs.Prelude.{◌≡◌, ℕ, zero, suc, ◌+◌, ◌≤◌, List, [], ◌∷◌, ◌++◌, take, length, ⊤}
use Rattle.std.specs.List.{AllZip, AllByRecursion, flat_map}
use Rattle.std.proofs.Common.{refl, sym, subst, ◌∙◌, arith}
use Rattle.std.proofs.lemmas.List.{append_assoc}
use Rattle.session_known.specs.declared.script.Script.{Script}
use Rattle.report_lines.proofs.LinesLemmas.{answer_line, final_line}
use Rattle.report_lines.proofs.NamesLemmas.{TellsNames}
use Rattle.report_reader.specs.ReadLines.{Due, Exactly, Answered, FinalOf, IsDue, IsLineRead, AreLinesRead, IsOutAt}
use Rattle.report_lines.proofs.RenderingLemmas.{IsLine, line_tells}
use Rattle.report_lines.specs.Text.{line_text}

-- words that are due exactly are those of a line
abbrev pub HasWords : Due → Type 0
HasWords (Exactly words) = IsLine words
HasWords due = ⊤

module _ (script : Script) (names : TellsNames script) where
  -- a line that is due has words
  pub due_line : (due : Due) (words : List (List ℕ)) → HasWords due → IsDue script due words → IsLine words
  due_line (Exactly exact) words has is = subst IsLine (sym is) has
  due_line (Answered level line) words has (answer, fits, same) = subst IsLine (sym same) (answer_line script names level line answer fits)
  due_line (FinalOf key worker) words has (cell, is, same) = subst IsLine (sym same) (final_line script names cell is.in_form)

  -- what stands after a line that is due is told
  later_told : (due : Due) (bytes us vs : List ℕ) → HasWords due → IsLineRead script due bytes us → IsLineRead script due bytes vs → us ≡ vs
  later_told due bytes us vs has a b =
      (line_tells a.words b.words us vs (due_line due a.words has a.is_due) (due_line due b.words has b.is_due) (sym a.begin ∙ b.begin)).1

  -- and so is what stands after lines that are due
  pub rest_told : (dues : List Due) (bytes us vs : List ℕ) → AllByRecursion HasWords dues → AreLinesRead script dues bytes us → AreLinesRead script dues bytes vs → us ≡ vs
  rest_told [] bytes us vs all a b = sym a ∙ b
  rest_told (due ∷ dues) bytes us vs all (later, line, lines) (other, other_line, other_lines) =
      let same = later_told due bytes later other all.0 line other_line in
      rest_told dues other us vs all.1 (subst (λ bytes. AreLinesRead script dues bytes us) same lines) other_lines

  -- Where one is out of form, they were not read with it.
  pub out_excludes : (dues : List Due) (place : ℕ) (bytes rest : List ℕ) → AllByRecursion HasWords dues → IsOutAt script dues place bytes → AreLinesRead script (take (suc place) dues) bytes rest → ⊥
  out_excludes [] place bytes rest all out are = absurd out
  out_excludes (due ∷ dues) zero bytes rest all out are = out are.0 are.1
  out_excludes (due ∷ dues) (suc place) bytes rest all (later, line, out) (other, other_line, are) =
      let same = later_told due bytes later other all.0 line other_line in
      out_excludes dues place other rest all.1 (subst (IsOutAt script dues place) same out) are

  -- Nor were they read to the last.
  pub out_whole : (dues : List Due) (place : ℕ) (bytes rest : List ℕ) → AllByRecursion HasWords dues → IsOutAt script dues place bytes → AreLinesRead script dues bytes rest → ⊥
  out_whole [] place bytes rest all out are = absurd out
  out_whole (due ∷ dues) zero bytes rest all out are = out are.0 are.1
  out_whole (due ∷ dues) (suc place) bytes rest all (later, line, out) (other, other_line, are) =
      let same = later_told due bytes later other all.0 line other_line in
      out_whole dues place other rest all.1 (subst (IsOutAt script dues place) same out) are

-- ---- one part of what is due after another

-- where one of the first part is out of form
pub out_before : (script : Script) (dues others : List Due) (place : ℕ) (bytes : List ℕ) → IsOutAt script dues place bytes → IsOutAt script (dues ++ others) place bytes
out_before script [] others place bytes out = absurd out
out_before script (due ∷ dues) others zero bytes out = out
out_before script (due ∷ dues) others (suc place) bytes (next, line, out) = (next, line, out_before script dues others place next out)

-- where one is out of form after a line that was read
out_later : (script : Script) (due : Due) (dues : List Due) (place : ℕ) (bytes next : List ℕ) → IsLineRead script due bytes next → IsOutAt script dues place next → IsOutAt script (due ∷ dues) (suc place) bytes
out_later script due dues place bytes next line out = (next, line, out)

-- where one of the second part is
pub out_after : (script : Script) (dues others : List Due) (place : ℕ) (bytes later : List ℕ) → AreLinesRead script dues bytes later → IsOutAt script others place later → IsOutAt script (dues ++ others) (length dues + place) bytes
out_after script [] others place bytes later are out =
    let same : place ≡ length {A = Due} [] + place = omega arith in
    subst (λ place. IsOutAt script others place bytes) same (subst (IsOutAt script others place) (sym are) out)
out_after script (due ∷ dues) others place bytes later (next, line, are) out =
    let same : suc (length dues + place) ≡ length (due ∷ dues) + place = omega arith in
    subst (λ place. IsOutAt script ((due ∷ dues) ++ others) place bytes) same (out_later script due (dues ++ others) (length dues + place) bytes next line (out_after script dues others place next later are out))

-- the lines before one that is out of form were read
pub read_before : (script : Script) (dues : List Due) (place : ℕ) (bytes : List ℕ) → IsOutAt script dues place bytes → (rest : List ℕ) × (suc place ≤ length dues) × AreLinesRead script (take place dues) bytes rest
read_before script [] place bytes out = absurd out
read_before script (due ∷ dues) zero bytes out = (bytes, omega arith, refl)
read_before script (due ∷ dues) (suc place) bytes (next, line, out) =
    let rest = read_before script dues place next out in
    (rest.0, omega (arith, rest.1), (next, line, rest.2))

-- ---- lines and bytes

-- lines that are due are read from their text
pub lines_read : (script : Script) (dues : List Due) (lines : List (List (List ℕ))) (rest : List ℕ) → AllZip (IsDue script) dues lines → AreLinesRead script dues (flat_map line_text lines ++ rest) rest
lines_read script [] [] rest are = refl
lines_read script [] (line ∷ lines) rest are = absurd are
lines_read script (due ∷ dues) [] rest are = absurd are
lines_read script (due ∷ dues) (line ∷ lines) rest are =
    (flat_map line_text lines ++ rest, record { words = line; is_due = are.0; begin = append_assoc (line_text line) (flat_map line_text lines) rest }, lines_read script dues lines rest are.1)
