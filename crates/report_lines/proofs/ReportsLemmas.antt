-- The answers and the final cells of two reports of one form are told from their lines.
use Rattle.std.specs.Prelude.{◌≡◌, ℕ, List, [], ◌∷◌, ◌++◌, map, drop}
use Rattle.std.specs.List.{AllZip, AllByRecursion}
use Rattle.std.proofs.Common.{refl, sym, ap, subst, ◌∙◌}
use Rattle.std.proofs.lemmas.Fmt.{decimal_injective}
use Rattle.std.proofs.lemmas.List.{append_assoc}
use Rattle.session_known.specs.Form.{IsValueIn, Fits, IsFinalIn}
use Rattle.composed_value.specs.Keyed.{kind_at}
use Rattle.session_known.specs.declared.report.Answer.{Answer}
use Rattle.session_known.specs.declared.report.FinalCell.{FinalCell}
use Rattle.session_known.specs.declared.script.Level.{Level}
use Rattle.session_known.specs.declared.script.Line.{Line}
use Rattle.session_known.specs.declared.script.Script.{Script}
use Rattle.session_known.specs.declared.script.SessionPlan.{SessionPlan}
use Rattle.report_lines.proofs.AnswersLemmas.{word_at, clock_in_told, answer_told}
use Rattle.report_lines.proofs.NamesLemmas.{TellsNames}
use Rattle.report_lines.specs.Parts.{AreAnswers, place_of}
use Rattle.report_lines.specs.Text.{answer_words, answers_lines, sessions_lines, final_words}
use Rattle.report_lines.proofs.ValuesLemmas.{value_told}

module _ (script : Script) (names : TellsNames script) where
  -- the answers of a session are told, and so are the lines after them
  answers_told : (level : Level) (lines : List Line) (xs ys : List Answer) (us vs : List (List (List ℕ))) → AllZip (Fits script level) lines xs → AllZip (Fits script level) lines ys → answers_lines script lines xs ++ us ≡ answers_lines script lines ys ++ vs → (xs ≡ ys) × (us ≡ vs)
  answers_told level [] [] [] us vs fit_a fit_b same = (refl, same)
  answers_told level [] [] (b ∷ ys) us vs fit_a fit_b same = absurd fit_b
  answers_told level [] (a ∷ xs) ys us vs fit_a fit_b same = absurd fit_a
  answers_told level (line ∷ lines) [] ys us vs fit_a fit_b same = absurd fit_a
  answers_told level (line ∷ lines) (a ∷ xs) [] us vs fit_a fit_b same = absurd fit_b
  answers_told level (line ∷ lines) (a ∷ xs) (b ∷ ys) us vs fit_a fit_b same =
      let here : answer_words script line a ≡ answer_words script line b = cc in
      let later : answers_lines script lines xs ++ us ≡ answers_lines script lines ys ++ vs = cc in
      let first = answer_told script names level line a b fit_a.0 fit_b.0 here in
      let rest = answers_told level lines xs ys us vs fit_a.1 fit_b.1 later in
      (λ i. first i ∷ rest.0 i, rest.1)

  -- The answers of the sessions are told, and so are the lines after them.
  pub sessions_told : (plans : List SessionPlan) (xs ys : List (List Answer)) (us vs : List (List (List ℕ))) → AllZip (AreAnswers script) plans xs → AllZip (AreAnswers script) plans ys → sessions_lines script plans xs ++ us ≡ sessions_lines script plans ys ++ vs → (xs ≡ ys) × (us ≡ vs)
  sessions_told [] [] [] us vs fit_a fit_b same = (refl, same)
  sessions_told [] [] (b ∷ ys) us vs fit_a fit_b same = absurd fit_b
  sessions_told [] (a ∷ xs) ys us vs fit_a fit_b same = absurd fit_a
  sessions_told (plan ∷ plans) [] ys us vs fit_a fit_b same = absurd fit_a
  sessions_told (plan ∷ plans) (a ∷ xs) [] us vs fit_a fit_b same = absurd fit_b
  sessions_told (plan ∷ plans) (a ∷ xs) (b ∷ ys) us vs fit_a fit_b same =
      let later = sym (append_assoc (answers_lines script plan.lines a) (sessions_lines script plans xs) us) ∙ ap (drop 1) same ∙ append_assoc (answers_lines script plan.lines b) (sessions_lines script plans ys) vs in
      let first = answers_told plan.level plan.lines a b (sessions_lines script plans xs ++ us) (sessions_lines script plans ys ++ vs) fit_a.0 fit_b.0 later in
      let rest = sessions_told plans xs ys us vs fit_a.1 fit_b.1 first.1 in
      (λ i. first.0 i ∷ rest.0 i, rest.1)

  -- a final cell is told, where its key and its worker are known
  final_told : (a b : FinalCell) → place_of a ≡ place_of b → IsFinalIn script a → IsFinalIn script b → final_words script a ≡ final_words script b → a ≡ b
  final_told a b place is_a is_b same =
      let key = ap (λ (place : ℕ × ℕ). place.0) place in
      let worker = ap (λ (place : ℕ × ℕ). place.1) place in
      let value_is = subst (λ key. IsValueIn script (kind_at script.kinds key) b.value) (sym key) is_b.value_is in
      let clock = clock_in_told script names a.clock b.clock is_a.clock_is is_b.clock_is (ap (word_at 3) same) in
      let top = decimal_injective a.top b.top is_a.top_fits is_b.top_fits (ap (word_at 5) same) in
      let value = value_told script names (kind_at script.kinds a.key) a.value b.value is_a.value_is value_is (ap (word_at 7) same) in
      λ i. record { key = key i; worker = worker i; clock = clock i; top = top i; value = value i }

  -- The final cells are told.
  pub finals_told : (xs ys : List FinalCell) → map place_of xs ≡ map place_of ys → AllByRecursion (IsFinalIn script) xs → AllByRecursion (IsFinalIn script) ys → map (final_words script) xs ≡ map (final_words script) ys → xs ≡ ys
  finals_told [] [] places all_a all_b same = refl
  finals_told [] (b ∷ ys) places all_a all_b same = absurd cc
  finals_told (a ∷ xs) [] places all_a all_b same = absurd cc
  finals_told (a ∷ xs) (b ∷ ys) places all_a all_b same =
      let place : place_of a ≡ place_of b = cc in
      let places_after : map place_of xs ≡ map place_of ys = cc in
      let here : final_words script a ≡ final_words script b = cc in
      let later : map (final_words script) xs ≡ map (final_words script) ys = cc in
      let first = final_told a b place all_a.0 all_b.0 here in
      let rest = finals_told xs ys places_after all_a.1 all_b.1 later in
      λ i. first i ∷ rest i
