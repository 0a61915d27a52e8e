-- A report has one verdict.
use Rattle.std.specs.Prelude.{◌≡◌, ℕ, zero, suc, ◌+◌, List, [], ◌∷◌, All}
use Rattle.std.specs.List.{AllZip}
use Rattle.std.proofs.Common.{refl, sym, ap, ◌∙◌, inl, inr}
use Rattle.std.proofs.lemmas.List.Elements.{All-head, All-tail}
use Rattle.composed_value.specs.declared.kind.Kind.{Kind}
use Rattle.composed_value.specs.declared.put.Put.{Put}
use Rattle.session_known.specs.Accepted.{accepted, ends_of}
use Rattle.session_known.specs.Lawful.{AreLawful, IsTrueOf}
use Rattle.session_known.specs.Legal.{AreLawfulFrom, IsLawfulFinal, IsLegalAt}
use Rattle.session_known.specs.Session.{Client, Knowledge, State}
use Rattle.session_known.specs.declared.report.Answer.{Answer}
use Rattle.session_known.specs.declared.report.FinalCell.{FinalCell}
use Rattle.session_known.specs.declared.report.Report.{Report}
use Rattle.session_known.specs.declared.script.Line.{Line}
use Rattle.session_known.specs.declared.script.Script.{Script}
use Rattle.session_known.specs.declared.script.SessionPlan.{SessionPlan}
use Rattle.anna_check.specs.declared.judge.Verdict.{Verdict}
use Rattle.anna_check.specs.declared.judge.Verdict.TheVariants.{Legal, Command, Final}
use Rattle.anna_check.specs.Unlawful.{IsFirstUnlawful, IsFirstUnlawfulFrom, AreTrueOf, IsFirstUntrue, IsFirstUntrueFrom, IsFirstUnlawfulFinal, IsLawfulInside, IsTrueOfPuts, IsVerdict}

-- ---- inside a session

module _ (table : List (List ℕ)) where
  -- where all answers of a session are lawful there, none is the first that is not
  lawful_has_no_first : (lines : List Line) (answers : List Answer) (client : Client) (state : State) (earlier : List (Line × Answer)) (command : ℕ)
      → AreLawful table client state earlier lines answers → IsFirstUnlawful table client state earlier lines answers command → ⊥
  lawful_has_no_first (line ∷ lines) (answer ∷ answers) client state earlier (suc zero) lawful first = first lawful.0
  lawful_has_no_first (line ∷ lines) (answer ∷ answers) client state earlier (suc (suc command)) lawful first = lawful_has_no_first lines answers client _ _ (suc command) lawful.1 first.1
  lawful_has_no_first lines answers client state earlier command lawful first = first

  -- two of its commands whose answers are the first that is not lawful are one
  one_unlawful : (lines : List Line) (answers : List Answer) (client : Client) (state : State) (earlier : List (Line × Answer)) (one other : ℕ)
      → IsFirstUnlawful table client state earlier lines answers one → IsFirstUnlawful table client state earlier lines answers other → one ≡ other
  one_unlawful (line ∷ lines) (answer ∷ answers) client state earlier (suc zero) (suc zero) first second = refl
  one_unlawful (line ∷ lines) (answer ∷ answers) client state earlier (suc zero) (suc (suc other)) first second = absurd (first second.0)
  one_unlawful (line ∷ lines) (answer ∷ answers) client state earlier (suc (suc one)) (suc zero) first second = absurd (second first.0)
  one_unlawful (line ∷ lines) (answer ∷ answers) client state earlier (suc (suc one)) (suc (suc other)) first second = ap suc (one_unlawful lines answers client _ _ (suc one) (suc other) first.1 second.1)
  one_unlawful lines answers client state earlier one zero first second = absurd second
  one_unlawful lines answers client state earlier one other first second = absurd first

  -- where the answers of all sessions are lawful there, none is the first that is not
  lawful_from_has_no_first : (ends : List Knowledge) (number : ℕ) (plans : List SessionPlan) (answered : List (List Answer)) (session command : ℕ)
      → AreLawfulFrom table ends number plans answered → IsFirstUnlawfulFrom table ends number plans answered session command → ⊥
  lawful_from_has_no_first ends number (plan ∷ plans) (answers ∷ answered) session command lawful (inl first) = lawful_has_no_first plan.lines answers _ _ _ command lawful.0 first.1
  lawful_from_has_no_first ends number (plan ∷ plans) (answers ∷ answered) session command lawful (inr first) = lawful_from_has_no_first ends (number + 1) plans answered session command lawful.1 first.1
  lawful_from_has_no_first ends number plans answered session command lawful first = first

  -- two places in the sessions whose answers are the first that is not lawful are one
  one_unlawful_from : (ends : List Knowledge) (number : ℕ) (plans : List SessionPlan) (answered : List (List Answer)) (session command in_session other : ℕ)
      → IsFirstUnlawfulFrom table ends number plans answered session command → IsFirstUnlawfulFrom table ends number plans answered in_session other → Command session command ≡ Command in_session other
  one_unlawful_from ends number (plan ∷ plans) (answers ∷ answered) session command in_session other (inl first) (inl second) = λ j. Command ((first.0 ∙ sym second.0) j) (one_unlawful plan.lines answers _ _ _ command other first.1 second.1 j)
  one_unlawful_from ends number (plan ∷ plans) (answers ∷ answered) session command in_session other (inl first) (inr second) = absurd (lawful_has_no_first plan.lines answers _ _ _ command second.0 first.1)
  one_unlawful_from ends number (plan ∷ plans) (answers ∷ answered) session command in_session other (inr first) (inl second) = absurd (lawful_has_no_first plan.lines answers _ _ _ other first.0 second.1)
  one_unlawful_from ends number (plan ∷ plans) (answers ∷ answered) session command in_session other (inr first) (inr second) = one_unlawful_from ends (number + 1) plans answered session command in_session other first.1 second.1
  one_unlawful_from ends number plans answered session command in_session other first second = absurd first

module _ (kinds : List Kind) (puts : List (ℕ × Put)) where
  -- ---- of all accepted puts

  -- where what all answers of a session say is true, none is the first that says something untrue
  true_has_no_first : (lines : List Line) (answers : List Answer) (command : ℕ) → AllZip (IsTrueOf kinds puts) lines answers → IsFirstUntrue kinds puts lines answers command → ⊥
  true_has_no_first (line ∷ lines) (answer ∷ answers) (suc zero) is_true first = first is_true.0
  true_has_no_first (line ∷ lines) (answer ∷ answers) (suc (suc command)) is_true first = true_has_no_first lines answers (suc command) is_true.1 first.1
  true_has_no_first lines answers command is_true first = first

  -- two of its commands whose answers are the first that says something untrue are one
  one_untrue : (lines : List Line) (answers : List Answer) (one other : ℕ) → IsFirstUntrue kinds puts lines answers one → IsFirstUntrue kinds puts lines answers other → one ≡ other
  one_untrue (line ∷ lines) (answer ∷ answers) (suc zero) (suc zero) first second = refl
  one_untrue (line ∷ lines) (answer ∷ answers) (suc zero) (suc (suc other)) first second = absurd (first second.0)
  one_untrue (line ∷ lines) (answer ∷ answers) (suc (suc one)) (suc zero) first second = absurd (second first.0)
  one_untrue (line ∷ lines) (answer ∷ answers) (suc (suc one)) (suc (suc other)) first second = ap suc (one_untrue lines answers (suc one) (suc other) first.1 second.1)
  one_untrue lines answers one zero first second = absurd second
  one_untrue lines answers one other first second = absurd first

  -- where what the answers of all sessions say is true, none is the first that says something untrue
  true_from_has_no_first : (number : ℕ) (plans : List SessionPlan) (answered : List (List Answer)) (session command : ℕ)
      → AllZip (AreTrueOf kinds puts) plans answered → IsFirstUntrueFrom kinds puts number plans answered session command → ⊥
  true_from_has_no_first number (plan ∷ plans) (answers ∷ answered) session command are_true (inl first) = true_has_no_first plan.lines answers command are_true.0 first.1
  true_from_has_no_first number (plan ∷ plans) (answers ∷ answered) session command are_true (inr first) = true_from_has_no_first (number + 1) plans answered session command are_true.1 first.1
  true_from_has_no_first number plans answered session command are_true first = first

  -- two places in the sessions whose answers are the first that says something untrue are one
  one_untrue_from : (number : ℕ) (plans : List SessionPlan) (answered : List (List Answer)) (session command in_session other : ℕ)
      → IsFirstUntrueFrom kinds puts number plans answered session command → IsFirstUntrueFrom kinds puts number plans answered in_session other → Command session command ≡ Command in_session other
  one_untrue_from number (plan ∷ plans) (answers ∷ answered) session command in_session other (inl first) (inl second) = λ j. Command ((first.0 ∙ sym second.0) j) (one_untrue plan.lines answers command other first.1 second.1 j)
  one_untrue_from number (plan ∷ plans) (answers ∷ answered) session command in_session other (inl first) (inr second) = absurd (true_has_no_first plan.lines answers command second.0 first.1)
  one_untrue_from number (plan ∷ plans) (answers ∷ answered) session command in_session other (inr first) (inl second) = absurd (true_has_no_first plan.lines answers other first.0 second.1)
  one_untrue_from number (plan ∷ plans) (answers ∷ answered) session command in_session other (inr first) (inr second) = one_untrue_from (number + 1) plans answered session command in_session other first.1 second.1
  one_untrue_from number plans answered session command in_session other first second = absurd first

  -- ---- final cells

  -- where all final cells are lawful, none is the first that is not
  finals_have_no_first : (cells : List FinalCell) (key worker : ℕ) → All (IsLawfulFinal kinds puts) cells → IsFirstUnlawfulFinal kinds puts cells key worker → ⊥
  finals_have_no_first [] key worker lawful first = first
  finals_have_no_first (cell ∷ cells) key worker lawful (inl first) = first.2 (All-head (IsLawfulFinal kinds puts) cell cells lawful)
  finals_have_no_first (cell ∷ cells) key worker lawful (inr first) = finals_have_no_first cells key worker (All-tail (IsLawfulFinal kinds puts) cell cells lawful) first.1

  -- two places whose final cells are the first that is not lawful are one
  one_unlawful_final : (cells : List FinalCell) (key worker other_key other : ℕ)
      → IsFirstUnlawfulFinal kinds puts cells key worker → IsFirstUnlawfulFinal kinds puts cells other_key other → Final key worker ≡ Final other_key other
  one_unlawful_final [] key worker other_key other first second = absurd first
  one_unlawful_final (cell ∷ cells) key worker other_key other (inl first) (inl second) = λ j. Final ((sym first.0 ∙ second.0) j) ((sym first.1 ∙ second.1) j)
  one_unlawful_final (cell ∷ cells) key worker other_key other (inl first) (inr second) = absurd (first.2 second.0)
  one_unlawful_final (cell ∷ cells) key worker other_key other (inr first) (inl second) = absurd (second.2 first.0)
  one_unlawful_final (cell ∷ cells) key worker other_key other (inr first) (inr second) = one_unlawful_final cells key worker other_key other first.1 second.1

-- ---- the verdict

module _ (table : List (List ℕ)) (script : Script) (report : Report) where
  -- where every answer is lawful inside its session, none is the first that is not
  inside_has_no_first : (session command : ℕ) → IsLawfulInside table script report → IsFirstUnlawfulFrom table (ends_of script report) 1 script.sessions report.answers session command → ⊥
  inside_has_no_first = lawful_from_has_no_first table (ends_of script report) 1 script.sessions report.answers

  -- where what every answer says of the accepted puts is true, none is the first that says something untrue
  true_of_puts_has_no_first : (session command : ℕ) → IsTrueOfPuts script report → IsFirstUntrueFrom script.kinds (accepted script report) 1 script.sessions report.answers session command → ⊥
  true_of_puts_has_no_first = true_from_has_no_first script.kinds (accepted script report) 1 script.sessions report.answers

  -- Where a report is legal, its verdict says so.
  pub legal_alone : (verdict : Verdict) → IsLegalAt table script report → IsVerdict table script report verdict → verdict ≡ Legal
  legal_alone Legal legal is = refl
  legal_alone (Command session command) legal (inl first) = absurd (inside_has_no_first session command legal.answers first)
  legal_alone (Command session command) legal (inr is) = absurd (true_of_puts_has_no_first session command legal.true_of_puts is.1)
  legal_alone (Final key worker) legal is = absurd (finals_have_no_first script.kinds (accepted script report) report.finals key worker legal.finals is.2)

  -- A report has one verdict.
  pub verdict_is_single : (one other : Verdict) → IsVerdict table script report one → IsVerdict table script report other → one ≡ other
  verdict_is_single Legal other first second = sym (legal_alone other first second)
  verdict_is_single one Legal first second = legal_alone one second first
  verdict_is_single (Command session command) (Command in_session other) (inl first) (inl second) = one_unlawful_from table (ends_of script report) 1 script.sessions report.answers session command in_session other first second
  verdict_is_single (Command session command) (Command in_session other) (inl first) (inr second) = absurd (inside_has_no_first session command second.0 first)
  verdict_is_single (Command session command) (Command in_session other) (inr first) (inl second) = absurd (inside_has_no_first in_session other first.0 second)
  verdict_is_single (Command session command) (Command in_session other) (inr first) (inr second) = one_untrue_from script.kinds (accepted script report) 1 script.sessions report.answers session command in_session other first.1 second.1
  verdict_is_single (Command session command) (Final key worker) (inl first) second = absurd (inside_has_no_first session command second.0 first)
  verdict_is_single (Command session command) (Final key worker) (inr first) second = absurd (true_of_puts_has_no_first session command second.1 first.1)
  verdict_is_single (Final key worker) (Command session command) first (inl second) = absurd (inside_has_no_first session command first.0 second)
  verdict_is_single (Final key worker) (Command session command) first (inr second) = absurd (true_of_puts_has_no_first session command first.1 second.1)
  verdict_is_single (Final key worker) (Final other_key other) first second = one_unlawful_final script.kinds (accepted script report) report.finals key worker other_key other first.2 second.2
