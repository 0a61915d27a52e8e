-- What a report says, held against the accepted puts, one answer and one final cell after another.
use Rattle.std.specs.Prelude.{◌≡◌, ℕ, zero, suc, ◌+◌, ◌<◌, ◌≤◌, List, [], ◌∷◌, All, drop, length, get_or}
use Rattle.std.specs.List.{AllZip}
use Rattle.std.proofs.Common.{refl, sym, ap, subst, ◌∙◌, inl, inr, arith}
use Rattle.std.proofs.lemmas.List.{at_drop_more, at_drop_all}
use Rattle.std.proofs.lemmas.List.Elements.{All-nil, All-cons}
use Rattle.composed_value.specs.declared.kind.Kind.{Kind}
use Rattle.composed_value.specs.declared.put.Put.{Put}
use Rattle.session_known.specs.Lawful.{IsTrueOf}
use Rattle.session_known.specs.Legal.{IsLawfulFinal}
use Rattle.session_known.specs.declared.report.Answer.{Answer}
use Rattle.session_known.specs.declared.report.FinalCell.{FinalCell}
use Rattle.session_known.specs.declared.script.Line.{Line}
use Rattle.session_known.specs.declared.script.SessionPlan.{SessionPlan}
use Rattle.anna_check.specs.Unlawful.{AreTrueOf, IsFirstUntrue, IsFirstUntrueFrom, IsFirstUnlawfulFinal}

-- So many answers were true: where those that are left are true all are, and the first of them that is not is the first of all.
pub record AreTrueSoFar (kinds : List Kind) (puts : List (ℕ × Put)) (all_lines : List Line) (all_answers : List Answer) (i : ℕ) : Type 0 where
  pub true_of : AllZip (IsTrueOf kinds puts) (drop i all_lines) (drop i all_answers) → AllZip (IsTrueOf kinds puts) all_lines all_answers
  pub untrue : (command : ℕ) → 0 < command → IsFirstUntrue kinds puts (drop i all_lines) (drop i all_answers) command → IsFirstUntrue kinds puts all_lines all_answers (i + command)

module _ (kinds : List Kind) (puts : List (ℕ × Put)) (all_lines : List Line) (all_answers : List Answer) (i : ℕ) (are : AreTrueSoFar kinds puts all_lines all_answers i) (each : length all_answers ≡ length all_lines) where
  module _ (line : Line) (answer : Answer) (within : i < length all_lines) (line_is : line ≡ get_or all_lines i line) (answer_is : answer ≡ get_or all_answers i answer) where
    -- what is said of those that are left, of the line and its answer and those after them
    of_left : (P : List Line → List Answer → Type 0) → P (line ∷ drop (i + 1) all_lines) (answer ∷ drop (i + 1) all_answers) → P (drop i all_lines) (drop i all_answers)
    of_left P is =
        let lines_left : drop i all_lines ≡ line ∷ drop (i + 1) all_lines = at_drop_more (λ xs. xs) all_lines i line within ∙ ap (λ first. first ∷ drop (i + 1) all_lines) (sym line_is) in
        let answers_left : drop i all_answers ≡ answer ∷ drop (i + 1) all_answers = at_drop_more (λ xs. xs) all_answers i answer (omega (arith, within, each)) ∙ ap (λ first. first ∷ drop (i + 1) all_answers) (sym answer_is) in
        subst (λ (at : List Line × List Answer). P at.0 at.1) (λ j. (sym lines_left j, sym answers_left j)) is

    -- The line's answer is the first that is not true.
    pub held_untrue : (IsTrueOf kinds puts line answer → ⊥) → IsFirstUntrue kinds puts all_lines all_answers (i + 1)
    held_untrue untrue = are.untrue 1 (omega arith) (of_left (λ left answered. IsFirstUntrue kinds puts left answered 1) untrue)

    -- The line's answer is true too.
    pub held_true : IsTrueOf kinds puts line answer → AreTrueSoFar kinds puts all_lines all_answers (i + 1)
    held_true is = record {
      true_of = λ rest. are.true_of (of_left (AllZip (IsTrueOf kinds puts)) (is, rest));
      untrue = later;
    }
      where
        later : (command : ℕ) → 0 < command → IsFirstUntrue kinds puts (drop (i + 1) all_lines) (drop (i + 1) all_answers) command → IsFirstUntrue kinds puts all_lines all_answers (i + 1 + command)
        later zero some rest = absurd (omega (arith, some))
        later (suc n) some rest =
            let same : i + suc (suc n) ≡ i + 1 + suc n = omega arith in
            subst (IsFirstUntrue kinds puts all_lines all_answers) same (are.untrue (suc (suc n)) (omega arith) (of_left (λ left answered. IsFirstUntrue kinds puts left answered (suc (suc n))) (is, rest)))

  -- All answers are true.
  pub held_all : length all_lines ≤ i → AllZip (IsTrueOf kinds puts) all_lines all_answers
  held_all all =
      let no_lines : drop i all_lines ≡ [] = at_drop_all (λ xs. xs) all_lines i all in
      let no_answers : drop i all_answers ≡ [] = at_drop_all (λ xs. xs) all_answers i (omega (arith, all, each)) in
      are.true_of (subst (λ (at : List Line × List Answer). AllZip (IsTrueOf kinds puts) at.0 at.1) (λ j. (sym no_lines j, sym no_answers j)) tt)

-- ---- session by session

-- So many sessions were true: where those that are left are true all are, and the first place of them that is not is the first of all.
pub record AreSessionsTrueSoFar (kinds : List Kind) (puts : List (ℕ × Put)) (sessions : List SessionPlan) (all_answers : List (List Answer)) (i : ℕ) : Type 0 where
  pub true_of : AllZip (AreTrueOf kinds puts) (drop i sessions) (drop i all_answers) → AllZip (AreTrueOf kinds puts) sessions all_answers
  pub untrue : (session command : ℕ) → IsFirstUntrueFrom kinds puts (i + 1) (drop i sessions) (drop i all_answers) session command → IsFirstUntrueFrom kinds puts 1 sessions all_answers session command

module _ (kinds : List Kind) (puts : List (ℕ × Put)) (sessions : List SessionPlan) (all_answers : List (List Answer)) (i : ℕ) (are : AreSessionsTrueSoFar kinds puts sessions all_answers i) (each : length all_answers ≡ length sessions) where
  module _ (plan : SessionPlan) (theirs : List Answer) (within : i < length sessions) (plan_is : plan ≡ get_or sessions i plan) (theirs_is : theirs ≡ get_or all_answers i theirs) where
    -- what is said of those that are left, of the session and its answers and those after them
    of_sessions_left : (P : List SessionPlan → List (List Answer) → Type 0) → P (plan ∷ drop (i + 1) sessions) (theirs ∷ drop (i + 1) all_answers) → P (drop i sessions) (drop i all_answers)
    of_sessions_left P is =
        let sessions_left : drop i sessions ≡ plan ∷ drop (i + 1) sessions = at_drop_more (λ xs. xs) sessions i plan within ∙ ap (λ first. first ∷ drop (i + 1) sessions) (sym plan_is) in
        let answers_left : drop i all_answers ≡ theirs ∷ drop (i + 1) all_answers = at_drop_more (λ xs. xs) all_answers i theirs (omega (arith, within, each)) ∙ ap (λ first. first ∷ drop (i + 1) all_answers) (sym theirs_is) in
        subst (λ (at : List SessionPlan × List (List Answer)). P at.0 at.1) (λ j. (sym sessions_left j, sym answers_left j)) is

    -- The session has the first answer that is not true.
    pub session_untrue : (command : ℕ) → IsFirstUntrue kinds puts plan.lines theirs command → IsFirstUntrueFrom kinds puts 1 sessions all_answers (i + 1) command
    session_untrue command first = are.untrue (i + 1) command (of_sessions_left (λ left answered. IsFirstUntrueFrom kinds puts (i + 1) left answered (i + 1) command) (inl (refl, first)))

    -- The session is true too.
    pub session_true : AreTrueOf kinds puts plan theirs → AreSessionsTrueSoFar kinds puts sessions all_answers (i + 1)
    session_true is = record {
      true_of = λ rest. are.true_of (of_sessions_left (AllZip (AreTrueOf kinds puts)) (is, rest));
      untrue = λ session command rest. are.untrue session command (of_sessions_left (λ left answered. IsFirstUntrueFrom kinds puts (i + 1) left answered session command) (inr (is, rest)));
    }

  -- All sessions are true.
  pub sessions_true : length sessions ≤ i → AllZip (AreTrueOf kinds puts) sessions all_answers
  sessions_true all =
      let no_sessions : drop i sessions ≡ [] = at_drop_all (λ xs. xs) sessions i all in
      let no_answers : drop i all_answers ≡ [] = at_drop_all (λ xs. xs) all_answers i (omega (arith, all, each)) in
      are.true_of (subst (λ (at : List SessionPlan × List (List Answer)). AllZip (AreTrueOf kinds puts) at.0 at.1) (λ j. (sym no_sessions j, sym no_answers j)) tt)

-- ---- final cells

-- So many final cells were lawful: where those that are left are lawful all are, and the first of them that is not is the first of all.
pub record AreFinalsLawfulSoFar (kinds : List Kind) (puts : List (ℕ × Put)) (finals : List FinalCell) (i : ℕ) : Type 0 where
  pub lawful : All (IsLawfulFinal kinds puts) (drop i finals) → All (IsLawfulFinal kinds puts) finals
  pub unlawful : (key worker : ℕ) → IsFirstUnlawfulFinal kinds puts (drop i finals) key worker → IsFirstUnlawfulFinal kinds puts finals key worker

module _ (kinds : List Kind) (puts : List (ℕ × Put)) (finals : List FinalCell) (i : ℕ) (are : AreFinalsLawfulSoFar kinds puts finals i) where
  module _ (last : FinalCell) (within : i < length finals) (is : last ≡ get_or finals i last) where
    -- the final cell is the first of those that are left
    finals_left : drop i finals ≡ last ∷ drop (i + 1) finals
    finals_left = at_drop_more (λ xs. xs) finals i last within ∙ ap (λ first. first ∷ drop (i + 1) finals) (sym is)

    -- The final cell is the first that is not lawful.
    pub final_unlawful : (IsLawfulFinal kinds puts last → ⊥) → IsFirstUnlawfulFinal kinds puts finals last.key last.worker
    final_unlawful unlawful = are.unlawful last.key last.worker (subst (λ left. IsFirstUnlawfulFinal kinds puts left last.key last.worker) (sym finals_left) (inl (refl, refl, unlawful)))

    -- The final cell is lawful too.
    pub final_lawful : IsLawfulFinal kinds puts last → AreFinalsLawfulSoFar kinds puts finals (i + 1)
    final_lawful lawful = record {
      lawful = λ rest. are.lawful (subst (All (IsLawfulFinal kinds puts)) (sym finals_left) (All-cons (IsLawfulFinal kinds puts) last (drop (i + 1) finals) lawful rest));
      unlawful = λ key worker rest. are.unlawful key worker (subst (λ left. IsFirstUnlawfulFinal kinds puts left key worker) (sym finals_left) (inr (lawful, rest)));
    }

  -- All final cells are lawful.
  pub finals_lawful : length finals ≤ i → All (IsLawfulFinal kinds puts) finals
  finals_lawful all = are.lawful (subst (All (IsLawfulFinal kinds puts)) (sym (at_drop_all (λ xs. xs) finals i all)) (All-nil (IsLawfulFinal kinds puts)))
