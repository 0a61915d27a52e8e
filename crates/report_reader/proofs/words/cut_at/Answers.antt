use Rattle.std.specs.Prelude.{◌==◌, ℕ, List, ◌∷◌, ◌++◌, Option, MatchOption, false}
use Rattle.std.specs.List.{list_any}
use Rattle.std.specs.ControlFlow.{continue_value}
use Rattle.std.proofs.Common.{Bor, ◌≡◌, rules, sym, ap, subst, ◌∙◌}
use Rattle.std.proofs.lemmas.Iterator.{YieldsList-from_slice}
use Rattle.std.proofs.lemmas.Iterator.Search.{position_from_yields_List}
use borrow.Author.Tests.{tests}
use Rattle.report_reader.proofs.ReadWords.{no_position, cut_first}
use Rattle.report_reader.proofs.words.cut_at.Goals as goal

pub returns-in_err-at : goal.returns-in_err-at
returns-in_err-at c =
    let found = position_from_yields_List (λ b. b == c.args.byte) _ _ c.position.result c.position.ensures.ran (YieldsList-from_slice c.args.text.now cc) (λ x b q k. search (rules, tests)) in
    let text : List ℕ = c.args.text.now in
    let byte : ℕ = c.args.byte in
    subst (λ (result : Option (Bor (List ℕ) × Bor (List ℕ))). MatchOption result (list_any (λ b. b == byte) text ≡ false) (λ parts. (text ≡ parts.0.now ++ byte ∷ parts.1.now) × (list_any (λ b. b == byte) parts.0.now ≡ false))) (sym c.from_residual.ensures)
    (no_position (λ b. b == byte) text (sym found ∙ c.branch-at.ensures ∙ ap continue_value c.in_err-at.is))

pub returns : goal.returns
returns c =
    let found = position_from_yields_List (λ b. b == c.args.byte) _ _ c.position.result c.position.ensures.ran (YieldsList-from_slice c.args.text.now cc) (λ x b q k. search (rules, tests)) in
    cut_first c.args.byte c.args.text.now c.in_ok-at.at (sym found ∙ c.branch-at.ensures ∙ ap continue_value c.in_ok-at.is)
