use Rattle.std.proofs.Common.{◌≡◌, ◌∙◌, sym, [], ◌∷◌, None, arith, rules}
use Rattle.std.specs.List.{slice_split, position}
use Rattle.std.proofs.lemmas.Iterator.{YieldsList-from_slice}
use Rattle.std.proofs.lemmas.Iterator.Search.{position_from_yields_List}
use borrow.Author.Tests.{tests}
use Rattle.script_reader.specs.Lines.{is_line_feed}
use Rattle.script_reader.proofs.SplitLemmas.{cut_line, one_line}
use Rattle.script_reader.proofs.split.first_line.Goals as goal

pub returns-in_err-end : goal.returns-in_err-end
returns-in_err-end c =
    let found : c.position.result ≡ position is_line_feed c.args.text.now = position_from_yields_List is_line_feed _ _ c.position.result c.position.ensures.ran (YieldsList-from_slice c.args.text.now cc) (λ x b q k. search (rules, tests)) in
    let none : c.position.result ≡ None = grind arith in
    let one : slice_split is_line_feed c.args.text.now ≡ c.args.text.now ∷ [] = one_line c.args.text.now (sym none ∙ found) in
    search (rules, one)

pub returns : goal.returns
returns c =
    let found : c.position.result ≡ position is_line_feed c.args.text.now = position_from_yields_List is_line_feed _ _ c.position.result c.position.ensures.ran (YieldsList-from_slice c.args.text.now cc) (λ x b q k. search (rules, tests)) in
    cut_line c.args.text.now c.in_ok-end.end (sym c.in_ok-end.was ∙ found)
