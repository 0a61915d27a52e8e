use Rattle.std.proofs.Common.{rules, refl, ap, ◌∙◌, ◌≡◌, List, [], ◌∷◌, length, Some, ℕ, nat_lt, Bor}
use borrow.Author.Tests.{tests}
use Rattle.std.specs.Cmp.Lexicographic.{pointwise}
use Rattle.std.specs.Iterator.Adapters.{once_item}
use Rattle.std.specs.Str.{bytes_eq}
use Rattle.std.proofs.lemmas.Iterator.Adapters.{YieldsList-from_once}
use Rattle.std.proofs.lemmas.Iterator.Consumers.{YieldsList-from_filter, YieldsList-at}
use Rattle.std.proofs.lemmas.Iterator.Splits.{YieldsList-from_slice_split}
use Rattle.script_reader.specs.Lines.{is_blank, words_of}
use Rattle.script_reader.specs.Split.{are_end_alone}
use Rattle.script_reader.proofs.EqLemmas.{eq_from_yields_List}
use Rattle.script_reader.proofs.SplitLemmas.{alone}
use Rattle.script_reader.proofs.split.is_end_alone.Goals as goal

pub returns : goal.returns
returns c =
    let same : c.eq.result ≡ pointwise (λ x (y : Bor (List ℕ)). bytes_eq x y.now) (words_of (c.without_return.result.now)) (c.as_slice.result ∷ []) =
    eq_from_yields_List (λ other it. it ≡ other) c.once.result _ c.eq.result c.eq.ensures.ran
    (YieldsList-from_filter _ (λ (word : List ℕ). nat_lt 0 (length word)) (YieldsList-at c.filter.ensures.source (YieldsList-from_slice_split _ is_blank c.without_return.result.now c.split.ensures.rest c.split.ensures.done c.split.ensures.closure (λ x b q k. search (rules, tests)))) c.filter.ensures.closure (λ x r q k. search (rules, tests)))
    (λ it is. YieldsList-from_once (Some c.as_slice.result) (ap once_item is ∙ c.once.ensures.item)) (λ x y. refl)
    in
    same ∙ alone (words_of c.without_return.result.now) c.as_slice.result c.as_slice.ensures ∙ ap (λ line. are_end_alone (words_of line)) c.without_return.ensures
