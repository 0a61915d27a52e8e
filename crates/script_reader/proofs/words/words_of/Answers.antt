use Rattle.std.proofs.Common.{rules, map, ◌≡◌, List, ℕ, nat_lt, length}
use Rattle.std.proofs.lemmas.Iterator.Consumers.{map_from_collect, YieldsList-from_filter, YieldsList-at}
use Rattle.std.proofs.lemmas.Iterator.Splits.{YieldsList-from_slice_split}
use Rattle.std.proofs.lemmas.Result.{IfOk-at_ok}
use borrow.Author.Tests.{tests}
use Rattle.script_reader.specs.Lines.{is_blank, words_of}
use Rattle.script_reader.proofs.words.words_of.Goals as goal

pub returns : goal.returns
returns c =
    IfOk-at_ok (λ words. map (λ word. word.now) words.items ≡ words_of c.args.line.now) c.in_ok-words.was
    (map_from_collect c.collect.result c.collect.ensures.ran (YieldsList-from_filter _ (λ (word : List ℕ). nat_lt 0 (length word)) (YieldsList-at c.filter.ensures.source (YieldsList-from_slice_split _ is_blank c.args.line.now c.split.ensures.rest c.split.ensures.done c.split.ensures.closure (λ x b q k. search (rules, tests)))) c.filter.ensures.closure (λ x r q k. search (rules, tests))))
