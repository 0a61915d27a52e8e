use Rattle.std.specs.Prelude.{◌==◌}
use Rattle.std.specs.List.{slice_split}
use Rattle.std.proofs.Common.{rules, map, ◌≡◌}
use Rattle.std.proofs.lemmas.Iterator.Consumers.{map_from_collect}
use Rattle.std.proofs.lemmas.Iterator.Splits.{YieldsList-from_slice_split}
use Rattle.std.proofs.lemmas.Result.{IfOk-at_ok}
use borrow.Author.Tests.{tests}
use Rattle.report_reader.proofs.words.pieces_of.Goals as goal

pub returns : goal.returns
returns c =
    IfOk-at_ok (λ pieces. map (λ piece. piece.now) pieces.items ≡ slice_split (λ b. b == c.args.byte) c.args.text.now) c.in_ok-collect.was
    (map_from_collect c.collect.result c.collect.ensures.ran (YieldsList-from_slice_split _ (λ b. b == c.args.byte) c.args.text.now c.split.ensures.rest c.split.ensures.done c.split.ensures.closure (λ x b q k. search (rules, tests))))
