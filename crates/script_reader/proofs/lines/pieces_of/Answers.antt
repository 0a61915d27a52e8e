use Rattle.std.proofs.Common.{rules, map, ◌≡◌}
use Rattle.std.proofs.lemmas.Iterator.{YieldsList-from_map_by}
use Rattle.std.proofs.lemmas.Iterator.Consumers.{map_from_collect, YieldsList-at}
use Rattle.std.proofs.lemmas.Iterator.Splits.{YieldsList-from_slice_split}
use Rattle.std.proofs.lemmas.Result.{IfOk-at_ok}
use Rattle.std.specs.List.{slice_split}
use Rattle.std.specs.Str.Lines.{strip_carriage_return}
use borrow.Author.Tests.{tests}
use Rattle.script_reader.specs.Lines.{is_line_feed}
use Rattle.script_reader.proofs.lines.pieces_of.Goals as goal

pub returns-clause-pieces : goal.returns-clause-pieces
returns-clause-pieces c =
    IfOk-at_ok (λ pieces. map (λ piece. piece.now) pieces.items ≡ map strip_carriage_return (slice_split is_line_feed c.args.text.now)) c.in_ok-collect.was
    (map_from_collect c.collect.result c.collect.ensures.ran (YieldsList-from_map_by _ (λ piece. piece.now) strip_carriage_return (YieldsList-at c.map.ensures.source (YieldsList-from_slice_split _ is_line_feed c.args.text.now c.split.ensures.rest c.split.ensures.done c.split.ensures.closure (λ x b q k. search (rules, tests)))) c.map.ensures.closure (λ x r q k. search (rules, tests))))
