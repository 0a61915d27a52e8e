use Rattle.std.proofs.Common.{◌∷◌}
use Rattle.std.specs.List.{join_with_byte}
use Rattle.basic_lattices.specs.TextSet.{IsTextSet}
use Rattle.report_lines.specs.Text.{braced}
use Rattle.report_reader.proofs.ReadRows.{row_or_none}
use Rattle.report_reader.proofs.ReadValueParts.{braced_both, braced_some}
use Rattle.report_reader.proofs.values.read_set.Goals as goal

pub returns-in-Some : goal.returns-in-Some
returns-in-Some c =
    row_or_none IsTextSet (join_with_byte 44) braced c.args.text.now c.in-Some.words.now c.read_words.result (braced_some _ _ c.in-Some.ensures) (λ word words. braced_both _ _ (join_with_byte 44 (word ∷ words)) c.in-Some.ensures) c.read_words.ensures
