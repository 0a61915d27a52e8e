use Rattle.std.proofs.Common.{map, length, ◌==◌, ap, ◌∙◌}
use Rattle.std.proofs.lemmas.Bool.{both_ways}
use Rattle.std.specs.List.{join_with_byte}
use Rattle.report_lines.specs.Text.{insert_text, inserts_text}
use Rattle.report_reader.specs.ReadDots.{AreInsertsIn}
use Rattle.report_reader.proofs.ReadRows.{row_or_none}
use Rattle.report_reader.proofs.dots.read_inserts.Goals as goal

pub returns : goal.returns
returns c =
    let script = c.args.script.now in
    row_or_none (AreInsertsIn script) (λ inserts. join_with_byte 44 (map (insert_text script) inserts)) (inserts_text script) c.args.text.now c.args.text.now c.read_each_insert.result (λ none. both_ways c.is_empty.result c.if-is_empty.false (c.is_empty.ensures ∙ ap (λ text. length text == 0) none))
    (λ _ _. (λ same. same, λ same. same)) c.read_each_insert.ensures
