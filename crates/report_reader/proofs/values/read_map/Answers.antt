use Rattle.std.proofs.Common.{map, ◌∷◌}
use Rattle.std.specs.List.{join_with_byte}
use Rattle.composed_value.specs.Value.{IsFields}
use Rattle.report_lines.specs.Text.{braced, field_text}
use Rattle.report_reader.proofs.ReadRows.{row_or_none}
use Rattle.report_reader.proofs.ReadValueParts.{braced_both, braced_some}
use Rattle.report_reader.proofs.values.read_map.Goals as goal

pub returns-in-Some : goal.returns-in-Some
returns-in-Some c =
    row_or_none IsFields (λ fields. join_with_byte 44 (map field_text fields)) (λ fields. braced (map field_text fields)) c.args.text.now c.in-Some.fields.now c.read_fields.result (braced_some _ _ c.in-Some.ensures)
    (λ field fields. braced_both _ _ (join_with_byte 44 (map field_text (field ∷ fields))) c.in-Some.ensures) c.read_fields.ensures
