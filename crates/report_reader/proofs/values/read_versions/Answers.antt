use Rattle.std.proofs.Common.{map}
use Rattle.std.specs.List.{join_with_byte}
use Rattle.report_reader.specs.ReadValues.{AreVersionsIn}
use Rattle.report_lines.specs.Text.{version_text, versions_word}
use Rattle.report_reader.proofs.ReadRows.{row_or_none}
use Rattle.report_reader.proofs.ReadValueParts.{not_said}
use Rattle.report_reader.proofs.values.read_versions.Goals as goal

pub returns : goal.returns
returns c =
    let script = c.args.script.now in
    row_or_none (AreVersionsIn script) (λ versions. join_with_byte 124 (map (version_text script) versions)) (versions_word script) c.args.text.now c.args.text.now c.read_each_version.result (not_said _ c.is_none.result c.is_none.ensures c.if-is_none.false)
    (λ _ _. (λ same. same, λ same. same)) c.read_each_version.ensures
