use Rattle.std.proofs.Common.{map}
use Rattle.std.specs.List.{join_with_byte}
use Rattle.session_known.specs.Form.{IsClockIn}
use Rattle.report_lines.specs.Text.{clock_word, count_text}
use Rattle.report_reader.proofs.ReadClocks.{not_dash}
use Rattle.report_reader.proofs.ReadRows.{row_or_none}
use Rattle.report_reader.proofs.clocks.read_clock.Goals as goal

pub returns : goal.returns
returns c =
    let script = c.args.script.now in
    row_or_none (IsClockIn script) (λ items. join_with_byte 44 (map (count_text script) items)) (clock_word script) c.args.text.now c.args.text.now c.read_counts.result (not_dash c.args.text.now c.as_slice.result.now c.eq.result c.eq.ensures c.if-eq.false c.as_slice.ensures)
    (λ _ _. (λ same. same, λ same. same)) c.read_counts.ensures
