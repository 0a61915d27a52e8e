use Rattle.std.proofs.Common.{map, take}
use Rattle.std.specs.List.{join_with_byte}
use Rattle.report_lines.specs.Text.{field_text}
use Rattle.outside.specs.Gathering.{Adds}
use Rattle.report_text.proofs.values.write_fields.Given as goal

-- the fields that are written
abbrev pub invariant-loop-i : goal.invariant-loop-i
invariant-loop-i g l = Adds g.K.Sink.written g.K.Sink.faults l.fn.out l.out (join_with_byte 44 (map field_text (take l.i l.fields)))
