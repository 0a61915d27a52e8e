use Rattle.std.proofs.Common.{map, take}
use Rattle.std.specs.List.{join_with_byte}
use Rattle.report_lines.specs.Text.{need_text}
use Rattle.outside.specs.Gathering.{Adds}
use Rattle.report_text.proofs.clocks.write_each_need.Given as goal

-- the needs that are written
abbrev pub invariant-loop-i : goal.invariant-loop-i
invariant-loop-i g l = Adds g.K.Sink.written g.K.Sink.faults l.fn.out l.out (join_with_byte 44 (map (need_text l.script) (take l.i l.needs)))
